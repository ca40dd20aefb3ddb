use Rattle.std.proofs.Common.{◌≡◌, ◌≤◌, ◌-◌}
use Rattle.xbgp_view.specs.Sections.{below_code}
use Rattle.spk_native.specs.Export.{native_section}
use Rattle.spk_native.proofs.export.native_section.Given as goal

abbrev pub invariant-codes : goal.invariant-codes
invariant-codes l =
    (l.out ≡ record { octets = native_section (below_code l.from l.route.route); capacity = l.fn.out.capacity })
    × (l.from ≤ 256)

abbrev pub decreases-codes : goal.decreases-codes
decreases-codes l = 256 - l.from

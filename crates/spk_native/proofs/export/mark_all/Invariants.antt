use Rattle.std.proofs.Common.{◌≡◌, ◌≤◌, ◌-◌}
use Rattle.spk_native.specs.Marks.{marked_below}
use Rattle.spk_native.proofs.export.mark_all.Given as goal

abbrev pub invariant-codes : goal.invariant-codes
invariant-codes l =
    (l.route ≡ record { route = marked_below l.from l.fn.route.route; kept = l.fn.route.kept }) × (l.from ≤ 256)

abbrev pub decreases-codes : goal.decreases-codes
decreases-codes l = 256 - l.from

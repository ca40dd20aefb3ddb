use Rattle.std.proofs.Common.{◌≡◌, ◌≤◌, ◌-◌}
use Rattle.bgp_attr.specs.Routes.{canon}
use Rattle.xbgp_view.specs.Sections.{below_code}
use Rattle.xbgp_view.proofs.view.spell.Given as goal

abbrev pub invariant-codes : goal.invariant-codes
invariant-codes g l =
    (l.out ≡ record { octets = canon (below_code l.from (g.R.RouteView.route l.view)); capacity = l.fn.out.capacity })
    × (l.from ≤ 256)

abbrev pub decreases-codes : goal.decreases-codes
decreases-codes g l = 256 - l.from

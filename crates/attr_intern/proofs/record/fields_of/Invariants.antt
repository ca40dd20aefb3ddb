use Rattle.std.proofs.Common.{◌≡◌, ◌≤◌, ◌-◌, length}
use Rattle.bgp_attr.specs.Routes.{canon}
use Rattle.xbgp_view.specs.Sections.{below_code}
use Rattle.attr_intern.specs.Fields.{fields_from}
use Rattle.attr_intern.proofs.record.fields_of.Given as goal

-- the fields of the attributes below the next code are in the list
abbrev pub invariant-codes : goal.invariant-codes
invariant-codes g l =
    (l.fields.items ≡ fields_from 0 (below_code l.from (g.R.RouteView.route l.view)))
    × (l.at ≡ length (canon (below_code l.from (g.R.RouteView.route l.view))))
    × (l.from ≤ 256)

abbrev pub decreases-codes : goal.decreases-codes
decreases-codes g l = 256 - l.from

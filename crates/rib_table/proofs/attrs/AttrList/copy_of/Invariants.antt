use Rattle.std.proofs.Common.{◌≡◌, ◌≤◌, ◌-◌}
use Rattle.xbgp_view.specs.Sections.{below_code}
use Rattle.rib_table.proofs.attrs.AttrList.copy_of.Given as goal

-- the attributes below the next code are in the list
abbrev pub invariant-codes : goal.invariant-codes
invariant-codes g l = (l.nodes.items ≡ below_code l.from (g.R.RouteView.route l.view)) × (l.from ≤ 256)

abbrev pub decreases-codes : goal.decreases-codes
decreases-codes g l = 256 - l.from

use Rattle.std.proofs.Common.{◌≡◌, length}
use Rattle.bgp_attr.specs.Walks.{attributes_from}
use Rattle.xbgp_view.specs.Sections.{found_from}
use Rattle.xbgp_view.proofs.find.first_from.Given as goal

abbrev pub invariant-attrs : goal.invariant-attrs
invariant-attrs l = found_from l.from l.attrs ≡ found_from l.from (attributes_from 0 l.section)

abbrev pub decreases-attrs : goal.decreases-attrs
decreases-attrs l = length l.attrs

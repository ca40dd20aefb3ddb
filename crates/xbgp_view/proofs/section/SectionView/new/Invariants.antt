use Rattle.std.proofs.Common.{◌≡◌, [], length}
use Rattle.bgp_attr.specs.Walks.{attributes_from}
use Rattle.xbgp_view.specs.Indexes.{index_route, walked_route}
use Rattle.xbgp_view.proofs.section.SectionView.new.Given as goal

-- the attributes that are left finish the route
abbrev pub invariant-attrs : goal.invariant-attrs
invariant-attrs l = record {
  route : walked_route (index_route 0 l.index) l.attrs ≡ walked_route [] (attributes_from 0 l.section);
  count : length l.index ≡ 256;
}

abbrev pub decreases-attrs : goal.decreases-attrs
decreases-attrs l = length l.attrs

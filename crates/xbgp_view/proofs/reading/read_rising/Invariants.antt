use Rattle.std.proofs.Common.{◌≡◌, ◌++◌, length}
use Rattle.bgp_attr.specs.declared.TheConstants.{MAX_CANONICAL}
use Rattle.bgp_attr.specs.Routes.{canon}
use Rattle.bgp_attr.specs.Walks.{attributes_from}
use Rattle.xbgp_view.specs.Indexes.{entries_of}
use Rattle.xbgp_view.proofs.RisingLemmas.{RiseFrom}
use Rattle.xbgp_view.proofs.reading.read_rising.Given as goal

-- the codes so far rise, and the attributes that are left finish the section
abbrev pub invariant-attrs : goal.invariant-attrs
invariant-attrs l = record {
  rising : RiseFrom l.from (entries_of l.attrs) → RiseFrom 0 (entries_of (attributes_from 0 l.section));
  octets : l.out.octets ++ canon (entries_of l.attrs) ≡ canon (entries_of (attributes_from 0 l.section));
  capacity : l.out.capacity ≡ MAX_CANONICAL;
}

abbrev pub decreases-attrs : goal.decreases-attrs
decreases-attrs l = length l.attrs

use Rattle.std.proofs.Common.{length}
use Rattle.bgp_attr.specs.Walks.{attributes_from}
use Rattle.xbgp_view.specs.Indexes.{entries_of}
use Rattle.xbgp_view.proofs.FormLemmas.{HaveForm}
use Rattle.xbgp_view.proofs.RisingLemmas.{RiseFrom}
use Rattle.xbgp_view.proofs.reading.is_canonical.Given as goal

-- the codes so far rise, and the attributes so far have their canonical forms
abbrev pub invariant-attrs : goal.invariant-attrs
invariant-attrs l = record {
  rising : RiseFrom l.from (entries_of l.attrs) → RiseFrom 0 (entries_of (attributes_from 0 l.section));
  form : HaveForm l.attrs → HaveForm (attributes_from 0 l.section);
}

abbrev pub decreases-attrs : goal.decreases-attrs
decreases-attrs l = length l.attrs

use Rattle.xbgp_view.proofs.EditsLemmas.{AreOctets-slice}
use Rattle.xbgp_view.proofs.FormLemmas.{IsCanonical-formed}
use Rattle.xbgp_view.proofs.reading.is_canonical.Goals as goal

pub returns : goal.returns
returns c =
    let s = c.args.section.now in
    let none = c.in_default.ensures.end.0 in
    IsCanonical-formed s (AreOctets-slice s (λ i. (c.type_inv.section i).fits)) c.requires
    (c.attrs.invariant.rising (rw none tt)) (c.attrs.invariant.form (rw none tt))

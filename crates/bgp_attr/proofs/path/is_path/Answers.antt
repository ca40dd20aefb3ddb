use Rattle.std.proofs.Common.{sym, ◌∙◌, ap, length}
use Rattle.std.specs.Prelude.{◌==◌}
use Rattle.bgp_attr.proofs.PathsLemmas.{segments_rest-some, segments_rest-none}
use Rattle.bgp_attr.proofs.path.is_path.Goals as goal

pub segments-preserved : goal.segments-preserved
segments-preserved c =
    rw c.split_at.ensures.back (sym (segments_rest-some c.args.width c.segments.rest.now c.in-Some.size (sym c.size_of.ensures.size ∙ c.in-Some.is)) ∙ c.segments.invariant)

pub returns : goal.returns
returns c =
    c.is_empty.ensures
    ∙ ap (λ r. length r == 0) (sym (segments_rest-none c.args.width c.segments.rest.now (sym c.size_of.ensures.size ∙ c.in_default.is)) ∙ c.segments.invariant)

use Rattle.std.proofs.Common.{ap, sym, subst, ◌∙◌, is_some}
use Rattle.std.specs.Prelude.{not}
use Rattle.std.proofs.lemmas.Bool.{not-true, not-false}
use Rattle.bgp_attr.specs.Routes.{attribute_at, route_of}
use Rattle.xbgp_view.specs.Sections.{IsCanonical}
use Rattle.xbgp_view.specs.Views.{Edited}
use Rattle.xbgp_view.proofs.EditsLemmas.{without_attribute-absent, gap-empty}
use Rattle.xbgp_view.proofs.overlay.Overlay.unset.Goals as goal

pub returns-then-is_empty-clause-found : goal.returns-then-is_empty-clause-found
returns-then-is_empty-clause-found c =
    let s = c.as_slice.result.now in
    let g = c.gap_at-gap.result in
    let is = subst IsCanonical (sym c.as_slice.ensures.value) c.self.invariant.0 in
    sym (not-true (is_some (attribute_at c.args.self.now.route c.args.code))
    (ap (λ (o : Edited). not (is_some (attribute_at o.route c.args.code))) (sym c.self.view_is)
    ∙ ap (λ t. not (is_some (attribute_at (route_of t) c.args.code))) (sym c.as_slice.ensures.value)
    ∙ sym (gap-empty c.args.code s (g.start, g.end) is c.gap_at-gap.ensures)
    ∙ sym c.is_empty.ensures
    ∙ c.if-is_empty.true))

pub returns-then-is_empty-clause-after : goal.returns-then-is_empty-clause-after
returns-then-is_empty-clause-after c =
    ap (λ r. record { route = r; kept = c.args.self.now.kept })
    (sym (without_attribute-absent c.args.code c.args.self.now.route (sym (returns-then-is_empty-clause-found c))))

pub returns-clause-found : goal.returns-clause-found
returns-clause-found c =
    let s = c.as_slice.result.now in
    let g = c.gap_at-gap.result in
    let is = subst IsCanonical (sym c.as_slice.ensures.value) c.self.invariant.0 in
    sym (not-false (is_some (attribute_at c.args.self.now.route c.args.code))
    (ap (λ (o : Edited). not (is_some (attribute_at o.route c.args.code))) (sym c.self.view_is)
    ∙ ap (λ t. not (is_some (attribute_at (route_of t) c.args.code))) (sym c.as_slice.ensures.value)
    ∙ sym (gap-empty c.args.code s (g.start, g.end) is c.gap_at-gap.ensures)
    ∙ sym c.is_empty.ensures
    ∙ c.if-is_empty.false))

use Rattle.std.proofs.Common.{◌∙◌, ◌+◌, ◌≤◌, ◌<◌, ap, sym, subst}
use Rattle.std.proofs.lemmas.Bool.{OnTrue_from, lt-leb}
use Rattle.std.specs.Prelude.{is_some, not, unwrap_or}
use Rattle.xbgp_view.specs.Views.{code_from}
use Rattle.spk_native.proofs.ExportLemmas.{known-least, known-zero, native_section-known, not-swapped}
use Rattle.spk_native.proofs.export.has_known_alone.Goals as goal

pub returns-then-least-ge-ORIGIN-clause-known : goal.returns-then-least-ge-ORIGIN-clause-known
returns-then-least-ge-ORIGIN-clause-known c =
    let r = c.args.route.now.route in
    not-swapped (is_some c.code_from-then-least-ge-ORIGIN.result) c.is_none.result c.is_none.ensures
    ∙ ap (λ o. not (is_some o)) (c.code_from-then-least-ge-ORIGIN.ensures.value
    ∙ ap (λ n. code_from r (n + 1)) c.from.ensures)
    ∙ known-least r c.code_from.ensures.shape.rising
    (subst (λ n. 1 ≤ n) (c.unwrap_or-least.ensures ∙ ap (λ o. unwrap_or o 1) c.code_from.ensures.value)
    c.if-least-ge-ORIGIN.true)

pub returns-then-least-ge-ORIGIN-clause-whole : goal.returns-then-least-ge-ORIGIN-clause-whole
returns-then-least-ge-ORIGIN-clause-whole c =
    OnTrue_from c.is_none.result _
    (λ none. native_section-known c.args.route.now.route (sym (returns-then-least-ge-ORIGIN-clause-known c) ∙ none))

pub returns-else-least-ge-ORIGIN-clause-known : goal.returns-else-least-ge-ORIGIN-clause-known
returns-else-least-ge-ORIGIN-clause-known c =
    lt-leb 1 c.unwrap_or-least.result c.if-least-ge-ORIGIN.false
    ∙ known-zero c.args.route.now.route
    (subst (λ n. n < 1) (c.unwrap_or-least.ensures ∙ ap (λ o. unwrap_or o 1) c.code_from.ensures.value)
    c.if-least-ge-ORIGIN.false)

use Rattle.std.proofs.Common.{◌∙◌, ap, sym, subst, true, IfSome, ◌≡◌}
use Rattle.spk_native.specs.Export.{is_transitive}
use Rattle.spk_native.proofs.MarksLemmas.{marked_at-none, IsMarkSet-some}
use Rattle.spk_native.proofs.export.mark_partial.Goals as goal

pub returns-in_default : goal.returns-in_default
returns-in_default c =
    ap (λ r. record { route = r; kept = c.args.route.now.kept })
    (sym (marked_at-none c.args.code c.args.route.now.route c.attribute.ensures.shape.rising
    (sym (sym c.in_default.is ∙ c.attribute.ensures.value))))

pub returns : goal.returns
returns c =
    let set = IsMarkSet-some c.args.route.now.route c.args.code c.flags-flags.result c.copied-value.result.now
    c.in-Some.held c.attribute.ensures.shape c.in-Some.ensures.value c.flags-flags.ensures
    (c.copied-value.ensures ∙ c.value.ensures.value) c.requires.unknown
    (ap is_transitive c.flags-flags.ensures
    ∙ subst (λ o. IfSome o (λ a. is_transitive a.flags ≡ true)) (sym c.in-Some.ensures.value) c.requires.transitive) in
    (rw set.fits at c.set.ensures.after)
    ∙ ap (λ r. record { route = r; kept = c.args.route.now.kept }) set.same

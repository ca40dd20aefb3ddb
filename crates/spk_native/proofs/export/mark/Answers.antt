use Rattle.std.proofs.Common.{◌∙◌, ap, sym}
use Rattle.bgp_attr.specs.Routes.{attribute_at}
use Rattle.xbgp_view.proofs.ViewsLemmas.{flags_and_length-some, value_in}
use Rattle.spk_native.proofs.MarksLemmas.{marked_at-known, marked_at-none, marked_at-left, attribute_at-no_flags}
use Rattle.spk_native.proofs.MarksLemmas.{is_transitive-unset}
use Rattle.spk_native.proofs.export.mark.Goals as goal

pub returns-then-is_known : goal.returns-then-is_known
returns-then-is_known c =
    ap (λ r. record { route = r; kept = c.args.route.now.kept })
    (sym (marked_at-known c.args.code c.args.route.now.route (sym c.is_known.ensures ∙ c.if-is_known.true)))

pub returns-in_default : goal.returns-in_default
returns-in_default c =
    let r = c.args.route.now.route in
    ap (λ l. record { route = l; kept = c.args.route.now.kept })
    (sym (marked_at-none c.args.code r c.flags_len.ensures.shape.rising
    (attribute_at-no_flags r c.args.code (sym c.in_default.is ∙ c.flags_len.ensures.value))))

pub returns-else-flags-ne0 : goal.returns-else-flags-ne0
returns-else-flags-ne0 c =
    let r = c.args.route.now.route in
    let o = attribute_at r c.args.code in
    let told = flags_and_length-some o c.in-Some.flags c.in-Some.field-0-1 c.in-Some.ensures.value in
    ap (λ l. record { route = l; kept = c.args.route.now.kept })
    (sym (marked_at-left c.args.code r (record { flags = c.in-Some.flags; value = value_in o })
    c.flags_len.ensures.shape.rising told.0 (is_transitive-unset c.in-Some.flags c.if-flags-ne0.false)))

use Rattle.std.proofs.Common.{◌≡◌, ◌++◌, length, ap, sym, ◌∙◌, arith}
use Rattle.std.proofs.lemmas.List.{append-nil}
use Rattle.bgp_attr.specs.Routes.{attribute_at, canonical, kept_flags}
use Rattle.xbgp_view.specs.Sections.{entry_of}
use Rattle.xbgp_view.proofs.ViewsLemmas.{IsOfRoute-attribute_at}
use Rattle.spk_native.specs.Export.{native_section}
use Rattle.spk_native.proofs.ExportLemmas.{native_section-left_out, native_section-sent}
use Rattle.spk_native.proofs.export.append_passed_on.Goals as goal

-- what is sent
sent : (c : goal.After-value) → native_section (entry_of c.args.code (attribute_at c.args.route.now.route c.args.code))
    ≡ canonical (c.args.code, record { flags = c.flags-flags.result; value = c.value.result.now })
sent c =
    native_section-sent c.args.route.now.route c.args.code c.flags-flags.result c.value.result.now c.in-Some.held
    c.in-Some.ensures.value c.flags-flags.ensures c.value.ensures.value
    (sym c.if-is_passed_on.true ∙ c.is_passed_on.ensures c.value.result.now)

pub append_attribute-requires-clause-room : goal.append_attribute-requires-clause-room
append_attribute-requires-clause-room c = omega (arith, c.requires, ap length (sent c))

pub append_attribute-requires-clause-kept : goal.append_attribute-requires-clause-kept
append_attribute-requires-clause-kept c =
    ap kept_flags c.flags-flags.ensures
    ∙ (IsOfRoute-attribute_at c.args.route.now.route c.args.code c.in-Some.held c.in-Some.ensures.shape
    c.in-Some.ensures.value).kept
    ∙ sym c.flags-flags.ensures

pub returns-then-is_passed_on : goal.returns-then-is_passed_on
returns-then-is_passed_on c =
    let out = c.args.out.now in
    c.append_attribute.ensures
    ∙ ap (λ t. record { octets = out.octets ++ t; capacity = out.capacity }) (sym (sent c.before))

pub returns-else-is_passed_on : goal.returns-else-is_passed_on
returns-else-is_passed_on c =
    let out = c.args.out.now in
    let none = native_section-left_out c.args.route.now.route c.args.code c.flags-flags.result c.in-Some.held
    c.in-Some.ensures.value c.flags-flags.ensures
    (λ value. sym c.if-is_passed_on.false ∙ c.is_passed_on.ensures value) in
    ap (λ t. record { octets = t; capacity = out.capacity })
    (sym (ap (λ t. out.octets ++ t) none ∙ append-nil out.octets))

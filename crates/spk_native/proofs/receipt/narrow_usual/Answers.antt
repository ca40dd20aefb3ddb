use Rattle.std.proofs.Common.{◌≡◌, ◌∙◌, Some, ap, subst, sym, length, nat_le, arith}
use Rattle.bgp_attr.specs.Paths.{path_ok}
use Rattle.bgp_attr.specs.Routes.{canon, with_attribute}
use Rattle.xb_wire.specs.declared.numbers.TheConstants.{MAX_SECTION}
use Rattle.xbgp_view.specs.Views.{code_from}
use Rattle.xbgp_view.proofs.ViewsLemmas.{IsEntry-attribute_at}
use Rattle.std.specs.Prelude.{MatchBool, is_some}
use Rattle.bgp_attr.specs.Routes.{Attribute}
use Rattle.spk_native.specs.Receipt.{is_wide_path, narrow}
use Rattle.spk_native.proofs.ReceiptLemmas.{faultless_path}
use Rattle.spk_native.proofs.UsualLemmas.{MatchBool-if, MatchBool-same, absent-code_from, narrow-narrow_path}
use Rattle.spk_native.proofs.UsualLemmas.{narrow-no_path}
use Rattle.spk_native.proofs.receipt.narrow_usual.Goals as goal

-- without AS_PATH the route stays as it is
stays : (c : goal.After-section_len) → narrow c.args.route.now.route ≡ c.args.route.now.route
stays c =
    let r = c.args.route.now.route in
    let alone = absent-code_from r 7 7
    (sym (c.if-is_some.ensures ∙ ap is_some (c.code_from.ensures.value ∙ ap (code_from r) c.from.ensures)))
    (omega arith) in
    narrow-no_path r alone (sym c.in_default.is ∙ c.attribute.ensures.value)

pub returns-in_default-clause-fits : goal.returns-in_default-clause-fits
returns-in_default-clause-fits c =
    ap (λ n. nat_le n MAX_SECTION) c.section_len.ensures.value
    ∙ ap (λ r. nat_le (length (canon r)) MAX_SECTION) (sym (stays c))

pub returns-in_default-clause-after : goal.returns-in_default-clause-after
returns-in_default-clause-after c =
    MatchBool-same (nat_le c.section_len.result 4068) c.args.route.now _
    (ap (λ r. record { route = r; kept = c.args.route.now.kept }) (sym (stays c)))

pub is_wide_path-requires-clause-path : goal.is_wide_path-requires-clause-path
is_wide_path-requires-clause-path c =
    ap (path_ok 4) c.value.ensures.value
    ∙ faultless_path 4 c.args.route.now.route (Some c.in-Some.path) c.requires.sound c.in-Some.ensures.value

pub narrow_path_of-path-requires-clause-path : goal.narrow_path_of-path-requires-clause-path
narrow_path_of-path-requires-clause-path c =
    faultless_path 4 c.args.route.now.route (Some c.in-Some.path) c.requires.sound c.in-Some.ensures.value

pub narrow_path_of-path-requires-clause-room : goal.narrow_path_of-path-requires-clause-room
narrow_path_of-path-requires-clause-room c =
    let r = c.args.route.now.route in
    let short = IsEntry-attribute_at r 2 c.in-Some.path c.in-Some.ensures.shape.entries (sym c.in-Some.ensures.value) in
    omega (arith, short.1, c.requires.short)

-- the route with the path that was written is the narrow one
narrowed : (c : goal.After-room-2-1)
    → with_attribute c.args.route.now.route 2 c.flags.result c.value-2.result.now ≡ narrow c.args.route.now.route
narrowed c =
    let r = c.args.route.now.route in
    let a = c.in-Some.path in
    let alone = absent-code_from r 7 7
    (sym (c.if-is_some.ensures ∙ ap is_some (c.code_from.ensures.value ∙ ap (code_from r) c.from.ensures)))
    (omega arith) in
    let fits = sym (c.if-is_wide_path.ensures ∙ ap is_wide_path c.value.ensures.value) in
    ap (λ f. with_attribute r 2 f c.value-2.result.now)
    (c.flags.ensures ∙ ap (λ (b : Attribute). b.flags) c.narrow_path_of-path.ensures)
    ∙ ap (λ v. with_attribute r 2 a.flags v)
    (c.value-2.ensures.value ∙ ap (λ (b : Attribute). b.value) c.narrow_path_of-path.ensures)
    ∙ sym (narrow-narrow_path r a alone c.in-Some.ensures.value fits)

pub returns-clause-fits : goal.returns-clause-fits
returns-clause-fits c = c.set.ensures.fits ∙ ap (λ r. nat_le (length (canon r)) MAX_SECTION) (narrowed c)

pub returns-clause-after : goal.returns-clause-after
returns-clause-after c =
    let here = c.args.route.now in
    subst (λ r. MatchBool c.set.result (c.set.new.self ≡ record { route = r; kept = here.kept })
    (c.set.new.self ≡ here)) (narrowed c)
    (MatchBool-if c.set.result _ c.set.new.self _ here c.set.ensures.fits c.set.ensures.after)

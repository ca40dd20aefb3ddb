use Rattle.std.proofs.Common.{◌≡◌, ◌∙◌, Some, ap, subst, sym, false, length, nat_le}
use Rattle.std.specs.Prelude.{MatchBool}
use Rattle.xb_wire.specs.declared.numbers.TheConstants.{MAX_MESSAGE}
use Rattle.bgp_attr.specs.Routes.{Attribute, canon, with_attribute}
use Rattle.spk_native.specs.Receipt.{inflow}
use Rattle.spk_native.proofs.ReceiptLemmas.{faultless_path}
use Rattle.spk_native.proofs.UsualLemmas.{MatchBool-if, MatchBool-same, inflow-no_path, inflow-with_path}
use Rattle.spk_native.proofs.UsualLemmas.{length-inflow_path}
use Rattle.spk_native.proofs.receipt.widen_path.Goals as goal

-- without AS_PATH the route stays as it is
stays : (c : goal.After-section_len) → inflow c.args.route.now.route false ≡ c.args.route.now.route
stays c =
    inflow-no_path c.args.route.now.route c.requires.alone (sym c.in_default.is ∙ c.attribute.ensures.value)

pub returns-in_default-clause-fits : goal.returns-in_default-clause-fits
returns-in_default-clause-fits c =
    ap (λ n. nat_le n MAX_MESSAGE) c.section_len.ensures.value
    ∙ ap (λ r. nat_le (length (canon r)) MAX_MESSAGE) (sym (stays c))

pub returns-in_default-clause-after : goal.returns-in_default-clause-after
returns-in_default-clause-after c =
    MatchBool-same (nat_le c.section_len.result 4096) c.args.route.now _
    (ap (λ r. record { route = r; kept = c.args.route.now.kept }) (sym (stays c)))

pub wide_path_of-requires-clause-path : goal.wide_path_of-requires-clause-path
wide_path_of-requires-clause-path c =
    faultless_path 2 c.args.route.now.route (Some c.in-Some.path) c.requires.sound c.in-Some.ensures.value

pub returns-in-None-clause-room : goal.returns-in-None-clause-room
returns-in-None-clause-room c =
    length-inflow_path c.args.route.now.route c.in-Some.path (length c.args.room.now) c.requires.alone
    c.in-Some.ensures.value c.in-None.ensures

-- the route with the path that was written is the one that was received
widened : (c : goal.After-slice_known-in-Some-wide_path_of-1)
    → with_attribute c.args.route.now.route 2 c.flags.result c.value.result.now ≡ inflow c.args.route.now.route false
widened c =
    let r = c.args.route.now.route in
    let a = c.in-Some.path in
    ap (λ f. with_attribute r 2 f c.value.result.now)
    (c.flags.ensures ∙ ap (λ (b : Attribute). b.flags) c.in-Some-wide_path_of.ensures)
    ∙ ap (λ v. with_attribute r 2 a.flags v)
    (c.value.ensures.value ∙ ap (λ (b : Attribute). b.value) c.in-Some-wide_path_of.ensures)
    ∙ sym (inflow-with_path r a c.requires.alone c.in-Some.ensures.value)

pub returns-in-Some-wide_path_of-clause-fits : goal.returns-in-Some-wide_path_of-clause-fits
returns-in-Some-wide_path_of-clause-fits c =
    c.set.ensures.fits ∙ ap (λ r. nat_le (length (canon r)) MAX_MESSAGE) (widened c)

pub returns-in-Some-wide_path_of-clause-after : goal.returns-in-Some-wide_path_of-clause-after
returns-in-Some-wide_path_of-clause-after c =
    let here = c.args.route.now in
    subst (λ r. MatchBool c.set.result (c.set.new.self ≡ record { route = r; kept = here.kept })
    (c.set.new.self ≡ here)) (widened c)
    (MatchBool-if c.set.result _ c.set.new.self _ here c.set.ensures.fits c.set.ensures.after)

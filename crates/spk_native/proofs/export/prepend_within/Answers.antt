use Rattle.std.proofs.Common.{◌≡◌, ◌∙◌, refl, ap, sym, length, take, nat_le, arith}
use Rattle.std.specs.Prelude.{is_some}
use Rattle.bgp_attr.specs.declared.TheConstants.{MAX_CANONICAL}
use Rattle.bgp_attr.specs.declared.codes.TheConstants.{AS_PATH}
use Rattle.bgp_attr.specs.declared.flags.TheConstants.{WELL_KNOWN}
use Rattle.bgp_attr.specs.Routes.{canon, with_attribute}
use Rattle.xbgp_view.specs.Views.{Edited}
use Rattle.bgp_path.specs.Parts.{prepended}
use Rattle.spk_native.proofs.NarrowLemmas.{take-written}
use Rattle.spk_native.proofs.CarryLemmas.{IsPrepended, IsPrepended-read, read-not-none}
use Rattle.spk_native.proofs.export.prepend_within.Goals as goal

pub returns-in_default-wide-clause-after : goal.returns-in_default-wide-clause-after
returns-in_default-wide-clause-after c =
    read-not-none c.args.route.now.route c.in-Some.held c.value.result.now _ c.requires.path c.in-Some.ensures.value
    c.value.ensures.value (ap is_some (sym c.in_default-wide.is) ∙ c.wide.ensures.path)

-- the path of the route with the number prepended
path : (c : goal.After-set) → IsPrepended c.args.route.now.route c.args.asn c.in-Some-wide.path
path c =
    IsPrepended-read c.args.route.now.route c.args.asn c.in-Some-wide.path c.in-Some.held c.value.result.now
    c.attribute.ensures.shape c.requires.short c.in-Some.ensures.value c.value.ensures.value
    c.in-Some-wide.ensures.whole c.prepend_into.ensures.bound

-- what is set
text : (c : goal.After-set)
    → take c.unwrap_or-len.result c.prepend_into.new.out ≡ prepended c.in-Some-wide.path c.args.asn
text c =
    take-written c.prepend_into.result _ c.prepend_into.new.out (prepended c.in-Some-wide.path c.args.asn)
    c.unwrap_or-len.result (length c.args.octets.now) c.prepend_into.ensures.written refl
    (omega (arith, (path c).short, c.requires.room)) c.unwrap_or-len.ensures

pub returns-clause-after : goal.returns-clause-after
returns-clause-after c =
    let r = c.args.route.now.route in
    let set = ap (λ t. nat_le (length (canon (with_attribute r AS_PATH WELL_KNOWN t))) MAX_CANONICAL) (text c)
    ∙ (path c).fits in
    (rw set at c.set.ensures.after)
    ∙ ap (λ t. record { route = with_attribute r AS_PATH WELL_KNOWN t; kept = c.args.route.now.kept })
    (text c ∙ (path c).text)

pub returns-clause-bound : goal.returns-clause-bound
returns-clause-bound c =
    let r = c.args.route.now.route in
    omega (
      arith,
      ap (λ (e : Edited). length (canon e.route)) (returns-clause-after c),
      ap (λ t. length (canon (with_attribute r AS_PATH WELL_KNOWN t))) (path c).text,
      (path c).bound,
    )

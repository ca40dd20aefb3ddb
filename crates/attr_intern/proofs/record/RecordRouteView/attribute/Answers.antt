use Rattle.std.proofs.Common.{Some, None, ap, ◌∙◌, arith, length}
use Rattle.bgp_attr.specs.Routes.{attribute_at}
use Rattle.attr_intern.specs.Fields.{attribute_in}
use Rattle.attr_intern.proofs.FieldsLemmas.{found_in}
use Rattle.attr_intern.proofs.record.RecordRouteView.attribute.Goals as goal

pub returns-in_err-field-clause-value : goal.returns-in_err-field-clause-value
returns-in_err-field-clause-value c =
    c.from_residual.ensures
    ∙ found_in _ _ c.args.code None c.self.invariant.0 (c.deref.ensures.value ∙ c.self.invariant.1)
    c.in_err-field.ensures
    ∙ ap (λ r. attribute_at r c.args.code) c.self.view_is

pub held_in-requires : goal.held_in-requires
held_in-requires c =
    let is = found_in _ _ c.args.code (Some c.in_ok-field.field.now) c.self.invariant.0
    (c.deref.ensures.value ∙ c.self.invariant.1) c.in_ok-field.ensures in
    let len = ap length c.as_slice.ensures.value in record {
      inside = omega (arith, len, is.inside);
      short = omega (arith, len, ap length c.self.invariant.0.octets, c.self.invariant.0.route.short);
    }

pub returns-clause-value : goal.returns-clause-value
returns-clause-value c =
    let is = found_in _ _ c.args.code (Some c.in_ok-field.field.now) c.self.invariant.0
    (c.deref.ensures.value ∙ c.self.invariant.1) c.in_ok-field.ensures in
    ap (λ a. Some a) c.held_in.ensures
    ∙ ap (λ s. Some (attribute_in s c.in_ok-field.field.now)) c.as_slice.ensures.value
    ∙ is.attribute ∙ ap (λ r. attribute_at r c.args.code) c.self.view_is

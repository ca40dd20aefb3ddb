use Rattle.std.proofs.Common.{Some, None, ap, ◌∙◌}
use Rattle.xbgp_view.specs.Views.{code_from}
use Rattle.attr_intern.proofs.FieldsLemmas.{code_found}
use Rattle.attr_intern.proofs.record.RecordRouteView.code_from.Goals as goal

pub returns-in_err-field-clause-value : goal.returns-in_err-field-clause-value
returns-in_err-field-clause-value c =
    c.from_residual.ensures
    ∙ code_found _ _ c.args.from None (c.deref.ensures.value ∙ c.self.invariant.1) c.in_err-field.ensures
    ∙ ap (λ r. code_from r c.args.from) c.self.view_is

pub returns-clause-value : goal.returns-clause-value
returns-clause-value c =
    code_found _ _ c.args.from (Some c.in_ok-field.field.now) (c.deref.ensures.value ∙ c.self.invariant.1)
    c.in_ok-field.ensures ∙ ap (λ r. code_from r c.args.from) c.self.view_is

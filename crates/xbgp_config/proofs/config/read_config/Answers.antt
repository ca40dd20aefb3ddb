use Rattle.std.proofs.Common.{◌≡◌, refl, sym, ap, subst}
use Rattle.toml.specs.View.{table_view}
use Rattle.xb_fields.specs.declared.fault.FieldError.TheVariants.{Bad}
use Rattle.xb_fields.specs.Fields.{Judged, ◌>>=◌, document}
use Rattle.xb_fields.specs.Outcomes.{Gives, field_fault}
use Rattle.xb_fields.proofs.OutcomeLemmas.{gives-error, gives-bad, gives-ok}
use Rattle.xbgp_config.specs.Configs.{Config, config, config_of}
use Rattle.xbgp_config.proofs.config.read_config.Goals as goal

pub returns-in_err-table-clause-bad : goal.returns-in_err-table-clause-bad
unfolding config
returns-in_err-table-clause-bad c = λ fault is.
    let below : Judged Config = document c.args.text.now >>= config_of in
    gives-bad field_fault c.from_residual.result below (Bad fault) fault refl
    (gives-error field_fault c.from_residual.result c.in_err-table.field-0.0 (document c.args.text.now) below c.from_residual.ensures.1 c.in_err-table.ensures
    (λ bad e. ap (λ m. m >>= config_of) e))
    is

pub returns-clause-good : goal.returns-clause-good
unfolding config
returns-clause-good c =
    let same : config c.args.text.now ≡ config_of (table_view c.in_ok-table.table) = ap (λ m. m >>= config_of) c.in_ok-table.ensures in
    gives-ok field_fault c.config_of.result (config c.args.text.now)
    (subst (λ (j : Judged Config). Gives c.config_of.result j) (sym same) c.config_of.ensures)

pub returns-clause-bad : goal.returns-clause-bad
unfolding config
returns-clause-bad c = λ fault is.
    let same : config c.args.text.now ≡ config_of (table_view c.in_ok-table.table) = ap (λ m. m >>= config_of) c.in_ok-table.ensures in
    gives-bad field_fault c.config_of.result (config c.args.text.now) (Bad fault) fault refl
    (subst (λ (j : Judged Config). Gives c.config_of.result j) (sym same) c.config_of.ensures) is

use Rattle.toml.specs.View.{table_view}
use Rattle.xb_fields.specs.Fields.{required}
use Rattle.xb_fields.proofs.OutcomeLemmas.{gives-fault, gives-error}
use Rattle.xb_fields.specs.Outcomes.{field_fault}
use Rattle.xbgp_config.specs.Configs.{config_of}
use Rattle.xbgp_config.proofs.ConfigLemmas.{config_of-IsConfig}
use Rattle.xbgp_config.proofs.config.config_of.Goals as goal

pub returns-in_err-check_keys : goal.returns-in_err-check_keys
unfolding config_of required
returns-in_err-check_keys c =
    gives-fault c.from_residual.result _ c.in_err-check_keys.field-0.0 c.from_residual.ensures.1
    (rw (← c.in_err-check_keys.ensures))

pub returns-in_err-required : goal.returns-in_err-required
unfolding config_of required
returns-in_err-required c =
    gives-fault c.from_residual-in_err-required.result _ c.in_err-required.field-0.0 c.from_residual-in_err-required.ensures.1
    (rw (← c.in_ok-check_keys.ensures, ← c.in_err-required.ensures))

pub returns-in_err-speaker : goal.returns-in_err-speaker
unfolding config_of required
returns-in_err-speaker c =
    gives-error field_fault c.from_residual-in_err-speaker.result c.in_err-speaker.field-0.0 _ _ c.from_residual-in_err-speaker.ensures.1 c.in_err-speaker.ensures
    (λ bad below. rw (← c.in_ok-check_keys.ensures, ← c.in_ok-required.ensures, below))

pub returns-in_err-optional_list : goal.returns-in_err-optional_list
unfolding config_of required
returns-in_err-optional_list c =
    gives-fault c.from_residual-in_err-optional_list.result _ c.in_err-optional_list.field-0.0 c.from_residual-in_err-optional_list.ensures.1
    (rw (← c.in_ok-check_keys.ensures, ← c.in_ok-required.ensures, c.in_ok-speaker.ensures, ← c.in_err-optional_list.ensures.values))

pub returns-in_err-peers : goal.returns-in_err-peers
unfolding config_of required
returns-in_err-peers c =
    gives-error field_fault c.from_residual-in_err-peers.result c.in_err-peers.field-0.0 _ _ c.from_residual-in_err-peers.ensures.1 c.in_err-peers.ensures
    (λ bad below. rw (← c.in_ok-check_keys.ensures, ← c.in_ok-required.ensures, c.in_ok-speaker.ensures, ← c.in_ok-optional_list.ensures.values, below))

pub returns-in_err-optional_list-2 : goal.returns-in_err-optional_list-2
unfolding config_of required
returns-in_err-optional_list-2 c =
    gives-fault c.from_residual-in_err-optional_list-2.result _ c.in_err-optional_list-2.field-0.0 c.from_residual-in_err-optional_list-2.ensures.1
    (rw (← c.in_ok-check_keys.ensures, ← c.in_ok-required.ensures, c.in_ok-speaker.ensures, ← c.in_ok-optional_list.ensures.values, c.in_ok-peers.ensures, ← c.in_err-optional_list-2.ensures.values))

pub returns-in_err-costs : goal.returns-in_err-costs
unfolding config_of required
returns-in_err-costs c =
    gives-error field_fault c.from_residual-in_err-costs.result c.in_err-costs.field-0.0 _ _ c.from_residual-in_err-costs.ensures.1 c.in_err-costs.ensures
    (λ bad below. rw (← c.in_ok-check_keys.ensures, ← c.in_ok-required.ensures, c.in_ok-speaker.ensures, ← c.in_ok-optional_list.ensures.values, c.in_ok-peers.ensures, ← c.in_ok-optional_list-2.ensures.values, below))

pub returns : goal.returns
unfolding config_of required
returns c =
    rw (← c.in_ok-check_keys.ensures, ← c.in_ok-required.ensures, c.in_ok-speaker.ensures, ← c.in_ok-optional_list.ensures.values, c.in_ok-peers.ensures, ← c.in_ok-optional_list-2.ensures.values, c.in_ok-costs.ensures)

pub invariant_of-result : goal.invariant_of-result
unfolding config_of required
invariant_of-result c =
    config_of-IsConfig (table_view c.args.table.now) _
    (rw (← c.in_ok-check_keys.ensures, ← c.in_ok-required.ensures, c.in_ok-speaker.ensures, ← c.in_ok-optional_list.ensures.values, c.in_ok-peers.ensures, ← c.in_ok-optional_list-2.ensures.values, c.in_ok-costs.ensures))

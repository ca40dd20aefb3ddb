use Rattle.xb_fields.proofs.OutcomeLemmas.{gives-fault, gives-error}
use Rattle.xb_fields.specs.Outcomes.{field_fault}
use Rattle.xbgp_config.specs.Configs.{speaker_part}
use Rattle.xbgp_config.proofs.speaker.read_speaker.Goals as goal

pub returns-in_err-table : goal.returns-in_err-table
unfolding speaker_part
returns-in_err-table c = gives-fault c.from_residual.result _ c.in_err-table.field-0.0 c.from_residual.ensures.1 (rw (← c.in_err-table.ensures))

pub returns-in_err-fields : goal.returns-in_err-fields
unfolding speaker_part
returns-in_err-fields c = gives-fault c.from_residual-in_err-fields.result _ c.in_err-fields.field-0.0 c.from_residual-in_err-fields.ensures.1 (rw (← c.in_ok-table.ensures, ← c.in_err-fields.ensures))

pub returns-in_err-listed : goal.returns-in_err-listed
unfolding speaker_part
returns-in_err-listed c = gives-fault c.from_residual-in_err-listed.result _ c.in_err-listed.field-0.0 c.from_residual-in_err-listed.ensures.1 (rw (← c.in_ok-table.ensures, ← c.in_ok-fields.ensures, ← c.in_err-listed.ensures.values))

pub returns-in_err-networks : goal.returns-in_err-networks
unfolding speaker_part
returns-in_err-networks c =
    gives-error field_fault c.from_residual-in_err-networks.result c.in_err-networks.field-0.0 _ _ c.from_residual-in_err-networks.ensures.1 c.in_err-networks.ensures
    (λ bad below. rw (← c.in_ok-table.ensures, ← c.in_ok-fields.ensures, ← c.in_ok-listed.ensures.values, below))

pub returns : goal.returns
unfolding speaker_part
returns c = rw (← c.in_ok-table.ensures, ← c.in_ok-fields.ensures, ← c.in_ok-listed.ensures.values, c.in_ok-networks.ensures)

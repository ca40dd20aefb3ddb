use Rattle.xbgp_manifest.specs.Views.{program_view}
use Rattle.xbgp_manifest.specs.Manifests.{program_fields}
use Rattle.xb_fields.proofs.OutcomeLemmas.{gives-view_fault, gives-view_error}
use Rattle.xbgp_manifest.proofs.programs.program_fields.Goals as goal

pub returns-in_err-table : goal.returns-in_err-table
unfolding program_fields
returns-in_err-table c = gives-view_fault (λ f. program_view f) c.from_residual.result _ c.in_err-table.field-0.0 c.from_residual.ensures.1 (rw (← c.new-at.ensures, ← c.in_err-table.ensures))

pub returns-in_err-name : goal.returns-in_err-name
unfolding program_fields
returns-in_err-name c =
    gives-view_fault (λ f. program_view f) c.from_residual-in_err-name.result _ c.in_err-name.field-0.0 c.from_residual-in_err-name.ensures.1 (rw (← c.new-at.ensures, ← c.in_ok-table.ensures, ← c.in_err-name.ensures))

pub returns-in_err-point : goal.returns-in_err-point
unfolding program_fields
returns-in_err-point c =
    gives-view_fault (λ f. program_view f) c.from_residual-in_err-point.result _ c.in_err-point.field-0.0 c.from_residual-in_err-point.ensures.1
    (rw (← c.new-at.ensures, ← c.in_ok-table.ensures, ← c.in_ok-name.ensures, ← c.in_err-point.ensures))

pub returns-in_err-fuel : goal.returns-in_err-fuel
unfolding program_fields
returns-in_err-fuel c =
    gives-view_fault (λ f. program_view f) c.from_residual-in_err-fuel.result _ c.in_err-fuel.field-0.0 c.from_residual-in_err-fuel.ensures.1
    (rw (← c.new-at.ensures, ← c.in_ok-table.ensures, ← c.in_ok-name.ensures, ← c.in_ok-point.ensures, ← c.in_err-fuel.ensures.value))

pub returns-in_err-octets : goal.returns-in_err-octets
unfolding program_fields
returns-in_err-octets c =
    gives-view_error (λ f. program_view f) c.from_residual-in_err-octets.result c.in_err-octets.field-0.0 _ _ c.from_residual-in_err-octets.ensures.1 c.in_err-octets.ensures
    (λ bad below. rw (← c.new-at.ensures, ← c.in_ok-table.ensures, ← c.in_ok-name.ensures, ← c.in_ok-point.ensures, ← c.in_ok-fuel.ensures.value, below))

pub returns : goal.returns
unfolding program_fields
returns c = rw (← c.new-at.ensures, ← c.in_ok-table.ensures, ← c.in_ok-name.ensures, ← c.in_ok-point.ensures, ← c.in_ok-fuel.ensures.value, c.in_ok-octets.ensures)

use Rattle.std.proofs.Common.{refl}
use Rattle.toml.specs.View.{table_view}
use Rattle.xbgp_manifest.specs.Manifests.{manifest_of, in_slot}
use Rattle.xbgp_manifest.specs.Outcomes.{manifest_fault}
use Rattle.xb_fields.proofs.OutcomeLemmas.{gives-error}
use Rattle.xbgp_manifest.proofs.OutcomeLemmas.{gives_manifest-fault, gives_manifest-field_error}
use Rattle.xbgp_manifest.proofs.ManifestLemmas.{manifest_of-IsManifest}
use Rattle.xbgp_manifest.proofs.manifest.manifest_of.Goals as goal

pub returns-in_err-maps : goal.returns-in_err-maps
unfolding manifest_of
returns-in_err-maps c =
    gives_manifest-field_error c.from_residual.result c.in_err-maps.field-0.0 _ _ c.from_residual.ensures.1 c.in_err-maps.ensures
    (λ bad below. rw below refl)

pub returns-in_err-listed : goal.returns-in_err-listed
unfolding manifest_of
returns-in_err-listed c =
    gives_manifest-fault c.from_residual-in_err-listed.result _ (in_slot 0 c.in_err-listed.field-0.0) c.from_residual-in_err-listed.ensures.1
    (rw (c.in_ok-maps.ensures, ← c.in_err-listed.ensures.values))

pub returns-in_err-programs : goal.returns-in_err-programs
unfolding manifest_of
returns-in_err-programs c =
    gives-error manifest_fault c.from_residual-in_err-programs.result c.in_err-programs.field-0.0 _ _ c.from_residual-in_err-programs.ensures.1 c.in_err-programs.ensures
    (λ bad below. rw (c.in_ok-maps.ensures, ← c.in_ok-listed.ensures.values, below))

pub returns : goal.returns
unfolding manifest_of
returns c = rw (c.in_ok-maps.ensures, ← c.in_ok-listed.ensures.values, c.in_ok-programs.ensures)

pub invariant_of-result : goal.invariant_of-result
unfolding manifest_of
invariant_of-result c =
    manifest_of-IsManifest (table_view c.args.table.now) _
    (rw (c.in_ok-maps.ensures, ← c.in_ok-listed.ensures.values, c.in_ok-programs.ensures))

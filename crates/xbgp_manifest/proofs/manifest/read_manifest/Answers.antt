use Rattle.std.proofs.Common.{◌≡◌, Result, refl, sym, ap, subst}
use Rattle.toml.specs.View.{table_view}
use Rattle.xb_fields.specs.Fields.{◌>>=◌, document}
use Rattle.xb_fields.proofs.OutcomeLemmas.{gives-bad, gives-ok}
use Rattle.xbgp_manifest.specs.declared.fault.ManifestFault.{ManifestFault}
use Rattle.xbgp_manifest.specs.declared.fault.ManifestError.TheVariants.{Bad}
use Rattle.xbgp_manifest.specs.Manifests.{Manifest, in_no_slot, manifest, manifest_of}
use Rattle.xbgp_manifest.specs.Outcomes.{GivesManifest, manifest_fault}
use Rattle.xbgp_manifest.proofs.OutcomeLemmas.{gives_manifest-field_error}
use Rattle.xbgp_manifest.proofs.manifest.read_manifest.Goals as goal

pub returns-in_err-table-clause-bad : goal.returns-in_err-table-clause-bad
unfolding manifest
returns-in_err-table-clause-bad c = λ fault is.
    let below : Result Manifest ManifestFault = in_no_slot (document c.args.text.now) >>= manifest_of in
    gives-bad manifest_fault c.from_residual.result below (Bad fault) fault refl
    (gives_manifest-field_error c.from_residual.result c.in_err-table.field-0.0 (document c.args.text.now) below c.from_residual.ensures.1 c.in_err-table.ensures
    (λ bad e. ap (λ j. in_no_slot j >>= manifest_of) e))
    is

pub returns-clause-good : goal.returns-clause-good
unfolding manifest
returns-clause-good c =
    let same : manifest c.args.text.now ≡ manifest_of (table_view c.in_ok-table.table) = ap (λ j. in_no_slot j >>= manifest_of) c.in_ok-table.ensures in
    gives-ok manifest_fault c.manifest_of.result (manifest c.args.text.now)
    (subst (λ (j : Result Manifest ManifestFault). GivesManifest c.manifest_of.result j) (sym same) c.manifest_of.ensures)

pub returns-clause-bad : goal.returns-clause-bad
unfolding manifest
returns-clause-bad c = λ fault is.
    let same : manifest c.args.text.now ≡ manifest_of (table_view c.in_ok-table.table) = ap (λ j. in_no_slot j >>= manifest_of) c.in_ok-table.ensures in
    gives-bad manifest_fault c.manifest_of.result (manifest c.args.text.now) (Bad fault) fault refl
    (subst (λ (j : Result Manifest ManifestFault). GivesManifest c.manifest_of.result j) (sym same) c.manifest_of.ensures) is

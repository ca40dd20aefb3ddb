-- What a reader of a manifest returns at the exit of a `?`.
use Rattle.std.proofs.Common.{◌≡◌, Result, Ok, Err}
use Rattle.std.specs.Result.{IsErrAnd}
use Rattle.xb_fields.specs.declared.fault.FieldFault.{FieldFault}
use Rattle.xb_fields.specs.declared.fault.FieldError.{FieldError}
use Rattle.xb_fields.specs.Fields.{Judged}
use Rattle.xb_fields.specs.Outcomes.{Gives, field_fault}
use Rattle.xb_fields.proofs.OutcomeLemmas.{gives-lifted}
use Rattle.xbgp_manifest.specs.declared.fault.ManifestFault.{ManifestFault}
use Rattle.xbgp_manifest.specs.declared.fault.ManifestError.{ManifestError}
use Rattle.xbgp_manifest.specs.declared.fault.ManifestError.TheVariants.{Bad}
use Rattle.xbgp_manifest.specs.Manifests.{in_slot}
use Rattle.xbgp_manifest.specs.Outcomes.{GivesManifest, IsInNoSlot, manifest_fault}

-- a fault that is returned
pub gives_manifest-fault : {A : Type 0} (r : Result A ManifestError) (judged : Result A ManifestFault) (fault : ManifestFault)
    → IsErrAnd r (λ e. e ≡ Bad fault) → judged ≡ Err fault → GivesManifest r judged
gives_manifest-fault (Ok x) judged fault h e = absurd h
gives_manifest-fault (Err error) judged fault h e = rw h e

-- an error of fields that is returned
pub gives_manifest-field_error : {A B : Type 0} (r : Result B ManifestError) (error : FieldError) (below : Judged A) (judged : Result B ManifestFault)
    → IsErrAnd r (IsInNoSlot error) → Gives (Err error) below → ((bad : FieldFault) → below ≡ Err bad → judged ≡ Err (in_slot 0 bad)) → GivesManifest r judged
gives_manifest-field_error r error below judged h given on = gives-lifted field_fault manifest_fault (in_slot 0) r error below judged h given on

-- What the readers of a manifest return.
use Rattle.std.specs.Prelude.{◌≡◌, Option, Some, None, Result}
use Rattle.std.specs.Option.{option_map}
use Rattle.xb_fields.specs.declared.fault.FieldError.{FieldError}
use Rattle.xb_fields.specs.Outcomes.{GivesBy, field_fault}
use Rattle.xbgp_manifest.specs.declared.fault.ManifestFault.{ManifestFault}
use Rattle.xbgp_manifest.specs.declared.fault.ManifestError.{ManifestError}
use Rattle.xbgp_manifest.specs.declared.fault.ManifestError.TheVariants.{OutOfMemory, Bad}
use Rattle.xbgp_manifest.specs.Manifests.{in_slot}

-- the fault of an error
abbrev pub manifest_fault : ManifestError → Option ManifestFault
manifest_fault OutOfMemory = None
manifest_fault (Bad fault) = Some fault

-- what is judged of a manifest, or want of memory
abbrev pub GivesManifest : {A : Type 0} → Result A ManifestError → Result A ManifestFault → Type 0
GivesManifest result judged = GivesBy manifest_fault result judged

-- an error of fields, whose fault is in no slot
abbrev pub IsInNoSlot : FieldError → ManifestError → Type 0
IsInNoSlot field error = manifest_fault error ≡ option_map (in_slot 0) (field_fault field)

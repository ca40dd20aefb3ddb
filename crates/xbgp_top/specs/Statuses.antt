-- The number with which the process ends, and the status that an error becomes (this project's own).
use Rattle.std.specs.Prelude.{ℕ}
use Rattle.xbgp_top.specs.declared.status.Status.{Status}
use Rattle.xbgp_top.specs.declared.status.Status.TheVariants.{Done, Usage, ReadFault, WriteFault, OutOfMemory, TooLong}
use Rattle.xbgp_top.specs.declared.status.Status.TheVariants.{BadConfig, BadManifest, BadLog, BadStream, BadCode}
use Rattle.xbgp_top.specs.declared.status.File.TheVariants as files
use Rattle.xb_fields.specs.declared.fault.FieldError.{FieldError}
use Rattle.xb_fields.specs.declared.fault.FieldError.TheVariants as configs
use Rattle.xbgp_manifest.specs.declared.fault.ManifestError.{ManifestError}
use Rattle.xbgp_manifest.specs.declared.fault.ManifestError.TheVariants as manifests
use Rattle.bpf_insn.specs.declared.fault.LoadError.{LoadError}
use Rattle.bpf_insn.specs.declared.fault.LoadError.TheVariants as loads
use Rattle.spk_model.specs.declared.play.Played.{Played}
use Rattle.spk_model.specs.declared.play.Played.TheVariants as ends

-- the number with which the process ends
abbrev pub status_code : Status → ℕ
status_code Done = 0
status_code Usage = 2
status_code ReadFault = 3
status_code WriteFault = 4
status_code (BadConfig fault) = 5
status_code (BadManifest fault) = 6
status_code (BadLog line) = 7
status_code OutOfMemory = 8
status_code (TooLong file) = 9
status_code (BadStream at) = 10
status_code (BadCode fault) = 11

-- why there is no configuration
abbrev pub config_status : FieldError → Status
config_status configs.OutOfMemory = OutOfMemory
config_status (configs.Bad fault) = BadConfig fault

-- why there is no manifest
abbrev pub manifest_status : ManifestError → Status
manifest_status manifests.OutOfMemory = OutOfMemory
manifest_status (manifests.Bad fault) = BadManifest fault

-- why bytecode isn't loaded
abbrev pub load_status : LoadError → Status
load_status loads.OutOfMemory = OutOfMemory
load_status (loads.Bad fault) = BadCode fault

-- how a replay ended
abbrev pub played_status : Played → Status
played_status ends.Done = Done
played_status ends.ReadFault = ReadFault
played_status ends.WriteFault = WriteFault
played_status (ends.BadLog line) = BadLog line
played_status ends.TooLong = TooLong files.Log
played_status ends.OutOfMemory = OutOfMemory

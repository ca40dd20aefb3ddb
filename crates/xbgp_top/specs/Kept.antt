-- Texts that are kept, to make of them again what a speaker is made of (for the functions of both.rt).
use Rattle.std.specs.Prelude.{ℕ, List, Option, Some, None, Result, Ok, Err, Vec}
use Rattle.std.specs.Result.{result_map_both}
use Rattle.std.specs.declared.alloc.Global.{Global}
use Rattle.xbgp_config.specs.Configs.{Config}
use Rattle.xbgp_config.specs.Configs as configs
use Rattle.xbgp_manifest.specs.Manifests.{Manifest, manifest, no_manifest}
use Rattle.spk_model.specs.declared.host.Setup.{Setup}
use Rattle.xbgp_top.specs.declared.both.Kept.{Kept}
use Rattle.xbgp_top.specs.declared.status.Status.{Status}
use Rattle.xbgp_top.specs.declared.status.Status.TheVariants.{BadConfig, BadManifest}
use Rattle.xbgp_top.specs.Answers.{Outcome, ◌>>=◌}

-- the octets of a text, if there is one
abbrev pub option_octets : Option (Vec ℕ Global) → Option (List ℕ)
option_octets None = None
option_octets (Some text) = Some text.items

-- the manifest that a text is; no text is no manifest
abbrev pub manifest_of : Option (List ℕ) → Outcome Manifest
manifest_of None = Ok no_manifest
manifest_of (Some text) = result_map_both (λ m. m) BadManifest (manifest text)

-- what a speaker is made of, by the texts of a configuration and a manifest
abbrev pub setup_of : List ℕ → Option (List ℕ) → Outcome Setup
setup_of config manifest =
    result_map_both (λ c. c) BadConfig (configs.config config)
    >>= (λ c. manifest_of manifest >>= (λ m. Ok (record { config = c; manifest = m })))

-- the manifest, without the text that is kept beside it
abbrev pub manifest_view : Result (Manifest × Option (Vec ℕ Global)) Status → Outcome Manifest
manifest_view (Ok r) = Ok r.0
manifest_view (Err status) = Err status

-- what a speaker is made of, without the texts that are kept beside it
abbrev pub setup_view : Result Kept Status → Outcome Setup
setup_view (Ok k) = Ok k.setup
setup_view (Err status) = Err status

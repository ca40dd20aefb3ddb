-- What a best route becomes for a peer (RFC 4271, sections 5.1 and 9.2; the points at which programs run are this
-- project's own). It reads no speaker.
use Rattle.std.specs.Prelude.{ℕ, Bool, List, [], ◌∷◌, ◌++◌, length, Option, Some, None, nat_le, ◌==◌, if◌then◌else◌}
use Rattle.xb_domain.specs.declared.point.Point.TheVariants.{Outbound, Encode}
use Rattle.xb_domain.specs.declared.side.Side.{Side}
use Rattle.xb_values.specs.Prefixes.{Prefix}
use Rattle.xb_wire.specs.declared.numbers.TheConstants.{MAX_SECTION}
use Rattle.bgp_attr.specs.Routes.{Route}
use Rattle.spk_native.specs.Filters.{accepts_outbound}
use Rattle.spk_native.specs.Export.{carry, native_section}
use Rattle.spk_native.specs.Receipt.{wire}
use Rattle.xbgp_manifest.specs.Manifests.{Manifest}
use Rattle.xbgp_points.specs.declared.outcome.Outcome.{Outcome}
use Rattle.xbgp_points.specs.declared.outcome.Outcome.TheVariants.{Verdict, Native, Failed}
use Rattle.xbgp_points.specs.Points.{Engine, outbound, encode, given_section}
use Rattle.spk_model.specs.Choosing.{Trace}

-- what is advertised of a best route, if anything is, and what the programs left
pub record Exported : Type 0 where
  pub section : Option (List ℕ)
  pub engine : Engine
  pub trace : Trace

-- a chain accepts: by its verdict, which is 1, or else as the native function does
abbrev pub accepted : Outcome → Bool → Bool
accepted (Verdict v) native = v == 1
accepted Native native = native
accepted (Failed program cause) native = native

-- a section in its session's form, if it is short enough to be sent
abbrev pub short_enough : List ℕ → Option (List ℕ)
short_enough section = if nat_le (length section) MAX_SECTION then Some section else None

-- the section that programs gave, or the native one
abbrev pub section_or : Option (List ℕ) → List ℕ → List ℕ
section_or None native = native
section_or (Some section) native = section

-- what is advertised of an accepted route, in the form of the peer's session
abbrev pub encoded_for : Manifest → Side → Engine → Side → Bool → Side → Route → Route → Trace → Exported
encoded_for manifest local engine peer wide source best route trace =
    let c = encode manifest local engine peer source best route in
    record {
      section = short_enough (wire (section_or (given_section c) (native_section route)) wide);
      engine = c.engine;
      trace = trace ++ (Encode, c.outcome) ∷ [];
    }

-- what a best route becomes for a peer, of whose session the form is given: it is carried over, passes outbound and
-- then encode
unfoldable pub exported : Manifest → Side → ℕ → Engine → Side → Bool → Side → Prefix → Route → Exported
exported manifest local default engine peer wide source prefix best =
    let c = outbound manifest local engine peer source prefix best (carry best source peer local default) in
    if accepted c.outcome (accepts_outbound source peer)
    then encoded_for manifest local c.engine peer wide source best c.route ((Outbound, c.outcome) ∷ [])
    else record { section = None; engine = c.engine; trace = (Outbound, c.outcome) ∷ [] }

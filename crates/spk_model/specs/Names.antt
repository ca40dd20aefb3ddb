-- The names that a report prints, as values (for names.rt and report.rt).
use Rattle.std.specs.Prelude.{ℕ, List, map, string_bytes}
use Rattle.xb_domain.specs.declared.point.Point.{Point}
use Rattle.xbgp_manifest.specs.Manifests.{Manifest}
use Rattle.xbgp_manifest.specs.declared.entries.MapEntry.{MapEntry}
use Rattle.xbgp_manifest.specs.declared.entries.ProgramEntry.{ProgramEntry}
use Rattle.spk_model.specs.declared.names.ProgramName.{ProgramName}

-- the names of maps, and those of programs, each with the point at which the program runs
pub record Named : Type 0 where
  pub maps : List (List ℕ)
  pub programs : List (List ℕ × Point)

-- a name of the code
abbrev pub program_view : ProgramName → List ℕ × Point
program_view p = (string_bytes p.name, p.point)

-- the names of maps
abbrev pub map_names_of : List MapEntry → List (List ℕ)
map_names_of maps = map (λ m. m.name) maps

-- the names of programs, with their points
abbrev pub program_names_of : List ProgramEntry → List (List ℕ × Point)
program_names_of programs = map (λ p. (p.name, p.point)) programs

-- the names of a manifest
abbrev pub names_of : Manifest → Named
names_of manifest = record { maps = map_names_of manifest.maps; programs = program_names_of manifest.programs }

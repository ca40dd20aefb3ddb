-- A shelf and a sink in memory, as values.
use Rattle.std.specs.Prelude.{◌≡◌, ℕ, List, Some, if◌then◌else◌}
use Rattle.std.specs.Str.{bytes_eq}
use Rattle.xb_io.specs.Causes.{Files, file_named}

-- names with their octets, how many calls were made, which calls fail, and how many faults there were
pub record Held : Type 0 where
  pub files : Files
  pub calls : ℕ
  pub failing : List ℕ
  pub faults : ℕ

-- what was taken, how many octets that may be at most, how many calls were made, which calls fail, and how many faults
-- there were
pub record Taken : Type 0 where
  pub taken : List ℕ
  pub room : ℕ
  pub calls : ℕ
  pub failing : List ℕ
  pub faults : ℕ

-- the new files are the old ones, except that one name has these octets
abbrev pub HoldsAlso : Files → Files → List ℕ → List ℕ → Type 0
HoldsAlso old new name octets =
    (other : List ℕ) → file_named new other ≡ (if bytes_eq name other then Some octets else file_named old other)

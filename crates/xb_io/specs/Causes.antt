-- What a shelf holds, what a sink took, and when a call of theirs may fail (this project's own).
use Rattle.std.specs.Prelude.{◌≡◌, ◌⊎◌, ℕ, ◌+◌, ◌-◌, ◌^◌, ◌<◌, ◌≤◌, min, List, ◌++◌, length, take, drop, Option, Some}
use Rattle.std.specs.Prelude.{None, IsNone, MatchOption}
use Rattle.std.specs.Option.{option_map}
use Rattle.std.specs.Map.{lookup}
use Rattle.std.specs.Str.{bytes_eq}

-- names, each with its octets
abbrev pub Files : Type 0
Files = List (List ℕ × List ℕ)

-- the octets of a name, if it is held
abbrev pub file_named : Files → List ℕ → Option (List ℕ)
file_named files name = lookup (λ key. bytes_eq name key) files

-- the octets of a name, if the shelf tells and holds it
abbrev pub told_file : Option Files → List ℕ → Option (List ℕ)
told_file None name = None
told_file (Some files) name = file_named files name

-- a count of faults rose in a call: it is greater than before, or is at its type's end
abbrev pub FaultsRose : ℕ → ℕ → Type 0
FaultsRose before now = (before < now) ⊎ (now ≡ 2 ^ 64 - 1)

-- a count of calls or faults after one more, which stays at its type's end
abbrev pub one_more : ℕ → ℕ
one_more count = min (count + 1) (2 ^ 64 - 1)

-- the first n of buf are the octets at an offset; n is 0 only if there are no octets there or buf has no room
pub record ReadsPart (octets : List ℕ) (at : ℕ) (buf : List ℕ) (n : ℕ) : Type 0 where
  pub part : take n buf ≡ take n (drop at octets)
  pub fits : n ≤ length buf
  pub within : n ≤ length octets - at
  pub progress : 0 < length buf → at < length octets → 0 < n

-- what a read of n octets gave; of a shelf that tells, a name that it does not hold is never read
abbrev pub Reads : Option Files → List ℕ → ℕ → List ℕ → ℕ → Type 0
Reads None name at buf n = n ≤ length buf
Reads (Some files) name at buf n = MatchOption (file_named files name) ⊥ (λ octets. ReadsPart octets at buf n)

-- the shelf tells what it holds, and does not hold the name
abbrev pub IsMissing : Option Files → List ℕ → Type 0
IsMissing None name = ⊥
IsMissing (Some files) name = IsNone (file_named files name)

-- what a sink took, if it tells, and then a text
abbrev pub with_text : Option (List ℕ) → List ℕ → Option (List ℕ)
with_text before text = option_map (λ taken. taken ++ text) before

-- a sink took a front of the text, be it none or all of it
abbrev pub TookFront : Option (List ℕ) → Option (List ℕ) → List ℕ → Type 0
TookFront before now text = (n : ℕ) × (now ≡ with_text before (take n text))

-- The prefixes that octets write, of steps that have no error (for `EachPrefix`).
use Rattle.std.specs.Prelude.{List, [], ◌∷◌, Result, Ok, Err}
use Rattle.xb_values.specs.Prefixes.{Prefix}

-- the prefixes of some steps
abbrev pub prefixes_in : List (Result Prefix (Unit {0})) → List Prefix
prefixes_in [] = []
prefixes_in (Ok p ∷ steps) = p ∷ prefixes_in steps
prefixes_in (Err e ∷ steps) = prefixes_in steps

-- no step is an error
abbrev pub HasNoError : List (Result Prefix (Unit {0})) → Type 0
HasNoError [] = Unit {0}
HasNoError (Ok p ∷ steps) = HasNoError steps
HasNoError (Err e ∷ steps) = ⊥

-- A text written to the front of a slice.
use Rattle.std.specs.Prelude.{◌≡◌, ◌≤◌, ◌↔◌, ℕ, List, ◌++◌, length, drop, Option, IsSome, MatchOption}

-- the text is written, and its length returned, exactly if it fits; else the slice is unchanged
pub record WritesFront (written : Option ℕ) (old new text : List ℕ) : Type 0 where
  pub fits : IsSome written ↔ (length text ≤ length old)
  pub after : MatchOption written (new ≡ old) (λ n. (n ≡ length text) × (new ≡ text ++ drop n old))

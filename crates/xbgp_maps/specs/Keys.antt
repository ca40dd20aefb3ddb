-- The first octets of a key as a number, by which keys are compared (for key.rt).
use Rattle.std.specs.Prelude.{ℕ, List, [], ◌∷◌, slice_index}
use Rattle.std.specs.Int.{w64, from_be_bytes}

-- the number of the first eight octets in network order; octets past the end count as 0
abbrev pub head_of : List ℕ → ℕ
head_of s =
    from_be_bytes w64 (slice_index s 0 ∷ slice_index s 1 ∷ slice_index s 2 ∷ slice_index s 3 ∷ slice_index s 4
    ∷ slice_index s 5 ∷ slice_index s 6 ∷ slice_index s 7 ∷ [])

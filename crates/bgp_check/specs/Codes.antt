-- A set of attribute codes as one bit for each, in words of 64 bits (for the loop over a section).
use Rattle.std.specs.Prelude.{ℕ, Bool, List, slice_index, ◌/◌, ◌%◌, ◌==◌}
use Rattle.std.specs.Int.{bit_at}

-- the bit of a code is set
abbrev pub has_bit : List ℕ → ℕ → Bool
has_bit words code = bit_at (slice_index words (code / 64)) (code % 64) == 1

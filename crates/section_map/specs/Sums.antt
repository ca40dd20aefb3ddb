-- The sum of a section, a number that tells most sections apart: of its length, of its words of eight octets in turn,
-- and of its last eight octets.
use Rattle.std.specs.Prelude.{ℕ, ◌-◌, ◌*◌, ◌/◌, ◌%◌, ◌^◌, List, length, drop, bit_xor}
use Rattle.std.specs.Int.{w64, from_be_bytes, rotate_left}
use Rattle.std.specs.List.{fold}
use Rattle.std.specs.Simd.{first_chunks}
use Rattle.section_map.specs.declared.sum.TheConstants.{FACTOR, TURN, WORD}

-- the number of eight octets; of fewer, with zeros after them
abbrev pub number_of : List ℕ → ℕ
number_of octets = from_be_bytes w64 octets

-- a sum with one more number
unfoldable pub mixed : ℕ → ℕ → ℕ
mixed sum n = (bit_xor (rotate_left w64 sum TURN) n * FACTOR) % 2 ^ 64

-- a sum with words mixed in, in turn
abbrev pub words_sum : ℕ → List (List ℕ) → ℕ
words_sum = fold (λ sum word. mixed sum (number_of word))

-- the sum of a section
unfoldable pub sum_of : List ℕ → ℕ
sum_of s =
    mixed (words_sum (length s) (first_chunks WORD (length s / WORD) s)) (number_of (drop (length s - WORD) s))

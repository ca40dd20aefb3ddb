-- AS_PATH (RFC 4271, sections 4.3 and 5.1.2; RFC 6793 for numbers of four octets): segments, each a set or a sequence,
-- with a count of at least 1 and that many AS numbers of w octets.
use Rattle.std.specs.Prelude.{ℕ, zero, suc, ◌+◌, ◌*◌, Bool, false, List, [], ◌∷◌, length, drop, map, flat_map}
use Rattle.std.specs.Prelude.{slice_index, Option, Some, None, nat_le, ◌==◌, ◌&&◌, ◌||◌, if◌then◌else◌, sum_by}
use Rattle.std.specs.List.{list_any}
use Rattle.xb_words.specs.Octets.{two_at, four_at, two_octets, four_octets}
use Rattle.xb_words.specs.Cut.{cut}
use Rattle.bgp_attr.specs.declared.segments.TheConstants.{AS_SET, AS_SEQUENCE, MAX_NUMBERS}

-- the octets of an AS number: two (RFC 4271), or four (RFC 6793)
abbrev pub width_of : Bool → ℕ
width_of wide = if wide then 4 else 2

-- the length of the segment at the front, its type and count included; None if no whole segment is there
abbrev pub segment_size : ℕ → List ℕ → Option ℕ
segment_size w s =
    if (slice_index s 0 == AS_SET || slice_index s 0 == AS_SEQUENCE) && nat_le 1 (slice_index s 1)
    && nat_le (2 + w * slice_index s 1) (length s)
    then Some (2 + w * slice_index s 1) else None

-- segments fill the value
abbrev pub path_ok : ℕ → List ℕ → Bool
path_ok w value = length (cut (segment_size w) value).rest == 0

-- a segment, with its AS numbers in the order of its octets
pub record Segment : Type 0 where
  pub is_set : Bool
  pub numbers : List ℕ

-- the AS number of w octets, two or four, at the front
abbrev pub first_number : ℕ → List ℕ → ℕ
first_number w s = if w == 2 then two_at s 0 else four_at s 0

-- the w octets, two or four, of an AS number
abbrev pub number_octets : ℕ → ℕ → List ℕ
number_octets w n = if w == 2 then two_octets n else four_octets n

-- a count of AS numbers from the front on
abbrev pub numbers_of : ℕ → ℕ → List ℕ → List ℕ
numbers_of w zero s = []
numbers_of w (suc count) s = first_number w s ∷ numbers_of w count (drop w s)

-- the segment that has these octets
abbrev pub segment_of : ℕ → List ℕ → Segment
segment_of w s = record { is_set = slice_index s 0 == AS_SET; numbers = numbers_of w (slice_index s 1) (drop 2 s) }

-- the segments of a value
abbrev pub path : ℕ → List ℕ → List Segment
path w value = map (segment_of w) (cut (segment_size w) value).items

-- the octets of a segment
abbrev pub segment_octets : ℕ → Segment → List ℕ
segment_octets w s =
    (if s.is_set then AS_SET else AS_SEQUENCE) ∷ length s.numbers ∷ flat_map (number_octets w) s.numbers

-- the value that has these segments
abbrev pub path_octets : ℕ → List Segment → List ℕ
path_octets w segments = flat_map (segment_octets w) segments

-- what a segment adds to the length of a path: a set counts 1 (RFC 4271, section 9.1.2.2)
abbrev pub segment_hops : Segment → ℕ
segment_hops s = if s.is_set then 1 else length s.numbers

-- the length of a path (RFC 4271, section 9.1.2.2)
abbrev pub hops : List Segment → ℕ
hops segments = sum_by segment_hops segments

-- an AS number is in the path (RFC 4271, section 9.1.2)
abbrev pub contains : ℕ → List Segment → Bool
contains asn segments = list_any (λ s. list_any (λ n. n == asn) s.numbers) segments

-- the first AS number of the path, if its first segment is a sequence
abbrev pub leftmost : List Segment → Option ℕ
leftmost [] = None
leftmost (s ∷ segments) = if s.is_set then None else Some (slice_index s.numbers 0)

-- the path with an AS number prepended (RFC 4271, section 5.1.2): as the first of a leading sequence of fewer than 255
-- numbers, else in a new sequence of its own
abbrev pub prepend : ℕ → List Segment → List Segment
prepend asn [] = record { is_set = false; numbers = asn ∷ [] } ∷ []
prepend asn (s ∷ segments) =
    if s.is_set || nat_le MAX_NUMBERS (length s.numbers)
    then record { is_set = false; numbers = asn ∷ [] } ∷ s ∷ segments
    else record { is_set = false; numbers = asn ∷ s.numbers } ∷ segments

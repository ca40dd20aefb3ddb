-- Paths with AS numbers of two octets and of four (RFC 6793, sections 4.2.2 and 4.2.3).
use Rattle.std.specs.Prelude.{ℕ, ◌-◌, Bool, false, List, [], ◌∷◌, ◌++◌, length, take, map, nat_lt, ◌==◌, if◌then◌else◌}
use Rattle.bgp_attr.specs.declared.segments.TheConstants.{AS_TRANS}
use Rattle.bgp_attr.specs.Paths.{Segment, path, path_octets, hops}

-- the value with each AS number in four octets (RFC 6793, section 4.2.3)
unfoldable pub wide_path : List ℕ → List ℕ
wide_path value = path_octets 4 (path 2 value)

-- two octets can hold the number
abbrev pub is_narrow : ℕ → Bool
is_narrow n = nat_lt n 65536

-- the number that two octets have for an AS number (RFC 6793, section 4.2.2)
abbrev pub narrow_number : ℕ → ℕ
narrow_number n = if is_narrow n then n else AS_TRANS

-- the segment that has these numbers
abbrev pub narrow_segment : Segment → Segment
narrow_segment s = record { is_set = s.is_set; numbers = map narrow_number s.numbers }

-- the value with each AS number in two octets (RFC 6793, section 4.2.2)
unfoldable pub narrow_path : List ℕ → List ℕ
narrow_path value = path_octets 2 (map narrow_segment (path 4 value))

-- The first n units of a path, in their segments. A unit is one number of a sequence, or one whole set, so that a path
-- has as many units as hops. A sequence of which nothing is left is left out.
abbrev pub first_units : ℕ → List Segment → List Segment
first_units n [] = []
first_units n (s ∷ segments) =
    if n == 0 then []
    else if s.is_set then s ∷ first_units (n - 1) segments
    else record { is_set = false; numbers = take n s.numbers } ∷ first_units (n - length s.numbers) segments

-- The path that an AS_PATH p and an AS4_PATH q say together (RFC 6793, section 4.2.3): p alone if it has fewer hops,
-- and otherwise what p has before the hops of q, and then q.
abbrev pub merged : List Segment → List Segment → List Segment
merged p q = if nat_lt (hops p) (hops q) then p else first_units (hops p - hops q) p ++ q

-- the value of that path, for an AS_PATH of two octets a number and an AS4_PATH, with four octets a number
unfoldable pub merge : List ℕ → List ℕ → List ℕ
merge p q = path_octets 4 (merged (path 2 p) (path 4 q))

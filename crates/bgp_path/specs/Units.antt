-- The first units of a path in the other width of AS numbers, segment after segment (for the loops that write them).
-- `wide` says whether the path has four octets for an AS number.
use Rattle.std.specs.Prelude.{◌≡◌, ℕ, ◌*◌, Bool, not, List, ◌∷◌, length, min, take, flat_map, if◌then◌else◌}
use Rattle.bgp_attr.specs.declared.segments.TheConstants.{AS_SET, AS_SEQUENCE}
use Rattle.bgp_attr.specs.Paths.{Segment, width_of, number_octets, path}
use Rattle.bgp_path.specs.Parts.{Part}
use Rattle.bgp_path.specs.Widths.{narrow_number, first_units}

-- an AS number of the path as the other width has it
abbrev pub other_number : Bool → ℕ → ℕ
other_number wide n = if wide then narrow_number n else n

-- its octets
abbrev pub other_octets : Bool → ℕ → List ℕ
other_octets wide n = number_octets (width_of (not wide)) (other_number wide n)

-- the octets of a segment
abbrev pub other_segment : Bool → Segment → List ℕ
other_segment wide s =
    (if s.is_set then AS_SET else AS_SEQUENCE) ∷ length s.numbers ∷ flat_map (other_octets wide) s.numbers

-- the octets of segments
abbrev pub other_path : Bool → List Segment → List ℕ
other_path wide segments = flat_map (other_segment wide) segments

-- the octets of the first units of a path
abbrev pub units_octets : Bool → ℕ → List ℕ → List ℕ
units_octets wide units value = other_path wide (first_units units (path (width_of wide) value))

-- a walk over the first units of a path: the width of the path, and the segments that are still to come
pub record UnitsWalk : Type 0 where
  pub wide : Bool
  pub coming : List Segment

-- a segment without what passes its first units
pub record IsCutTo (w units : ℕ) (whole kept : Part) : Type 0 where
  pub set : kept.set ≡ whole.set
  pub count : kept.count ≡ (if whole.set then whole.count else min units whole.count)
  pub octets : kept.octets ≡ take (w * kept.count) whole.octets

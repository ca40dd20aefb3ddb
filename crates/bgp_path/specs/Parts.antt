-- The segments of a path as its octets have them (RFC 4271, section 4.3), and the walk over them.
use Rattle.std.specs.Prelude.{◌≡◌, ℕ, Bool, true, List, ◌∷◌, drop, map, flat_map, slice_index, ◌==◌, if◌then◌else◌}
use Rattle.xb_words.specs.Cut.{cut}
use Rattle.bgp_attr.specs.declared.segments.TheConstants.{AS_SET, AS_SEQUENCE}
use Rattle.bgp_attr.specs.Paths.{Segment, segment_size, numbers_of, path, path_ok, path_octets, prepend}

-- a segment: whether it is a set, how many AS numbers it has, and their octets
pub record Part : Type 0 where
  pub set : Bool
  pub count : ℕ
  pub octets : List ℕ

-- the segment that has these octets
abbrev pub part_of : List ℕ → Part
part_of s = record { set = slice_index s 0 == AS_SET; count = slice_index s 1; octets = drop 2 s }

-- the octets of a segment: its type, its count, its AS numbers
abbrev pub part_octets : Part → List ℕ
part_octets p = (if p.set then AS_SET else AS_SEQUENCE) ∷ p.count ∷ p.octets

-- the segment with its AS numbers read
abbrev pub part_segment : ℕ → Part → Segment
part_segment w p = record { is_set = p.set; numbers = numbers_of w p.count p.octets }

-- the segments of a value, in order
unfoldable pub path_parts : ℕ → List ℕ → List Part
path_parts w value = map part_of (cut (segment_size w) value).items

-- a walk over a path: the octets of an AS number, the whole value, and the segments that are still to come
pub record PathWalk : Type 0 where
  pub width : ℕ
  pub value : List ℕ
  pub coming : List Part

-- the walk over a value from its start
abbrev pub walk_over : ℕ → List ℕ → PathWalk
walk_over w value = record { width = w; value = value; coming = path_parts w value }

-- the whole path of a walk
abbrev pub path_of : PathWalk → List Segment
path_of walk = path walk.width walk.value

-- the value of the whole path with an AS number prepended (RFC 4271, section 5.1.2)
abbrev pub prepended : PathWalk → ℕ → List ℕ
prepended walk asn = path_octets walk.width (prepend asn (path_of walk))

-- the law: the segments of a path, each after its type and its count, join to the value
abbrev pub segments_join : Type 0
segments_join =
    (w : ℕ) (value : List ℕ) → path_ok w value ≡ true → flat_map part_octets (path_parts w value) ≡ value

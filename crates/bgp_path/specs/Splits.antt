-- A path as its first segment and the path after it, and an empty path (for `split_first` and the loops over it).
use Rattle.std.specs.Prelude.{◌≡◌, ◌<◌, ◌*◌, ℕ, true, List, [], ◌∷◌, ◌++◌, length}
use Rattle.bgp_attr.specs.Paths.{path, path_ok}
use Rattle.bgp_path.specs.Parts.{Part, part_octets, path_parts, part_segment}

-- the path is this segment and the path after it
pub record BeginsWith (w : ℕ) (s : List ℕ) (first : Part) (rest : List ℕ) : Type 0 where
  pub pieces : path_parts w s ≡ first ∷ path_parts w rest
  pub segments : path w s ≡ part_segment w first ∷ path w rest
  pub ok : path_ok w rest ≡ true
  pub joined : part_octets first ++ rest ≡ s
  pub full : 0 < first.count
  pub octets : length first.octets ≡ w * first.count

-- the path is empty
pub record HasNoSegment (w : ℕ) (s : List ℕ) : Type 0 where
  pub pieces : path_parts w s ≡ []
  pub segments : path w s ≡ []
  pub nothing : s ≡ []

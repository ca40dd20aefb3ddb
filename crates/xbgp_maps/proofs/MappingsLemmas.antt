-- A single map of a known width.
use Rattle.std.proofs.Common.{◌≡◌, ℕ, ◌<◌, List, [], ◌∷◌, length, map, IfSome, arith}
use Rattle.xbgp_maps.specs.declared.shape.MapShape.{MapShape}
use Rattle.xbgp_maps.specs.Mappings.{Mapping, mapping_at, shapes_of}

-- a list of one width is that of one map
pub map_is_there : (maps : List Mapping) (f : MapShape → ℕ) (n : ℕ) → map f (shapes_of maps) ≡ n ∷ [] → 0 < length maps
map_is_there [] f n is = absurd (cc is)
map_is_there (m ∷ maps) f n is = omega arith

-- the width is that of the map 0
pub width_of_map_0 : (maps : List Mapping) (f : MapShape → ℕ) (n : ℕ) → map f (shapes_of maps) ≡ n ∷ [] → IfSome (mapping_at maps 0) (λ m. n ≡ f m.shape)
width_of_map_0 [] f n is = tt
width_of_map_0 (m ∷ maps) f n is = cc is

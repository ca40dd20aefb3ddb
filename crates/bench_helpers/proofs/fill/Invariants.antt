use Rattle.std.proofs.Common.{◌≡◌, [], ◌∷◌, map, None}
use Rattle.xbgp_maps.specs.Mappings.{shapes_of}
use Rattle.bench_helpers.proofs.fill.Given as goal

abbrev pub invariant-numbers : goal.invariant-numbers
invariant-numbers l = record {
  began : l.maps.began ≡ None;
  keys : map (λ s. s.key) (shapes_of l.maps.maps) ≡ 8 ∷ [];
  values : map (λ s. s.value) (shapes_of l.maps.maps) ≡ 16 ∷ [];
}

use Rattle.std.proofs.Common.{◌≡◌, length, rules}
use Rattle.xbgp_maps.proofs.MappingsLemmas.{width_of_map_0}
use Rattle.bench_maps.proofs.get.Goals as goal

pub get-requires-clause-key : goal.get-requires-clause-key
get-requires-clause-key c =
    let width : length c.key_of.result ≡ 8 = search rules in
    rw width (width_of_map_0 c.args.bench.now.maps.maps (λ s. s.key) 8 c.args.bench.now.keys)

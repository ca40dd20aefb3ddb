use Rattle.std.proofs.Common.{◌≡◌, length, rules}
use Rattle.xbgp_maps.proofs.MappingsLemmas.{width_of_map_0}
use Rattle.bench_maps.proofs.remove.Goals as goal

pub remove-requires-clause-key : goal.remove-requires-clause-key
remove-requires-clause-key c =
    let width : length c.key_of.result ≡ 8 = search rules in
    rw width (width_of_map_0 c.args.bench.now.maps.maps (λ s. s.key) 8 c.args.bench.now.keys)

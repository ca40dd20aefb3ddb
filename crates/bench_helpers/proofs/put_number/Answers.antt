use Rattle.std.proofs.Common.{◌≡◌, length, rules}
use Rattle.xbgp_maps.proofs.MappingsLemmas.{width_of_map_0}
use Rattle.bench_helpers.proofs.put_number.Goals as goal

pub put-requires-clause-key : goal.put-requires-clause-key
put-requires-clause-key c =
    let width : length c.key_of.result ≡ 8 = search rules in
    rw width (width_of_map_0 c.args.maps.now.maps (λ s. s.key) 8 c.requires.keys)

pub put-requires-clause-value : goal.put-requires-clause-value
put-requires-clause-value c =
    let width : length c.to_be_bytes.result ≡ 16 = search rules in
    rw width (width_of_map_0 c.args.maps.now.maps (λ s. s.value) 16 c.requires.values)

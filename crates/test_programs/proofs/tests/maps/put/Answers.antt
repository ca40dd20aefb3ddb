use Rattle.xbgp_maps.proofs.MappingsLemmas.{width_of_map_0}
use Rattle.test_programs.proofs.tests.maps.put.Goals as goal

pub put-requires-clause-key : goal.put-requires-clause-key
put-requires-clause-key c = width_of_map_0 c.args.run.now.maps.maps (λ s. s.key) 1 c.args.run.now.keys

pub put-requires-clause-value : goal.put-requires-clause-value
put-requires-clause-value c = width_of_map_0 c.args.run.now.maps.maps (λ s. s.value) 1 c.args.run.now.values

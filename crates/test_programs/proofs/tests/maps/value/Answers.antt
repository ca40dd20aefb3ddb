use Rattle.xbgp_maps.proofs.MappingsLemmas.{width_of_map_0}
use Rattle.test_programs.proofs.tests.maps.value.Goals as goal

pub get-requires-clause-key : goal.get-requires-clause-key
get-requires-clause-key c = width_of_map_0 c.args.run.now.maps.maps (λ s. s.key) 1 c.args.run.now.keys

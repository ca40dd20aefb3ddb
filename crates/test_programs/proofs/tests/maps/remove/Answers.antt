use Rattle.xbgp_maps.proofs.MappingsLemmas.{width_of_map_0}
use Rattle.test_programs.proofs.tests.maps.remove.Goals as goal

pub remove-requires-clause-key : goal.remove-requires-clause-key
remove-requires-clause-key c = width_of_map_0 c.args.run.now.maps.maps (λ s. s.key) 1 c.args.run.now.keys

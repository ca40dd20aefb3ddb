use Rattle.bgp_write.proofs.ReadBackLemmas.{update_of-update_body, prefixes-flat_map, are_prefixes-flat_map}
use Rattle.bgp_write.proofs.laws.update_is_read_again.Goals as goal

pub returns-clause-parts : goal.returns-clause-parts
returns-clause-parts c = update_of-update_body

pub returns-clause-prefixes : goal.returns-clause-prefixes
returns-clause-prefixes c = prefixes-flat_map

pub returns-clause-whole : goal.returns-clause-whole
returns-clause-whole c = are_prefixes-flat_map

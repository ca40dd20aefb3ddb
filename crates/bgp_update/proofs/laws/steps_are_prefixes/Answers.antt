use Rattle.bgp_update.proofs.WalkLemmas.{prefixes_from-whole}
use Rattle.bgp_update.proofs.laws.steps_are_prefixes.Goals as goal

pub returns : goal.returns
returns c = prefixes_from-whole

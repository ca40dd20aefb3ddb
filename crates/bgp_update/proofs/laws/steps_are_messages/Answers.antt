use Rattle.bgp_update.proofs.WalkLemmas.{messages_from-whole}
use Rattle.bgp_update.proofs.laws.steps_are_messages.Goals as goal

pub returns : goal.returns
returns c = messages_from-whole

use Rattle.spk_model.proofs.ContainedLemmas.{containment_holds}
use Rattle.spk_model.proofs.laws.containment.Goals as goal

pub returns : goal.returns
returns c = containment_holds

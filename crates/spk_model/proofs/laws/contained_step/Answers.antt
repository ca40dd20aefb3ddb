use Rattle.spk_model.proofs.ContainedLemmas.{contained_step_holds}
use Rattle.spk_model.proofs.laws.contained_step.Goals as goal

pub returns : goal.returns
returns c = contained_step_holds

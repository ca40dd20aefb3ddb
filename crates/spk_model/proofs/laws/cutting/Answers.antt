use Rattle.spk_model.proofs.PieceLemmas.{cutting_holds}
use Rattle.spk_model.proofs.laws.cutting.Goals as goal

pub returns : goal.returns
returns c = cutting_holds

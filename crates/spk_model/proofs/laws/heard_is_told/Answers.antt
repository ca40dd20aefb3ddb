use Rattle.spk_model.proofs.ToldLemmas.{heard_is_told_holds}
use Rattle.spk_model.proofs.laws.heard_is_told.Goals as goal

pub returns : goal.returns
returns c = heard_is_told_holds

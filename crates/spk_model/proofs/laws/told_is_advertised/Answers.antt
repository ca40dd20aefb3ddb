use Rattle.spk_model.proofs.ToldLemmas.{told_is_advertised_holds}
use Rattle.spk_model.proofs.laws.told_is_advertised.Goals as goal

pub returns : goal.returns
returns c = told_is_advertised_holds

use Rattle.spk_model.proofs.BlindLemmas.{rule_free_holds}
use Rattle.spk_model.proofs.laws.rule_free.Goals as goal

pub returns : goal.returns
returns c = rule_free_holds

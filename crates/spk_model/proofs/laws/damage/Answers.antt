use Rattle.spk_model.proofs.DamageLemmas.{damage_holds}
use Rattle.spk_model.proofs.laws.damage.Goals as goal

pub returns : goal.returns
returns c = damage_holds

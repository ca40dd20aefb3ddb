use Rattle.spk_model.proofs.OthersLemmas.{own_event_holds}
use Rattle.spk_model.proofs.laws.own_event.Goals as goal

pub returns : goal.returns
returns c = own_event_holds

use Rattle.replay_log.proofs.FitLemmas.{IsFor-line_of}
use Rattle.replay_log.proofs.laws.events_fit.Goals as goal

pub returns : goal.returns
returns c = λ peers now line event e. IsFor-line_of peers now line event e

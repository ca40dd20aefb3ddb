use Rattle.std.proofs.Common.{◌==◌}
use Rattle.replay_log.proofs.PartLemmas.{position-first}
use Rattle.replay_log.proofs.part.end_of.Goals as goal

pub returns : goal.returns
returns c = position-first (λ o. o == 10) c.args.octets.now _ c.memchr.ensures

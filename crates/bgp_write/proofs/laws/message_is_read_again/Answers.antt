use Rattle.std.proofs.Common.{refl}
use Rattle.bgp_write.proofs.ReadBackLemmas.{split-message}
use Rattle.bgp_write.proofs.laws.message_is_read_again.Goals as goal

pub returns-clause-alone : goal.returns-clause-alone
returns-clause-alone c = split-message

pub returns-clause-parts : goal.returns-clause-parts
returns-clause-parts c = λ kind body. (refl, refl)

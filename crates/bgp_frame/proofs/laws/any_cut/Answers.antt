use Rattle.std.proofs.Common.{ap}
use Rattle.bgp_frame.specs.Pieces.{Taken}
use Rattle.bgp_frame.proofs.PieceLemmas.{fed-split}
use Rattle.bgp_frame.proofs.laws.any_cut.Goals as goal

pub returns-clause-messages : goal.returns-clause-messages
returns-clause-messages c = λ ps. ap (λ (t : Taken). t.messages) (fed-split ps)

pub returns-clause-waits : goal.returns-clause-waits
returns-clause-waits c = λ ps. ap (λ (t : Taken). t.waits) (fed-split ps)

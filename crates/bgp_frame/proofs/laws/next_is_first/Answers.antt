use Rattle.bgp_frame.proofs.PieceLemmas.{next_is_first as first}
use Rattle.bgp_frame.proofs.laws.next_is_first.Goals as goal

pub returns : goal.returns
returns c = first

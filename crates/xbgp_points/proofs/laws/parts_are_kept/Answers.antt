use Rattle.xbgp_points.proofs.LawLemmas.{chain_changes}
use Rattle.xbgp_points.proofs.laws.parts_are_kept.Goals as goal

pub returns : goal.returns
returns c = chain_changes

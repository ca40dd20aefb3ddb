use Rattle.bgp_path.proofs.PrependLemmas.{segments_join_holds}
use Rattle.bgp_path.proofs.laws.segments_join.Goals as goal

pub returns : goal.returns
returns c = segments_join_holds

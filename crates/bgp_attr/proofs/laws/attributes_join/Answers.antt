use Rattle.bgp_attr.proofs.WalksLemmas.{attributes_join_holds}
use Rattle.bgp_attr.proofs.laws.attributes_join.Goals as goal

pub returns : goal.returns
returns c = attributes_join_holds

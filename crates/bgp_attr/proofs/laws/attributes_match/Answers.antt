use Rattle.bgp_attr.proofs.WalksLemmas.{attributes_match_holds}
use Rattle.bgp_attr.proofs.laws.attributes_match.Goals as goal

pub returns : goal.returns
returns c = attributes_match_holds

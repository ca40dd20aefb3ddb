use Rattle.bgp_attr.proofs.WalksLemmas.{attributes_walked_holds}
use Rattle.bgp_attr.proofs.laws.attributes_walked.Goals as goal

pub returns : goal.returns
returns c = attributes_walked_holds

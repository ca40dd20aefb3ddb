use Rattle.xbgp_maps.proofs.HeightLemmas.{height_of-bound}
use Rattle.xbgp_maps.proofs.laws.trees_are_low.Goals as goal

pub returns : goal.returns
returns c = λ tree balanced few. height_of-bound tree balanced few

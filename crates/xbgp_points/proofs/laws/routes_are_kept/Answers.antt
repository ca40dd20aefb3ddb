use Rattle.xbgp_points.proofs.LawLemmas.{chain_keeps_route}
use Rattle.xbgp_points.proofs.laws.routes_are_kept.Goals as goal

pub returns : goal.returns
returns c = chain_keeps_route

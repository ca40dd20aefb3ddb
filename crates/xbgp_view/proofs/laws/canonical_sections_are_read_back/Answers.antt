use Rattle.xbgp_view.proofs.ReadingLemmas.{route_of-canon}
use Rattle.xbgp_view.proofs.laws.canonical_sections_are_read_back.Goals as goal

pub returns : goal.returns
returns c = λ route is. route_of-canon route is

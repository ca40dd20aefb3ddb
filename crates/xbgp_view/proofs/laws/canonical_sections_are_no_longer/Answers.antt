use Rattle.xbgp_view.proofs.LengthsLemmas.{length-canon-route_of}
use Rattle.xbgp_view.proofs.laws.canonical_sections_are_no_longer.Goals as goal

pub returns : goal.returns
returns c = λ section octets. length-canon-route_of section octets

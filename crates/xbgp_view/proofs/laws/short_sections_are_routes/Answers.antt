use Rattle.xbgp_view.proofs.LengthsLemmas.{IsRoute-route_of}
use Rattle.xbgp_view.proofs.laws.short_sections_are_routes.Goals as goal

pub returns : goal.returns
returns c = λ section octets short. IsRoute-route_of section octets short

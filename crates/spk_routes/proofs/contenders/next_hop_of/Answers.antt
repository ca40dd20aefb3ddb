use Rattle.spk_routes.proofs.HopLemmas.{next_hop_none}
use Rattle.spk_routes.proofs.contenders.next_hop_of.Goals as goal

pub returns-in-None : goal.returns-in-None
returns-in-None g c =
    next_hop_none (g.R.RouteView.route c.args.route.now) c.copy.result c.requires c.copy.ensures.answer c.in-None.is

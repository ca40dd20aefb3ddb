use Rattle.std.proofs.Common.{◌∙◌}
use Rattle.host_interned.proofs.InternedLemmas.{peers_seen, goes_ready, goes_setup, goes_routes}
use Rattle.host_interned.proofs.interned.InternedRoutesRoutes.rescan.Goals as goal

pub rescan-requires-clause-all : goal.rescan-requires-clause-all
rescan-requires-clause-all c =
    c.requires.all ∙ peers_seen c.self.inside.core c.args.self.now c.self.view_is

pub invariant_of-self : goal.invariant_of-self
invariant_of-self c = goes_ready c.rescan.result _ c.self.inside.core c.rescan.new.self c.rescan.ensures

pub returns-clause-setup : goal.returns-clause-setup
returns-clause-setup c =
    goes_setup c.rescan.result _ c.self.inside.core c.rescan.new.self c.args.self.now c.self.view_is c.rescan.ensures

pub returns-clause-routes : goal.returns-clause-routes
returns-clause-routes c =
    goes_routes c.rescan.result _ c.self.inside.core c.rescan.new.self c.args.self.now c.self.view_is c.rescan.ensures

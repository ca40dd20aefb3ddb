use Rattle.std.proofs.Common.{◌∙◌, ◌≤◌, ℕ, subst}
use Rattle.host_interned.proofs.InternedLemmas.{peers_seen, goes_ready, goes_setup, goes_routes}
use Rattle.host_interned.proofs.interned.InternedRoutesRoutes.update.Goals as goal

pub update-requires-clause-all : goal.update-requires-clause-all
update-requires-clause-all c =
    c.requires.all ∙ peers_seen c.self.inside.core c.args.self.now c.self.view_is

pub update-requires-clause-most : goal.update-requires-clause-most
update-requires-clause-most c =
    subst (λ (n : ℕ). c.args.peer ≤ n) (peers_seen c.self.inside.core c.args.self.now c.self.view_is) c.requires.peer.1

pub invariant_of-self : goal.invariant_of-self
invariant_of-self c = goes_ready c.update.result _ c.self.inside.core c.update.new.self c.update.ensures

pub returns-clause-setup : goal.returns-clause-setup
returns-clause-setup c =
    goes_setup c.update.result _ c.self.inside.core c.update.new.self c.args.self.now c.self.view_is c.update.ensures

pub returns-clause-routes : goal.returns-clause-routes
returns-clause-routes c =
    goes_routes c.update.result _ c.self.inside.core c.update.new.self c.args.self.now c.self.view_is c.update.ensures

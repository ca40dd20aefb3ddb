use Rattle.std.proofs.Common.{◌∙◌, ◌≤◌, ℕ, subst}
use Rattle.host_interned.proofs.InternedLemmas.{peers_seen, goes_ready, goes_setup, goes_routes}
use Rattle.host_interned.proofs.interned.InternedRoutesRoutes.lose.Goals as goal

pub lose-requires-clause-all : goal.lose-requires-clause-all
lose-requires-clause-all c =
    c.requires.all ∙ peers_seen c.self.inside.core c.args.self.now c.self.view_is

pub lose-requires-clause-most : goal.lose-requires-clause-most
lose-requires-clause-most c =
    subst (λ (n : ℕ). c.args.peer ≤ n) (peers_seen c.self.inside.core c.args.self.now c.self.view_is) c.requires.peer.1

pub invariant_of-self : goal.invariant_of-self
invariant_of-self c = goes_ready c.lose.result _ c.self.inside.core c.lose.new.self c.lose.ensures

pub returns-clause-setup : goal.returns-clause-setup
returns-clause-setup c =
    goes_setup c.lose.result _ c.self.inside.core c.lose.new.self c.args.self.now c.self.view_is c.lose.ensures

pub returns-clause-routes : goal.returns-clause-routes
returns-clause-routes c =
    goes_routes c.lose.result _ c.self.inside.core c.lose.new.self c.args.self.now c.self.view_is c.lose.ensures

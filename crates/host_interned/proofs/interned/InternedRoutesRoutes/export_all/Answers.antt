use Rattle.std.proofs.Common.{◌∙◌, ◌≤◌, ℕ, subst}
use Rattle.host_interned.proofs.InternedLemmas.{peers_seen, goes_ready, goes_setup, goes_routes}
use Rattle.host_interned.proofs.interned.InternedRoutesRoutes.export_all.Goals as goal

pub export_all-requires-clause-all : goal.export_all-requires-clause-all
export_all-requires-clause-all c =
    c.requires.all ∙ peers_seen c.self.inside.core c.args.self.now c.self.view_is

pub export_all-requires-clause-most : goal.export_all-requires-clause-most
export_all-requires-clause-most c =
    subst (λ (n : ℕ). c.args.peer ≤ n) (peers_seen c.self.inside.core c.args.self.now c.self.view_is) c.requires.peer.1

pub invariant_of-self : goal.invariant_of-self
invariant_of-self c = goes_ready c.export_all.result _ c.self.inside.core c.export_all.new.self c.export_all.ensures

pub returns-clause-setup : goal.returns-clause-setup
returns-clause-setup c =
    goes_setup c.export_all.result _ c.self.inside.core c.export_all.new.self c.args.self.now c.self.view_is
    c.export_all.ensures

pub returns-clause-routes : goal.returns-clause-routes
returns-clause-routes c =
    goes_routes c.export_all.result _ c.self.inside.core c.export_all.new.self c.args.self.now c.self.view_is
    c.export_all.ensures

use Rattle.std.proofs.Common.{◌≡◌, subst, arith}
use Rattle.host_interned.specs.Ribs.{living_by, living_of, times_held, RibView}
use Rattle.host_interned.proofs.HeldLemmas.{chosen_live}
use Rattle.host_interned.proofs.KeptLemmas.{living_same}
use Rattle.host_interned.proofs.rib.Rib.records.Goals as goal

pub returns-clause-routes : goal.returns-clause-routes
returns-clause-routes c =
    let r = c.self.inside in
    subst (λ (v : RibView). living_by v.records v.chosen ≡ living_of v.best) c.self.view_is
    (living_same r.records r.best
    (chosen_live r.records (λ id. times_held id r.own r.best r.peers.items) r.best c.self.invariant.owned
    (λ k. omega (arith))))

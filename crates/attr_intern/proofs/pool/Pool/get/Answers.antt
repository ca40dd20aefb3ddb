use Rattle.std.proofs.Common.{sym, ap, ◌∙◌, subst, Some}
use Rattle.attr_intern.specs.Pools.{ArePooled}
use Rattle.attr_intern.proofs.KeptLemmas.{ArePooled-entries}
use Rattle.attr_intern.proofs.PoolLemmas.{contains, route_at-key, HasRecords}
use Rattle.attr_intern.proofs.pool.Pool.get.Goals as goal

pub index-requires : goal.index-requires
index-requires c =
    let has : HasRecords c.self.inside.shared c.args.self.now c.key.result c.args.id =
    record { all = c.self.view_is; under = c.key.ensures } in
    contains has c.requires

pub returns-clause-route : goal.returns-clause-route
returns-clause-route c =
    let has : HasRecords c.self.inside.shared c.args.self.now c.key.result c.args.id =
    record { all = c.self.view_is; under = c.key.ensures } in
    route_at-key has (Some c.index.result.now) c.index.ensures
    ∙ ap (λ o. Some o.route) (sym c.behind-self.view_is)

pub returns-clause-pooled : goal.returns-clause-pooled
returns-clause-pooled c =
    subst ArePooled c.self.view_is (ArePooled-entries c.self.inside.shared c.self.inside.ids c.self.invariant.0)

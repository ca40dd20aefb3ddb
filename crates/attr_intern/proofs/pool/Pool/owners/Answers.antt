use Rattle.std.proofs.Common.{sym, ◌∙◌, subst, Some}
use Rattle.attr_intern.specs.Pools.{ArePooled}
use Rattle.attr_intern.proofs.KeptLemmas.{ArePooled-entries}
use Rattle.attr_intern.proofs.PoolLemmas.{contains, owned, owners_at-key, HasRecords}
use Rattle.attr_intern.proofs.pool.Pool.owners.Goals as goal

pub owners_of-requires : goal.owners_of-requires
owners_of-requires c =
    let has : HasRecords c.self.inside.shared c.args.self.now c.key.result c.args.id =
    record { all = c.self.view_is; under = c.key.ensures } in
    contains has c.requires

pub returns-clause-count : goal.returns-clause-count
returns-clause-count c =
    let has : HasRecords c.self.inside.shared c.args.self.now c.key.result c.args.id =
    record { all = c.self.view_is; under = c.key.ensures } in
    let o = owned has c.requires in
    c.owners_of.ensures o.0 o.1 ∙ sym (owners_at-key has (Some o.0) o.1)

pub returns-clause-pooled : goal.returns-clause-pooled
returns-clause-pooled c =
    subst ArePooled c.self.view_is (ArePooled-entries c.self.inside.shared c.self.inside.ids c.self.invariant.0)

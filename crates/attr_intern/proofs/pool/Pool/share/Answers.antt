use Rattle.std.proofs.Common.{◌∙◌, refl}
use Rattle.attr_intern.proofs.KeptLemmas.{ArePooled-entries, AreIndexed-shared}
use Rattle.attr_intern.proofs.PoolLemmas.{contains, entries-shared, get-record_at, owned, HasRecords}
use Rattle.attr_intern.proofs.pool.Pool.share.Goals as goal

pub add_owner-requires : goal.add_owner-requires
add_owner-requires c =
    let has : HasRecords c.self.inside.shared c.args.self.now c.key.result c.args.id =
    record { all = c.self.view_is; under = c.key.ensures } in
    contains has c.requires

pub invariant_of-self : goal.invariant_of-self
invariant_of-self c =
    let has : HasRecords c.self.inside.shared c.args.self.now c.key.result c.args.id =
    record { all = c.self.view_is; under = c.key.ensures } in
    let o = owned has c.requires in (
      AreIndexed-shared c.self.inside.shared c.add_owner.new.shared c.self.inside.ids c.key.result o.0 o.1
          (c.add_owner.ensures.changed o.0 o.1) c.add_owner.ensures.others c.self.invariant.0,
      c.self.invariant.1,
    )

pub returns-clause-owner : goal.returns-clause-owner
returns-clause-owner c = λ o lives.
    let has : HasRecords c.self.inside.shared c.args.self.now c.key.result c.args.id =
    record { all = c.self.view_is; under = c.key.ensures } in
    let was = get-record_at has ∙ lives in
    entries-shared has c.add_owner.new.shared o o.route was refl (c.add_owner.ensures.changed o was)
    c.add_owner.ensures.others

pub returns-clause-pooled : goal.returns-clause-pooled
returns-clause-pooled c = ArePooled-entries c.add_owner.new.shared c.self.inside.ids (invariant_of-self c).0

use Rattle.std.proofs.Common.{◌≡◌, ◌≢◌, ◌≤◌, ◌-◌, sym, ap, ◌∙◌, subst, arith, refl, Some, None}
use Rattle.attr_intern.specs.Pools.{most_owners, one_fewer, ArePooled}
use Rattle.attr_intern.proofs.KeptLemmas.{ArePooled-entries, AreIndexed-counted, AreIndexed-removed}
use Rattle.attr_intern.proofs.PoolLemmas.{contains, entries-released, entries-with_record, entries-without_record}
use Rattle.attr_intern.proofs.PoolLemmas.{one_fewer-more, one_fewer-most, one_fewer-one, owned, HasRecords}
use Rattle.attr_intern.proofs.pool.Pool.release.Goals as goal

pub owners_of-requires : goal.owners_of-requires
owners_of-requires c =
    let has : HasRecords c.self.inside.shared c.args.self.now c.key-key.result c.args.id =
    record { all = c.self.view_is; under = c.key-key.ensures } in
    contains has c.requires

pub remove_record-requires : goal.remove_record-requires
remove_record-requires c =
    let has : HasRecords c.self.inside.shared c.args.self.now c.key-key.result c.args.id =
    record { all = c.self.view_is; under = c.key-key.ensures } in
    contains has c.requires

pub invariant_of-self : goal.invariant_of-self
invariant_of-self c =
    let has : HasRecords c.self.inside.shared c.args.self.now c.key-key.result c.args.id =
    record { all = c.self.view_is; under = c.key-key.ensures } in
    let o = owned has c.requires in (
      AreIndexed-removed c.self.inside.shared c.remove_record.new.shared c.self.inside.ids c.remove_record.new.ids
          c.key-key.result o.0 o.1 c.remove_record.ensures.record.changed c.remove_record.ensures.record.others
          (c.remove_record.ensures.id o.0 o.1) c.self.invariant.0,
      c.self.invariant.1,
    )

pub overflow_sub-owners : goal.overflow_sub-owners
overflow_sub-owners c =
    let has : HasRecords c.self.inside.shared c.args.self.now c.key-key.result c.args.id =
    record { all = c.self.view_is; under = c.key-key.ensures } in
    let o = owned has c.requires in
    omega (arith, c.owners_of.ensures o.0 o.1, c.self.invariant.0.owned c.key-key.result o.0 o.1)

pub set_owners-requires : goal.set_owners-requires
set_owners-requires c =
    let has : HasRecords c.self.inside.shared c.args.self.now c.key-key.result c.args.id =
    record { all = c.self.view_is; under = c.key-key.ensures } in
    contains has c.requires

pub invariant_of-self-in_default : goal.invariant_of-self-in_default
invariant_of-self-in_default c =
    let has : HasRecords c.self.inside.shared c.args.self.now c.key-key.result c.args.id =
    record { all = c.self.view_is; under = c.key-key.ensures } in
    let o = owned has c.requires in
    let count = c.owners_of.ensures o.0 o.1 in
    let n = c.owners_of.result - 1 in
    let some : 1 ≤ n = omega (arith, count, c.self.invariant.0.owned c.key-key.result o.0 o.1) in
    let few : n ≤ most_owners = omega (arith, count, c.self.invariant.0.counted c.key-key.result o.0 o.1) in (
      AreIndexed-counted c.self.inside.shared c.set_owners.new.shared c.self.inside.ids c.key-key.result n o.0 o.1
          (c.set_owners.ensures.changed o.0 o.1) c.set_owners.ensures.others some few c.self.invariant.0,
      c.self.invariant.1,
    )

pub returns-in-18446744073709551615-clause-after : goal.returns-in-18446744073709551615-clause-after
returns-in-18446744073709551615-clause-after c =
    let has : HasRecords c.self.inside.shared c.args.self.now c.key-key.result c.args.id =
    record { all = c.self.view_is; under = c.key-key.ensures } in
    let o = owned has c.requires in
    let count : o.0.owners ≡ most_owners = sym (c.owners_of.ensures o.0 o.1) ∙ c.in-18446744073709551615.is in
    sym c.self.view_is
    ∙ entries-with_record has c.self.inside.shared o.0 o.1 (λ other apart. refl)
    ∙ entries-released has o.0 (Some o.0) o.1 (one_fewer-most o.0 count)

pub returns-in-18446744073709551615-clause-pooled : goal.returns-in-18446744073709551615-clause-pooled
returns-in-18446744073709551615-clause-pooled c =
    subst ArePooled c.self.view_is (ArePooled-entries c.self.inside.shared c.self.inside.ids c.self.invariant.0)

pub returns-in-1-clause-after : goal.returns-in-1-clause-after
returns-in-1-clause-after c =
    let has : HasRecords c.self.inside.shared c.args.self.now c.key-key.result c.args.id =
    record { all = c.self.view_is; under = c.key-key.ensures } in
    let o = owned has c.requires in
    let count : o.0.owners ≡ 1 = sym (c.owners_of.ensures o.0 o.1) ∙ c.in-1.is in
    entries-without_record has c.remove_record.new.shared c.remove_record.ensures.record.changed
    c.remove_record.ensures.record.others
    ∙ entries-released has o.0 None o.1 (one_fewer-one o.0 count)

pub returns-in-1-clause-pooled : goal.returns-in-1-clause-pooled
returns-in-1-clause-pooled c =
    ArePooled-entries c.remove_record.new.shared c.remove_record.new.ids (invariant_of-self c).0

pub returns-in_default-clause-after : goal.returns-in_default-clause-after
returns-in_default-clause-after c =
    let has : HasRecords c.self.inside.shared c.args.self.now c.key-key.result c.args.id =
    record { all = c.self.view_is; under = c.key-key.ensures } in
    let o = owned has c.requires in
    let count = c.owners_of.ensures o.0 o.1 in
    let not_most : o.0.owners ≢ most_owners = λ most. absurd (omega (arith, count, most)) in
    let more : o.0.owners ≢ 1 = λ one. absurd (omega (arith, count, one)) in
    let w = record o.0 { owners = c.owners_of.result - 1 } in
    let fewer : one_fewer (Some o.0) ≡ Some w =
    one_fewer-more o.0 not_most more ∙ ap (λ n. Some (record o.0 { owners = n - 1 })) (sym count) in
    entries-with_record has c.set_owners.new.shared w (c.set_owners.ensures.changed o.0 o.1) c.set_owners.ensures.others
    ∙ entries-released has o.0 (Some w) o.1 fewer

pub returns-in_default-clause-pooled : goal.returns-in_default-clause-pooled
returns-in_default-clause-pooled c =
    ArePooled-entries c.set_owners.new.shared c.self.inside.ids (invariant_of-self-in_default c).0

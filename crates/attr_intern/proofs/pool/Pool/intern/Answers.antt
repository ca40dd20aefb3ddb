use Rattle.std.proofs.Common.{◌≡◌, sym, ap, ◌∙◌, subst, Some, None, is_some}
use Rattle.std.specs.Option.{IfSome}
use Rattle.std.proofs.lemmas.Result.{err_from_is_err_and}
use Rattle.bgp_attr.specs.Routes.{canon, route_of}
use Rattle.xbgp_view.specs.Sections.{IsCanonical}
use Rattle.section_map.specs.Sections.{at_section}
use Rattle.attr_intern.proofs.EntriesLemmas.{entries_from_get}
use Rattle.attr_intern.proofs.KeptLemmas.{AreIndexed-added, AreIndexed-same, AreIndexed-shared, ArePooled-entries}
use Rattle.attr_intern.proofs.KeptLemmas.{IsMeant-found}
use Rattle.attr_intern.proofs.PoolLemmas.{entries-added, entries-shared, listed_elsewhere, route_at-key, HasRecords}
use Rattle.attr_intern.proofs.pool.Pool.intern.Goals as goal

pub add_owner-requires : goal.add_owner-requires
add_owner-requires g c =
    let meant = IsMeant-found c.self.inside.shared c.self.inside.ids c.as_slice-section.result.now c.in-Some.key
    (g.R.RouteView.route c.args.view.now) c.self.invariant.0
    (ap route_of c.as_slice-section.ensures.value ∙ c.write_section.ensures.route) c.in-Some.ensures in
    ap is_some meant.there

pub invariant_of-self : goal.invariant_of-self
invariant_of-self g c =
    let r = g.R.RouteView.route c.args.view.now in
    let section = c.as_slice-section.ensures.value in
    let meant = IsMeant-found c.self.inside.shared c.self.inside.ids c.as_slice-section.result.now c.in-Some.key r
    c.self.invariant.0 (ap route_of section ∙ c.write_section.ensures.route) c.in-Some.ensures in (
      AreIndexed-shared c.self.inside.shared c.add_owner.new.shared c.self.inside.ids c.in-Some.key meant.shared
          meant.there (c.add_owner.ensures.changed meant.shared meant.there) c.add_owner.ensures.others
          c.self.invariant.0,
      ap (λ b. b.capacity) c.write_section.ensures.written ∙ c.self.invariant.1,
    )

pub returns-in-Some-clause-ok : goal.returns-in-Some-clause-ok
returns-in-Some-clause-ok g c =
    let r = g.R.RouteView.route c.args.view.now in
    let section = c.as_slice-section.ensures.value in
    let meant = IsMeant-found c.self.inside.shared c.self.inside.ids c.as_slice-section.result.now c.in-Some.key r
    c.self.invariant.0 (ap route_of section ∙ c.write_section.ensures.route) c.in-Some.ensures in
    let has : HasRecords c.self.inside.shared c.args.self.now c.in-Some.key c.new.result =
    record { all = c.self.view_is; under = sym c.new.ensures } in
    entries-shared has c.add_owner.new.shared meant.shared r meant.there meant.means
    (c.add_owner.ensures.changed meant.shared meant.there) c.add_owner.ensures.others

pub returns-in-Some-clause-meaning : goal.returns-in-Some-clause-meaning
returns-in-Some-clause-meaning g c =
    let r = g.R.RouteView.route c.args.view.now in
    let section = c.as_slice-section.ensures.value in
    let meant = IsMeant-found c.self.inside.shared c.self.inside.ids c.as_slice-section.result.now c.in-Some.key r
    c.self.invariant.0 (ap route_of section ∙ c.write_section.ensures.route) c.in-Some.ensures in
    let has : HasRecords c.self.inside.shared c.args.self.now c.in-Some.key c.new.result =
    record { all = c.self.view_is; under = sym c.new.ensures } in
    subst (λ x. IfSome x (λ route. route ≡ r)) (sym (route_at-key has (Some meant.shared) meant.there)) meant.means

pub returns-in-Some-clause-shared : goal.returns-in-Some-clause-shared
returns-in-Some-clause-shared g c = λ other lives.
    let r = g.R.RouteView.route c.args.view.now in
    let section : canon r ≡ c.as_slice-section.result.now =
    sym (c.as_slice-section.ensures.value ∙ ap (λ b. b.octets) c.write_section.ensures.written) in
    let has : HasRecords c.self.inside.shared c.args.self.now c.in-Some.key c.new.result =
    record { all = c.self.view_is; under = sym c.new.ensures } in
    let one : Some c.in-Some.key ≡ Some other =
    c.in-Some.ensures ∙ ap (at_section c.self.inside.ids) (sym section)
    ∙ listed_elsewhere has c.self.inside.ids other r c.self.invariant.0 lives in
    c.new.ensures ∙ cc one

pub returns-in-Some-clause-pooled : goal.returns-in-Some-clause-pooled
returns-in-Some-clause-pooled g c =
    ArePooled-entries c.add_owner.new.shared c.self.inside.ids (invariant_of-self g c).0

pub invariant_of-self-in_err-key : goal.invariant_of-self-in_err-key
invariant_of-self-in_err-key g c = (
  AreIndexed-same c.self.inside.shared c.add_record.new.shared c.self.inside.ids c.add_record.new.ids
      c.in_err-key.ensures.err_records c.in_err-key.ensures.err_ids c.self.invariant.0,
  ap (λ b. b.capacity) c.write_section.ensures.written ∙ c.self.invariant.1,
)

pub returns-in_err-key-clause-err : goal.returns-in_err-key-clause-err
returns-in_err-key-clause-err g c =
    let failed = err_from_is_err_and c.from_residual.result c.from_residual.ensures.1 in
    rw failed.1
    (entries_from_get c.self.inside.shared c.add_record.new.shared c.in_err-key.ensures.err_records ∙ c.self.view_is)

pub returns-in_err-key-clause-pooled : goal.returns-in_err-key-clause-pooled
returns-in_err-key-clause-pooled g c =
    ArePooled-entries c.add_record.new.shared c.add_record.new.ids (invariant_of-self-in_err-key g c).0

pub invariant_of-self-2 : goal.invariant_of-self-2
invariant_of-self-2 g c =
    let section = c.as_slice-section.ensures.value in (
      AreIndexed-added c.self.inside.shared c.add_record.new.shared c.self.inside.ids c.add_record.new.ids
          c.in_ok-key.key c.as_slice-section.result.now (g.R.RouteView.route c.args.view.now) c.in_ok-key.ensures.vacant
          c.in_ok-key.ensures.record.changed c.in_ok-key.ensures.record.others
          (subst IsCanonical (sym section) c.write_section.ensures.canonical)
          (ap route_of section ∙ c.write_section.ensures.route) c.in_default.ensures c.in_ok-key.ensures.id
          c.self.invariant.0,
      ap (λ b. b.capacity) c.write_section.ensures.written ∙ c.self.invariant.1,
    )

pub returns-clause-ok : goal.returns-clause-ok
returns-clause-ok g c =
    let has : HasRecords c.self.inside.shared c.args.self.now c.in_ok-key.key c.new-2.result =
    record { all = c.self.view_is; under = sym c.new-2.ensures } in
    entries-added has c.add_record.new.shared (g.R.RouteView.route c.args.view.now) c.in_ok-key.ensures.vacant
    c.in_ok-key.ensures.record.changed c.in_ok-key.ensures.record.others

pub returns-clause-meaning : goal.returns-clause-meaning
returns-clause-meaning g c =
    let r = g.R.RouteView.route c.args.view.now in
    let has : HasRecords c.self.inside.shared c.args.self.now c.in_ok-key.key c.new-2.result =
    record { all = c.self.view_is; under = sym c.new-2.ensures } in
    subst (λ x. IfSome x (λ route. route ≡ r)) (sym (route_at-key has None c.in_ok-key.ensures.vacant)) tt

pub returns-clause-shared : goal.returns-clause-shared
returns-clause-shared g c = λ other lives.
    let r = g.R.RouteView.route c.args.view.now in
    let section : canon r ≡ c.as_slice-section.result.now =
    sym (c.as_slice-section.ensures.value ∙ ap (λ b. b.octets) c.write_section.ensures.written) in
    let has : HasRecords c.self.inside.shared c.args.self.now c.in_ok-key.key c.new-2.result =
    record { all = c.self.view_is; under = sym c.new-2.ensures } in
    let one : None ≡ Some other =
    c.in_default.ensures ∙ ap (at_section c.self.inside.ids) (sym section)
    ∙ listed_elsewhere has c.self.inside.ids other r c.self.invariant.0 lives in
    absurd (cc one)

pub returns-clause-pooled : goal.returns-clause-pooled
returns-clause-pooled g c = ArePooled-entries c.add_record.new.shared c.add_record.new.ids (invariant_of-self-2 g c).0

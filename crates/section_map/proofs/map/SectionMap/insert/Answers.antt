use Rattle.std.proofs.Common.{Result, Ok, Some, Err, OnErr, refl, sym, ap, ◌∙◌, subst, List, ℕ}
use Rattle.std.specs.BTreeMap.{UpdatesBy, get}
use Rattle.std.specs.Ordering.{nat_cmp}
use Rattle.section_map.specs.Sections.{value_if}
use Rattle.section_map.proofs.MapLemmas.{ChangesAt-first, ChangesAt-rest, SameSections-entries, compared, none_found}
use Rattle.section_map.proofs.MapLemmas.{at_section-free, section_cmp}
use Rattle.section_map.proofs.map.SectionMap.insert.Goals as goal

on_err : {T E : Type 0} (P : Type 0) (r : Result T E) → P → OnErr r P
on_err P (Ok v) p = tt
on_err P (Err e) p = p

pub returns-in_err-insert-clause-err : goal.returns-in_err-insert-clause-err
returns-in_err-insert-clause-err g c =
    on_err _ _ (SameSections-entries c.args.self.now _ refl c.in_err-insert.ensures.err)

pub returns-in_err-insert-2-clause-err : goal.returns-in_err-insert-2-clause-err
returns-in_err-insert-2-clause-err g c =
    on_err _ _ (SameSections-entries c.args.self.now _ c.in_err-insert-2.ensures.err refl)

pub returns-in_ok-insert-clause-ok : goal.returns-in_ok-insert-clause-ok
returns-in_ok-insert-clause-ok g c =
    ChangesAt-rest c.args.self.now _ c.args.section.now c.args.value refl
    (subst (λ (s : List ℕ). UpdatesBy section_cmp (compared s) c.args.self.now.rest c.insert.new.self (Some c.args.value))
    c.in_ok-section.ensures.items c.in_ok-insert.ensures.updates)

pub returns-in_ok-insert-2-clause-ok : goal.returns-in_ok-insert-2-clause-ok
returns-in_ok-insert-2-clause-ok g c =
    ChangesAt-first c.args.self.now _ c.args.section.now c.sum_of-sum.result _ c.sum_of-sum.ensures
    c.in_ok-section.ensures.items (at_section-free c.args.self.now c.args.section.now c.requires)
    (λ q _. ap (λ slot. value_if slot q) (none_found (get nat_cmp c.args.self.now.firsts c.sum_of-sum.result)
    (sym c.contains_key.ensures ∙ c.if-contains_key.false)))
    c.in_ok-insert-2.ensures.updates refl

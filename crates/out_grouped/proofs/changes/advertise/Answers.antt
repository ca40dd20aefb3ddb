use Rattle.std.proofs.Common.{◌≡◌, Some, Result, Ok, Err, OnOk, OnErr, sym, ◌∙◌, ap, subst}
use Rattle.std.specs.BTreeMap.{is_at}
use Rattle.std.specs.Map.{set_value}
use Rattle.std.proofs.lemmas.Map.Steps.{set_value_same}
use Rattle.xb_words.specs.Table.{value_at, with_value}
use Rattle.xb_values.specs.Prefixes.{prefix_cmp}
use Rattle.out_grouped.specs.Slots.{Slots, advertised}
use Rattle.out_grouped.specs.Groups.{IsGrouped}
use Rattle.out_grouped.proofs.SlotLemmas.{set_value-with_value}
use Rattle.out_grouped.proofs.changes.advertise.Goals as goal

on_ok : {T E : Type 0} (P Q : Type 0) (r : Result T E) → (P → Q) → OnOk r P → OnOk r Q
on_ok P Q (Ok v) f p = f p
on_ok P Q (Err e) f p = tt

on_err : {T E : Type 0} (P Q : Type 0) (r : Result T E) → (P → Q) → OnErr r P → OnErr r Q
on_err P Q (Ok v) f p = tt
on_err P Q (Err e) f p = f p

pub returns-clause-ok : goal.returns-clause-ok
returns-clause-ok c =
    let es = c.args.entries.now.entries in
    let p = c.args.prefix in
    let there : value_at prefix_cmp es p ≡ Some c.in-Some.entry.now = sym c.in-Some.ensures.value in
    on_ok _ _ c.change.result (λ is.
    (c.get_mut.follows.holds c.change.new.entry).0
    ∙ set_value-with_value es p c.in-Some.entry.now c.change.new.entry c.requires.rising there
    ∙ ap (with_value prefix_cmp es p) (is ∙ ap (λ o. advertised o c.args.section.now) (sym there)))
    c.change.ensures.ok

pub returns-clause-err : goal.returns-clause-err
returns-clause-err c =
    let es = c.args.entries.now.entries in
    let p = c.args.prefix in
    let there : value_at prefix_cmp es p ≡ Some c.in-Some.entry.now = sym c.in-Some.ensures.value in
    on_err _ _ c.change.result (λ is.
    (c.get_mut.follows.holds c.change.new.entry).0 ∙ ap (set_value (is_at (prefix_cmp p)) es) is
    ∙ set_value_same (is_at (prefix_cmp p)) es c.in-Some.entry.now there) c.change.ensures.err

pub returns-clause-groups : goal.returns-clause-groups
returns-clause-groups c =
    let es = c.args.entries.now.entries in
    let p = c.args.prefix in
    let there : value_at prefix_cmp es p ≡ Some c.in-Some.entry.now = sym c.in-Some.ensures.value in
    subst (λ (l : Slots). IsGrouped c.change.new.groups l)
    (sym ((c.get_mut.follows.holds c.change.new.entry).0
    ∙ set_value-with_value es p c.in-Some.entry.now c.change.new.entry c.requires.rising there))
    (c.change.ensures.groups es c.requires.rising there c.requires.groups)

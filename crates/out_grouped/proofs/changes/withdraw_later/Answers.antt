use Rattle.std.proofs.Common.{◌≡◌, Option, List, ℕ, Some, rules, sym, ◌∙◌, ap, subst}
use Rattle.std.specs.BTreeMap.{is_at}
use Rattle.std.proofs.lemmas.Map.Steps.{set_value_same}
use Rattle.xb_words.specs.Table.{value_at, with_value, without}
use Rattle.xb_values.specs.Prefixes.{prefix_cmp}
use Rattle.out_grouped.specs.Slots.{Slots, taken_back}
use Rattle.out_grouped.specs.Groups.{IsGrouped, Leaves}
use Rattle.out_grouped.proofs.GroupLemmas.{IsGrouped-taken_back}
use Rattle.out_grouped.proofs.SlotLemmas.{set_value-with_value, without_adv-told, without_adv-fresh}
use Rattle.out_grouped.proofs.changes.withdraw_later.Goals as goal

pub forget_fresh-requires-clause-groups : goal.forget_fresh-requires-clause-groups
forget_fresh-requires-clause-groups c =
    let es = c.args.entries.now.entries in
    let s = c.in-Some.entry.now in
    subst (λ (l : Slots). IsGrouped c.args.groups.now l)
    (sym ((c.get_mut.follows.holds s).0
    ∙ set_value_same (is_at (prefix_cmp c.args.prefix)) es s (sym c.in-Some.ensures.value)))
    c.requires.groups

pub returns-then-not-is_told-clause-after : goal.returns-then-not-is_told-clause-after
returns-then-not-is_told-clause-after c =
    let es = c.args.entries.now.entries in
    let p = c.args.prefix in
    let s = c.in-Some.entry.now in
    let there : value_at prefix_cmp es p ≡ Some s = sym c.in-Some.ensures.value in
    c.forget_fresh.ensures.after
    ∙ ap (λ (l : Slots). without prefix_cmp l p) ((c.get_mut.follows.holds s).0
    ∙ set_value_same (is_at (prefix_cmp p)) es s there)
    ∙ without_adv-fresh es p s.told (search rules) ∙ ap (taken_back es p) (sym there)

pub returns-clause-after : goal.returns-clause-after
returns-clause-after c =
    let es = c.args.entries.now.entries in
    let p = c.args.prefix in
    let s = c.in-Some.entry.now in
    let there : value_at prefix_cmp es p ≡ Some s = sym c.in-Some.ensures.value in
    (c.get_mut.follows.holds c.unset.new.self).0
    ∙ set_value-with_value es p s c.unset.new.self c.requires.rising there
    ∙ ap (with_value prefix_cmp es p) c.unset.ensures.after
    ∙ without_adv-told es p s.told (search rules) ∙ ap (taken_back es p) (sym there)

pub returns-clause-groups : goal.returns-clause-groups
returns-clause-groups c =
    let es = c.args.entries.now.entries in
    let p = c.args.prefix in
    let there : value_at prefix_cmp es p ≡ Some c.in-Some.entry.now = sym c.in-Some.ensures.value in
    let leaves = subst (λ (o : Option (List ℕ)). Leaves c.args.groups.now c.leave.new.groups o p)
    c.unset.ensures.waited c.leave.ensures in
    subst (λ (l : Slots). IsGrouped c.leave.new.groups l)
    (sym (returns-clause-after c ∙ ap (taken_back es p) there))
    (IsGrouped-taken_back c.args.groups.now c.leave.new.groups es p (Some c.in-Some.entry.now) c.requires.rising there
    c.requires.groups leaves)

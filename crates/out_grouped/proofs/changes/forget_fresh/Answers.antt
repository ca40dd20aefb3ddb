use Rattle.std.proofs.Common.{◌≡◌, Option, List, ℕ, Some, sym, ◌∙◌, ap, subst}
use Rattle.xb_words.specs.Table.{value_at}
use Rattle.xb_values.specs.Prefixes.{prefix_cmp}
use Rattle.out_grouped.specs.Slots.{Slots, was_told}
use Rattle.out_grouped.specs.Groups.{IsGrouped, Leaves}
use Rattle.out_grouped.proofs.GroupLemmas.{IsGrouped-taken_back}
use Rattle.out_grouped.proofs.SlotLemmas.{without_adv-fresh}
use Rattle.out_grouped.proofs.changes.forget_fresh.Goals as goal

pub returns-in-Some-clause-groups : goal.returns-in-Some-clause-groups
returns-in-Some-clause-groups c =
    let es = c.args.entries.now.entries in
    let p = c.args.prefix in
    let s = c.in-Some.entry in
    let there : value_at prefix_cmp es p ≡ Some s = sym c.in-Some.ensures.value in
    let leaves = subst (λ (o : Option (List ℕ)). Leaves c.args.groups.now c.leave_one.new.groups o p)
    (ap Some c.deref.ensures.value ∙ c.into_section.ensures) c.leave_one.ensures in
    subst (λ (l : Slots). IsGrouped c.leave_one.new.groups l)
    (sym (c.in-Some.ensures.entries
    ∙ without_adv-fresh es p s.told (ap was_told (sym there) ∙ c.requires.untold)))
    (IsGrouped-taken_back c.args.groups.now c.leave_one.new.groups es p (Some s) c.requires.rising there
    c.requires.groups leaves)

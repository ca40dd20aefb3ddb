use Rattle.std.proofs.Common.{Option, List, ℕ, Some, None, true, refl, sym, ◌∙◌, ap, subst}
use Rattle.xb_words.specs.Table.{with_value}
use Rattle.xb_values.specs.Prefixes.{prefix_cmp}
use Rattle.out_grouped.specs.Slots.{Slot, advertised, waited, waiting}
use Rattle.out_grouped.specs.Groups.{IsGrouped, Leaves}
use Rattle.out_grouped.proofs.GroupLemmas.{IsGrouped-with_value, same_some, waiting-advertised}
use Rattle.out_grouped.proofs.changes.restore.Goals as goal

pub returns-clause-after : goal.returns-clause-after
returns-clause-after c =
    let old = c.args.entry.now in
    c.restore.ensures.after
    ∙ ap (λ (o : Option (List ℕ)). record old { adv = o }) (same_some c.args.section.now old.told c.requires)

pub returns-clause-groups : goal.returns-clause-groups
returns-clause-groups c es rising there grouped =
    let old = c.args.entry.now in
    let p = c.args.prefix in
    let x = c.args.section.now in
    let leaves = subst (λ (o : Option (List ℕ)). Leaves c.args.groups.now c.leave.new.groups o p)
    c.restore.ensures.waited c.leave.ensures in
    subst (λ (s : Slot). IsGrouped c.leave.new.groups (with_value prefix_cmp es p s)) (sym (returns-clause-after c))
    (IsGrouped-with_value c.args.groups.now c.args.groups.now c.leave.new.groups es p (advertised (Some old) x)
    (waiting old) None rising grouped (ap waited (sym there))
    (waiting-advertised (Some old) x true (sym c.requires)) (λ t. refl) leaves (λ t same. absurd (cc same)))

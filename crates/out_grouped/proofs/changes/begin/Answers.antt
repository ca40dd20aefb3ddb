use Rattle.std.proofs.Common.{Some, None, false, refl, sym, ◌∙◌, ap, subst}
use Rattle.xb_words.specs.Table.{with_value}
use Rattle.xb_values.specs.Prefixes.{prefix_cmp}
use Rattle.bgp_write.specs.Pending.{same_section}
use Rattle.out_grouped.specs.Slots.{Slots, advertised, waited}
use Rattle.out_grouped.specs.Groups.{IsGrouped}
use Rattle.out_grouped.proofs.GroupLemmas.{IsGrouped-undone, IsGrouped-with_value, waiting-advertised}
use Rattle.out_grouped.proofs.changes.begin.Goals as goal

pub returns-in-Ok-clause-groups : goal.returns-in-Ok-clause-groups
returns-in-Ok-clause-groups c =
    let es = c.args.entries.now.entries in
    let p = c.args.prefix in
    let x = c.args.section.now in
    subst (λ (l : Slots). IsGrouped c.join.new.groups l)
    (sym (c.in-Ok.ensures.entries ∙ ap (with_value prefix_cmp es p) c.in_ok-entry.ensures))
    (IsGrouped-with_value c.args.groups.now c.join.new.groups c.join.new.groups es p (advertised None x) None (Some x)
    c.requires.rising c.requires.groups (ap waited (sym c.requires.absent)) (waiting-advertised None x false refl)
    c.in_ok-join.ensures.ok (λ t. refl) (λ t same. refl))

pub returns-clause-groups : goal.returns-clause-groups
returns-clause-groups c =
    let es = c.args.entries.now.entries in
    subst (λ (l : Slots). IsGrouped c.leave_one.new.groups l) (sym c.in-Err.ensures.err)
    (IsGrouped-undone c.args.groups.now c.join.new.groups c.leave_one.new.groups es c.args.prefix
    (Some c.args.section.now) c.requires.rising c.requires.groups c.in_ok-join.ensures.ok c.leave_one.ensures
    (λ t same. ap (λ o. same_section (waited o) (Some t)) c.requires.absent))

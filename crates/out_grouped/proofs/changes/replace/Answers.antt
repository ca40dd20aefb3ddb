use Rattle.std.proofs.Common.{◌≡◌, Option, List, ℕ, Some, false, sym, ◌∙◌, ap, subst}
use Rattle.xb_words.specs.Table.{with_value}
use Rattle.xb_values.specs.Prefixes.{prefix_cmp}
use Rattle.out_grouped.specs.Slots.{Slot, advertised, waited, waiting}
use Rattle.out_grouped.specs.Groups.{IsGrouped, Leaves}
use Rattle.out_grouped.proofs.GroupLemmas.{IsGrouped-same, IsGrouped-there, IsGrouped-with_value}
use Rattle.out_grouped.proofs.GroupLemmas.{apart-advertised, waiting-advertised}
use Rattle.out_grouped.proofs.changes.replace.Goals as goal

pub returns-in_err-copy-clause-groups : goal.returns-in_err-copy-clause-groups
returns-in_err-copy-clause-groups c es rising there grouped =
    IsGrouped-there c.args.groups.now es c.args.prefix c.args.entry.now rising there grouped

pub returns-in_err-join-clause-groups : goal.returns-in_err-join-clause-groups
returns-in_err-join-clause-groups c es rising there grouped =
    IsGrouped-there c.join.new.groups es c.args.prefix c.args.entry.now rising there
    (IsGrouped-same c.args.groups.now c.join.new.groups es c.in_err-join.ensures.err grouped)

pub returns-clause-groups : goal.returns-clause-groups
returns-clause-groups c es rising there grouped =
    let old = c.args.entry.now in
    let p = c.args.prefix in
    let x = c.args.section.now in
    let is : c.change.new.self ≡ advertised (Some old) x =
    c.change.ensures.after ∙ ap (λ (l : List ℕ). advertised (Some old) l) c.in_ok-copy.ensures in
    let leaves = subst (λ (o : Option (List ℕ)). Leaves c.join.new.groups c.leave.new.groups o p)
    c.change.ensures.waited c.leave.ensures in
    subst (λ (s : Slot). IsGrouped c.leave.new.groups (with_value prefix_cmp es p s)) (sym is)
    (IsGrouped-with_value c.args.groups.now c.join.new.groups c.leave.new.groups es p (advertised (Some old) x)
    (waiting old) (Some x) rising grouped (ap waited (sym there))
    (waiting-advertised (Some old) x false (sym c.requires.untold)) c.in_ok-join.ensures.ok leaves
    (λ t same. apart-advertised (Some old) x t false c.requires.other same))

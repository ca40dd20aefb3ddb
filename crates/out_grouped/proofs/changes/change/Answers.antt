use Rattle.std.proofs.Common.{Option, List, ℕ, sym, ◌∙◌, ap}
use Rattle.out_grouped.proofs.GroupLemmas.{IsGrouped-there, same_some}
use Rattle.out_grouped.proofs.changes.change.Goals as goal

pub returns-then-is_advertised_as-clause-ok : goal.returns-then-is_advertised_as-clause-ok
returns-then-is_advertised_as-clause-ok c =
    let old = c.args.entry.now in
    ap (λ (o : Option (List ℕ)). record old { adv = o })
    (same_some c.args.section.now old.adv (sym c.is_advertised_as.ensures ∙ c.if-is_advertised_as.true))

pub returns-then-is_advertised_as-clause-groups : goal.returns-then-is_advertised_as-clause-groups
returns-then-is_advertised_as-clause-groups c es rising there grouped =
    IsGrouped-there c.args.groups.now es c.args.prefix c.args.entry.now rising there grouped

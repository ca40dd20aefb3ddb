use Rattle.std.proofs.Common.{sym}
use Rattle.std.proofs.lemmas.Bool.{OnTrue_from}
use Rattle.std.specs.BTreeMap.{is_at}
use Rattle.std.specs.Set.{remove_key}
use Rattle.xb_values.specs.Prefixes.{prefix_cmp}
use Rattle.out_grouped.proofs.GroupLemmas.{group_at-emptied, group_at-lent, when_lent}
use Rattle.out_grouped.proofs.groups.remove_from.Goals as goal

pub returns-in-Some-clause-left : goal.returns-in-Some-clause-left
returns-in-Some-clause-left c =
    group_at-lent (remove_key (is_at (prefix_cmp c.args.prefix))) c.args.groups.now
    (c.get_mut.follows.lender c.remove.new.self) c.args.section.now c.in-Some.group.now c.remove.new.self
    (sym c.in-Some.ensures.value) c.remove.ensures.keys
    (when_lent c.get_mut.result c.in-Some.group _ (c.get_mut.follows.holds c.remove.new.self) c.in-Some.is)

pub returns-in-Some-clause-empty : goal.returns-in-Some-clause-empty
returns-in-Some-clause-empty c =
    OnTrue_from c.is_empty.result _
    (λ empty. group_at-emptied (c.get_mut.follows.lender c.remove.new.self) c.args.section.now c.remove.new.self
    (when_lent c.get_mut.result c.in-Some.group _ (c.get_mut.follows.holds c.remove.new.self) c.in-Some.is).changed
    (c.is_empty.ensures.0 empty))

use Rattle.std.proofs.Common.{take, drop}
use Rattle.std.proofs.lemmas.List.{take-append-drop}
use Rattle.xb_words.proofs.TableSplitLemmas.{IsRising-left}
use Rattle.xb_values.specs.Prefixes.{prefix_cmp}
use Rattle.xb_values.proofs.PrefixLemmas.{prefix_total}
use Rattle.rib_tree.proofs.PageLemmas as page
use Rattle.rib_tree.proofs.page.split.Goals as goal

pub returns-clause-below : goal.returns-clause-below
returns-clause-below g c =
    let at = rw c.deref.ensures.value at c.how_many_below-at.ensures.place in
    rw (c.in_ok-others.ensures.items, at) (page.AllBelow-take c.args.addr c.args.entries.now.items)

pub returns-clause-from : goal.returns-clause-from
returns-clause-from g c =
    let at = rw c.deref.ensures.value at c.how_many_below-at.ensures.place in
    rw (c.in_ok-others.ensures.tail, at) (page.AllFrom-drop c.args.addr c.args.entries.now.items c.requires)

pub returns-clause-rising : goal.returns-clause-rising
returns-clause-rising g c =
    rw c.in_ok-others.ensures.items (IsRising-left prefix_cmp prefix_total
    (take c.how_many_below-at.result c.args.entries.now.items)
    (drop c.how_many_below-at.result c.args.entries.now.items)
    (rw (take-append-drop c.how_many_below-at.result c.args.entries.now.items) c.requires))

pub returns-clause-rising_others : goal.returns-clause-rising_others
returns-clause-rising_others g c =
    rw c.in_ok-others.ensures.tail
    (page.IsRising-drop c.how_many_below-at.result c.args.entries.now.items c.requires)

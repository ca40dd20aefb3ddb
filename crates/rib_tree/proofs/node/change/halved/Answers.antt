use Rattle.std.proofs.Common.{◌≡◌, rules}
use Rattle.rib_tree.specs.declared.node.Node.TheVariants.{Leaf}
use Rattle.rib_tree.proofs.TreesLemmas.{cut-low, cut-high}
use Rattle.rib_tree.proofs.node.change.halved.Goals as goal

pub returns-in-Ok-split-clause-low : goal.returns-in-Ok-split-clause-low
returns-in-Ok-split-clause-low g c =
    let is : c.deref_mut-in-Ok-split.result.now.low.node ≡ Leaf c.split.new.entries = search rules in
    let below = rw c.middle.ensures at c.in-Ok-split.ensures.below in
    rw is (
      c.in-Ok-split.ensures.rising,
      cut-low c.args.block.first c.args.block.bits c.args.page.items
          c.split.new.entries.items c.in-Ok-split.others.items c.in-Ok-split.ensures.ok c.requires.within below,
    )

pub returns-in-Ok-split-clause-high : goal.returns-in-Ok-split-clause-high
returns-in-Ok-split-clause-high g c =
    let from = rw c.middle.ensures at c.in-Ok-split.ensures.from in
    rw c.of-in-Ok-split.ensures (
      c.in-Ok-split.ensures.rising_others,
      cut-high c.args.block.first c.args.block.bits
          c.args.page.items c.split.new.entries.items c.in-Ok-split.others.items c.in-Ok-split.ensures.ok
          c.requires.some c.requires.within from,
    )

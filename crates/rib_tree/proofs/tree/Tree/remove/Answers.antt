use Rattle.rib_tree.proofs.TreesLemmas.{tree_rises}
use Rattle.rib_tree.proofs.tree.Tree.remove.Goals as goal

pub returns-clause-rising : goal.returns-clause-rising
returns-clause-rising g c =
    tree_rises 0 32 c.remove.new.tree.node (rw (c.whole.ensures.first, c.whole.ensures.bits) at c.remove.ensures.tree)

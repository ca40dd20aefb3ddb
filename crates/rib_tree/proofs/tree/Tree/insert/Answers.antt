use Rattle.rib_tree.proofs.TreesLemmas.{tree_rises}
use Rattle.rib_tree.proofs.tree.Tree.insert.Goals as goal

pub returns-clause-rising : goal.returns-clause-rising
returns-clause-rising g c =
    tree_rises 0 32 c.insert.new.tree.node (rw (c.around.ensures.first, c.around.ensures.bits) at c.insert.ensures.tree)

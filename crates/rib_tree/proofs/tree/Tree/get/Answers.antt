use Rattle.rib_tree.proofs.TreesLemmas.{tree_rises}
use Rattle.rib_tree.proofs.tree.Tree.get.Goals as goal

pub returns-clause-rising : goal.returns-clause-rising
returns-clause-rising g c = rw (← c.self.view_is) (tree_rises 0 32 c.self.inside.root.node c.self.invariant)

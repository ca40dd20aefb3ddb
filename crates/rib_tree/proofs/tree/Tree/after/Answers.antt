use Rattle.rib_tree.proofs.TreesLemmas.{tree_rises}
use Rattle.rib_tree.proofs.tree.Tree.after.Goals as goal

pub returns-in-None-clause-rising : goal.returns-in-None-clause-rising
returns-in-None-clause-rising g c = rw (← c.self.view_is) (tree_rises 0 32 c.self.inside.root.node c.self.invariant)

pub returns-in-Some-clause-rising : goal.returns-in-Some-clause-rising
returns-in-Some-clause-rising g c = rw (← c.self.view_is) (tree_rises 0 32 c.self.inside.root.node c.self.invariant)

use Rattle.rib_tree.specs.Trees.{nodes_to}
use Rattle.rib_tree.proofs.walk.+find.Given as goal

abbrev pub decreases-find : goal.decreases-find
decreases-find g l = nodes_to l.key l.tree.now.node

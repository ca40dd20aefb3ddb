use Rattle.rib_tree.specs.Trees.{nodes_to}
use Rattle.rib_tree.proofs.walk.+first_after.Given as goal

abbrev pub decreases-first_after : goal.decreases-first_after
decreases-first_after g l = nodes_to l.key l.tree.now.node

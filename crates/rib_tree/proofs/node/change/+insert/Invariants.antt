use Rattle.rib_tree.proofs.node.change.+insert.Given as goal

abbrev pub decreases-insert : goal.decreases-insert
decreases-insert g l = l.block.bits

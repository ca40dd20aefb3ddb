use Rattle.rib_tree.proofs.node.change.+remove.Given as goal

abbrev pub decreases-remove : goal.decreases-remove
decreases-remove g l = l.block.bits

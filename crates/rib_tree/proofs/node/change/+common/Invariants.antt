use Rattle.rib_tree.proofs.node.change.+common.Given as goal

abbrev pub decreases-common : goal.decreases-common
decreases-common g l = l.block.bits

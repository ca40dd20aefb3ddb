use Rattle.rib_tree.proofs.block.Block.+common.Given as goal

abbrev pub decreases-common : goal.decreases-common
decreases-common l = l.self.bits

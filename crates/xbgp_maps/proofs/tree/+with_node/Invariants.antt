use Rattle.std.proofs.Common.{length}
use Rattle.xbgp_maps.specs.Trees.{entries_of}
use Rattle.xbgp_maps.proofs.tree.+with_node.Given as goal

abbrev pub decreases-with_node : goal.decreases-with_node
decreases-with_node l = length (entries_of l.tree)

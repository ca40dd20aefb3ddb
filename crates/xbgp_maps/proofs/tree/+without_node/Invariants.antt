use Rattle.std.proofs.Common.{length}
use Rattle.xbgp_maps.specs.Trees.{entries_of}
use Rattle.xbgp_maps.proofs.tree.+without_node.Given as goal

abbrev pub decreases-without_node : goal.decreases-without_node
decreases-without_node l = length (entries_of l.tree)

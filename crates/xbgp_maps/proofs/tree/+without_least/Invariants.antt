use Rattle.std.proofs.Common.{length}
use Rattle.xbgp_maps.specs.Trees.{entries_below}
use Rattle.xbgp_maps.proofs.tree.+without_least.Given as goal

abbrev pub decreases-without_least : goal.decreases-without_least
decreases-without_least l = length (entries_below l.top.value)

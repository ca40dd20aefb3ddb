use Rattle.std.proofs.Common.{length}
use Rattle.xbgp_maps.specs.Trees.{entries_of}
use Rattle.xbgp_maps.proofs.tree.+replace.Given as goal

abbrev pub decreases-replace : goal.decreases-replace
decreases-replace l = length (entries_of l.tree.now)

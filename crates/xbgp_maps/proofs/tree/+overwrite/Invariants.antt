use Rattle.std.proofs.Common.{length}
use Rattle.xbgp_maps.specs.Trees.{entries_of}
use Rattle.xbgp_maps.proofs.tree.+overwrite.Given as goal

abbrev pub decreases-overwrite : goal.decreases-overwrite
decreases-overwrite l = length (entries_of l.tree.now)

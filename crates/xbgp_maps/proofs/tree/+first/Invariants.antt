use Rattle.std.proofs.Common.{length}
use Rattle.xbgp_maps.specs.Trees.{entries_of}
use Rattle.xbgp_maps.proofs.tree.+first.Given as goal

abbrev pub decreases-first : goal.decreases-first
decreases-first l = length (entries_of l.tree.now)

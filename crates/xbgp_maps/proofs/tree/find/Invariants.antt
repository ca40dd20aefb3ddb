use Rattle.std.proofs.Common.{◌≡◌, length}
use Rattle.xb_words.specs.Table.{value_at, IsRising}
use Rattle.xbgp_maps.specs.Mappings.{key_cmp}
use Rattle.xbgp_maps.specs.Trees.{entries_of}
use Rattle.xbgp_maps.proofs.tree.find.Given as goal

abbrev pub invariant-nodes : goal.invariant-nodes
invariant-nodes l = record {
  rising : IsRising key_cmp (entries_of l.rest);
  same : value_at key_cmp (entries_of l.rest) l.key ≡ value_at key_cmp (entries_of l.tree) l.key;
}

abbrev pub decreases-nodes : goal.decreases-nodes
decreases-nodes l = length (entries_of l.rest)

use Rattle.std.proofs.Common.{◌≡◌, length, Some}
use Rattle.std.specs.Option.{option_map}
use Rattle.xb_words.specs.Table.{entry_after, IsRising}
use Rattle.xbgp_maps.specs.Mappings.{key_cmp}
use Rattle.xbgp_maps.specs.Trees.{entries_of}
use Rattle.xbgp_maps.proofs.TreesLemmas.{or_found}
use Rattle.xbgp_maps.proofs.tree.first_after.Given as goal

abbrev pub invariant-nodes : goal.invariant-nodes
invariant-nodes l = record {
  rising : IsRising key_cmp (entries_of l.rest);
  same : or_found (entry_after key_cmp (entries_of l.rest) (Some l.key))
      (option_map (λ e. (e.0.now, e.1.now)) l.found)
      ≡ entry_after key_cmp (entries_of l.tree) (Some l.key);
}

abbrev pub decreases-nodes : goal.decreases-nodes
decreases-nodes l = length (entries_of l.rest)

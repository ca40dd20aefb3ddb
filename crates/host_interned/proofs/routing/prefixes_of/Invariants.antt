use Rattle.std.proofs.Common.{◌≡◌, ◌++◌, length}
use Rattle.std.specs.Map.{keys_of}
use Rattle.xb_words.specs.Table.{entries_after}
use Rattle.xb_values.specs.Prefixes.{prefix_cmp}
use Rattle.host_interned.proofs.routing.prefixes_of.Given as goal

-- the prefixes that are left finish the list
abbrev pub invariant-prefixes : goal.invariant-prefixes
invariant-prefixes l =
    l.prefixes.items ++ keys_of (entries_after prefix_cmp l.rib.best l.after) ≡ keys_of l.rib.best

abbrev pub decreases-prefixes : goal.decreases-prefixes
decreases-prefixes l = length (entries_after prefix_cmp l.rib.best l.after)

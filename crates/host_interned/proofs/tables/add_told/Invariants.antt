use Rattle.std.proofs.Common.{◌≡◌, length}
use Rattle.std.specs.Map.{keys_of}
use Rattle.xb_words.specs.Table.{entries_after, with_keys}
use Rattle.xb_values.specs.Prefixes.{prefix_cmp}
use Rattle.host_interned.proofs.tables.add_told.Given as goal

-- the prefixes that are left finish the set
abbrev pub invariant-prefixes : goal.invariant-prefixes
invariant-prefixes l =
    with_keys prefix_cmp l.set (keys_of (entries_after prefix_cmp l.out.adv l.after))
    ≡ with_keys prefix_cmp l.fn.set (keys_of l.out.adv)

abbrev pub decreases-prefixes : goal.decreases-prefixes
decreases-prefixes l = length (entries_after prefix_cmp l.out.adv l.after)

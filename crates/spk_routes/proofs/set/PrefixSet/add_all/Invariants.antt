use Rattle.std.proofs.Common.{◌≡◌, length}
use Rattle.xb_words.specs.Table.{with_keys}
use Rattle.xb_values.specs.Prefixes.{prefix_cmp, prefixes}
use Rattle.spk_routes.proofs.set.PrefixSet.add_all.Given as goal

-- the prefixes that are left finish the set
abbrev pub invariant-prefixes : goal.invariant-prefixes
invariant-prefixes l = with_keys prefix_cmp l.self l.rest ≡ with_keys prefix_cmp l.fn.self (prefixes l.octets)

abbrev pub decreases-prefixes : goal.decreases-prefixes
decreases-prefixes l = length l.rest

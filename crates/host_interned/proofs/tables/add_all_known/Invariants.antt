use Rattle.std.proofs.Common.{◌≡◌, drop, flat_map}
use Rattle.xb_words.specs.Table.{with_keys}
use Rattle.xb_values.specs.Prefixes.{prefix_cmp}
use Rattle.host_interned.proofs.KnownLemmas.{known_by}
use Rattle.host_interned.proofs.tables.add_all_known.Given as goal

-- the peers that are left finish the set
abbrev pub invariant-peers : goal.invariant-peers
invariant-peers l =
    with_keys prefix_cmp l.set (flat_map known_by (drop l.peer-index l.peers))
    ≡ with_keys prefix_cmp l.fn.set (flat_map known_by l.peers)

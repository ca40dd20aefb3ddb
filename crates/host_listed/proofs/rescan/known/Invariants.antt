use Rattle.std.proofs.Common.{◌≡◌, ◌++◌, drop, flat_map}
use Rattle.std.specs.Map.{keys_of}
use Rattle.xb_words.specs.Table.{set_of, with_keys}
use Rattle.xb_values.specs.Prefixes.{prefix_cmp}
use Rattle.host_listed.proofs.rescan.known.Given as goal

-- the peers that are left finish the set
abbrev pub invariant-peers : goal.invariant-peers
invariant-peers l =
    with_keys prefix_cmp l.set (flat_map (λ t. keys_of t.adjin ++ keys_of t.adv) (drop l.peer-index l.peers))
    ≡ set_of prefix_cmp (l.config.networks ++ flat_map (λ t. keys_of t.adjin ++ keys_of t.adv) l.peers)

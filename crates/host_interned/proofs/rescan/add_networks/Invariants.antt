use Rattle.std.proofs.Common.{◌≡◌, drop}
use Rattle.xb_words.specs.Table.{with_keys}
use Rattle.xb_values.specs.Prefixes.{prefix_cmp}
use Rattle.host_interned.proofs.rescan.add_networks.Given as goal

-- the networks that are left finish the set
abbrev pub invariant-networks : goal.invariant-networks
invariant-networks l =
    with_keys prefix_cmp l.set (drop l.i l.networks) ≡ with_keys prefix_cmp l.fn.set l.networks

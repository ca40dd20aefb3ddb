use Rattle.std.proofs.Common.{◌≡◌, drop}
use Rattle.std.specs.List.{list_any}
use Rattle.xbgp_config.specs.Configs.{same_prefix}
use Rattle.spk_routes.proofs.sides.has_network.Given as goal

-- a network that is left is the prefix, if any is
abbrev pub invariant-loop-i : goal.invariant-loop-i
invariant-loop-i l =
    list_any (same_prefix l.prefix) (drop l.i l.networks) ≡ list_any (same_prefix l.prefix) l.networks

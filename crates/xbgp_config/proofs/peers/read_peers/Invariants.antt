use Rattle.std.proofs.Common.{◌≡◌, ◌+◌, map, drop}
use Rattle.toml.specs.View.{view}
use Rattle.xb_fields.specs.Fields.{judged_entries, judged_from}
use Rattle.xbgp_config.specs.Configs.{peer_entry}
use Rattle.xbgp_config.proofs.peers.read_peers.Given as goal

abbrev pub invariant-loop-i : goal.invariant-loop-i
invariant-loop-i l = judged_from (peer_entry l.own) (l.i + 1) l.items.items (map view (drop l.i l.values)) ≡ judged_entries (peer_entry l.own) (map view l.values)

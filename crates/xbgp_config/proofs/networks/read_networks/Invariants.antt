use Rattle.std.proofs.Common.{◌≡◌, ◌+◌, map, drop}
use Rattle.std.specs.BTreeSet.{contains}
use Rattle.std.specs.List.{list_any}
use Rattle.toml.specs.View.{view}
use Rattle.xb_values.specs.Prefixes.{Prefix, prefix_cmp}
use Rattle.xb_fields.specs.Fields.{judged_entries, judged_from}
use Rattle.xbgp_config.specs.Configs.{network_entry, same_prefix}
use Rattle.xbgp_config.proofs.networks.read_networks.Given as goal

abbrev pub invariant-loop-i : goal.invariant-loop-i
invariant-loop-i l = record {
  rest : judged_from network_entry (l.i + 1) l.items.items (map view (drop l.i l.values)) ≡ judged_entries network_entry (map view l.values);
  seen : (p : Prefix) → contains prefix_cmp l.seen p ≡ list_any (same_prefix p) l.items.items;
}

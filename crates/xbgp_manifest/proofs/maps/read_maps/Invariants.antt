use Rattle.std.proofs.Common.{◌≡◌, ◌+◌, map, drop}
use Rattle.toml.specs.View.{view}
use Rattle.xb_fields.specs.Fields.{judged_entries, judged_from}
use Rattle.xbgp_manifest.specs.Manifests.{map_entry}
use Rattle.xbgp_manifest.proofs.maps.read_maps.Given as goal

abbrev pub invariant-loop-i : goal.invariant-loop-i
invariant-loop-i l = record {
  rest : judged_from map_entry (l.i + 1) l.items.items (map view (drop l.i l.values)) ≡ judged_entries map_entry (map view l.values);
  names : map (λ k. k.now) l.names.keys ≡ map (λ m. m.name) l.items.items;
}

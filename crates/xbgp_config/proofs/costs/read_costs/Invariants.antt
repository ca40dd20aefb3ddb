use Rattle.std.proofs.Common.{◌≡◌, ℕ, ◌+◌, map, drop, nat_cmp}
use Rattle.std.specs.Prelude.{◌==◌}
use Rattle.std.specs.BTreeSet.{contains}
use Rattle.std.specs.List.{list_any}
use Rattle.toml.specs.View.{view}
use Rattle.xb_fields.specs.Fields.{judged_entries, judged_from}
use Rattle.xbgp_config.specs.Configs.{cost_entry}
use Rattle.xbgp_config.proofs.costs.read_costs.Given as goal

abbrev pub invariant-loop-i : goal.invariant-loop-i
invariant-loop-i l = record {
  rest : judged_from cost_entry (l.i + 1) l.items.items (map view (drop l.i l.values)) ≡ judged_entries cost_entry (map view l.values);
  seen : (hop : ℕ) → contains nat_cmp l.seen hop ≡ list_any (λ c. hop == c.next_hop) l.items.items;
}

use Rattle.std.proofs.Common.{◌≡◌, ◌≤◌, length, map, vec_capacity}
use Rattle.std.specs.List.{AllByRecursion}
use Rattle.xbgp_maps.specs.Tables.{IsBlank}
use Rattle.xbgp_maps.proofs.table.blanks.Given as goal

-- as many nodes as turns, and room for all
abbrev pub invariant-nodes : goal.invariant-nodes
invariant-nodes l = record {
  count : length l.nodes.items ≡ l.counter;
  capacity : l.shape.entries ≤ vec_capacity l.nodes;
  blank : AllByRecursion (IsBlank l.shape) (map (λ n. n.value) l.nodes.items);
}

use Rattle.std.proofs.Common.{◌≡◌, drop}
use Rattle.std.specs.Prelude.{find, ◌==◌}
use Rattle.spk_routes.proofs.sides.cost_in.Given as goal

-- the first entry of the next hop is among those that are left
abbrev pub invariant-loop-i : goal.invariant-loop-i
invariant-loop-i l =
    find (λ c. c.next_hop == l.hop) (drop l.i l.costs) ≡ find (λ c. c.next_hop == l.hop) l.costs

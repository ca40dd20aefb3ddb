use Rattle.std.proofs.Common.{◌≡◌, ℕ}
use Rattle.std.specs.Prelude.{IsTrue}
use Rattle.bpf_insn.specs.Loading.{begins}
use Rattle.bpf_machine.specs.Does.{machine}
use Rattle.bpf_machine.specs.Running.{turns, bpf}
use Rattle.bpf_machine.proofs.running.run.Given as goal

-- what is left to run is the rest of the whole run, an instruction begins at the slot, and the world allows the same
-- helpers and holds the same references
abbrev pub invariant-instructions : goal.invariant-instructions
invariant-instructions g l = record {
  rest : turns g.H.Helpers.helps l.code l.left (machine l.regs l.memory l.slot) (g.H.Helpers.state l.world) ≡ bpf g.H.Helpers.helps l.code l.fn.memory l.fuel (g.H.Helpers.state l.fn.world);
  here : IsTrue (begins l.code l.slot);
  allowed : (n : ℕ) → g.H.Helpers.allowed (g.H.Helpers.state l.world) n ≡ g.H.Helpers.allowed (g.H.Helpers.state l.fn.world) n;
  names : g.H.Helpers.names l.world ≡ g.H.Helpers.names l.fn.world;
}

abbrev pub decreases-instructions : goal.decreases-instructions
decreases-instructions g l = l.left

-- A run of a program: instructions until it ends, as long as there is fuel.
-- Fuel, helpers and the causes are this project's own.
use Rattle.std.specs.Prelude.{ℕ, zero, suc, List}
use Rattle.bpf_mem.specs.Memory.{Memory}
use Rattle.bpf_machine.specs.declared.world.Cause.TheVariants as causes
use Rattle.bpf_machine.specs.declared.world.End.{End}
use Rattle.bpf_machine.specs.declared.world.End.TheVariants.{Exit, Next, Failed}
use Rattle.bpf_machine.specs.declared.world.Called.{Called}
use Rattle.bpf_machine.specs.declared.world.Called.TheVariants as called
use Rattle.bpf_machine.specs.Steps.{Machine, Did, goes, ends, faults, calls, take_step, entry, returned}

-- what a helper returns, and the memory and the world that it leaves
pub record CallResult (W : Type 0) : Type 0 where
  pub called : Called
  pub memory : Memory
  pub world : W

-- how a run ends, and the memory and the world that it leaves
pub record Ended (W : Type 0) : Type 0 where
  pub end : End
  pub memory : Memory
  pub world : W

-- the helpers over worlds W: the result of a call by number, arguments, memory and world
abbrev pub Helps : Type 0 → Type 0
Helps W = ℕ → List ℕ → Memory → W → CallResult W

-- a run after a call: a value is r0 of what follows
abbrev pub after_call : {W : Type 0} → (Machine → W → Ended W) → Machine → CallResult W → Called → Ended W
after_call rest m a (called.Value n) = rest (returned m a.memory n) a.world
after_call rest m a called.Next = record { end = Next; memory = a.memory; world = a.world }
after_call rest m a called.Misuse = record { end = Failed causes.Misuse; memory = a.memory; world = a.world }

module _ {W : Type 0} (help : Helps W) (code : List ℕ) where
  -- a run after an instruction, with the rest of the run
  abbrev pub after_step : (Machine → W → Ended W) → Machine → W → Did → Ended W
  after_step rest m w (goes next) = rest next w
  after_step rest m w (ends n) = record { end = Exit n; memory = m.memory; world = w }
  after_step rest m w faults = record { end = Failed causes.Memory; memory = m.memory; world = w }
  after_step rest m w (calls number args) = let a = help number args m.memory w in after_call rest m a a.called

  -- a run of at most `fuel` instructions from a state on
  unfoldable pub turns : ℕ → Machine → W → Ended W
  turns zero m w = record { end = Failed causes.Fuel; memory = m.memory; world = w }
  turns (suc fuel) m w = after_step (turns fuel) m w (take_step code m)

  -- a whole run: code, memory, fuel and world give the end, the memory and the world
  unfoldable pub bpf : Memory → ℕ → W → Ended W
  bpf memory fuel w = turns fuel (entry memory) w

-- The state after a number of instructions of a run, which says what fuel decides.
use Rattle.std.specs.Prelude.{ℕ, zero, suc, List, Option, Some, None, option_and_then}
use Rattle.bpf_machine.specs.declared.world.Called.{Called}
use Rattle.bpf_machine.specs.declared.world.Called.TheVariants as called
use Rattle.bpf_machine.specs.Steps.{Machine, Did, goes, ends, faults, calls, take_step, returned}
use Rattle.bpf_machine.specs.Running.{CallResult, Helps}

-- a machine, and a world
abbrev pub State : Type 0 → Type 0
State W = Machine × W

-- the state after a call, unless the helper's result ends the program
abbrev pub call_state : {W : Type 0} → Machine → CallResult W → Called → Option (State W)
call_state m a (called.Value n) = Some (returned m a.memory n, a.world)
call_state m a called.Next = None
call_state m a called.Misuse = None

module _ {W : Type 0} (help : Helps W) (code : List ℕ) where
  -- the state after an instruction, unless it ends the program
  abbrev pub step_state : Machine → W → Did → Option (State W)
  step_state m w (goes next) = Some (next, w)
  step_state m w (ends n) = None
  step_state m w faults = None
  step_state m w (calls number args) = let a = help number args m.memory w in call_state m a a.called

  -- the state after n instructions, unless one of them ended the program
  unfoldable pub state_after : ℕ → Machine → W → Option (State W)
  state_after zero m w = Some (m, w)
  state_after (suc n) m w = option_and_then (λ s. state_after n s.0 s.1) (step_state m w (take_step code m))

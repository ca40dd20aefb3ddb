-- What fuel decides of a run.
use Rattle.std.proofs.Common.{◌≡◌, ◌≢◌, ap, ℕ, zero, suc, ◌+◌, List, Option, Some, None, option_and_then, refl, arith}
use Rattle.bpf_mem.specs.Memory.{Memory}
use Rattle.bpf_machine.specs.declared.world.Cause.TheVariants as causes
use Rattle.bpf_machine.specs.declared.world.End.TheVariants.{Failed}
use Rattle.bpf_machine.specs.declared.world.Called.{Called}
use Rattle.bpf_machine.specs.declared.world.Called.TheVariants as called
use Rattle.bpf_machine.specs.Steps.{Machine, Did, goes, ends, faults, calls, take_step, entry, returned}
use Rattle.bpf_machine.specs.Running.{CallResult, Helps, after_call, after_step, turns, bpf}
use Rattle.bpf_machine.specs.Fuel.{State, call_state, step_state, state_after}
use Rattle.bpf_machine.proofs.RunLemmas.{ended}

module _ {W : Type 0} (help : Helps W) (code : List ℕ) where
  -- the state after n more instructions
  abbrev then_state_after : ℕ → Option (State W) → Option (State W)
  then_state_after n o = option_and_then (λ s. state_after help code n s.0 s.1) o

  -- if n instructions ran, fuel is spent
  abbrev Spends : ℕ → Type 0
  Spends n = (m : Machine) (w : W) (last : Machine) (v : W) → state_after help code n m w ≡ Some (last, v) → turns help code n m w ≡ ended (Failed causes.Fuel) last.memory v

  spends-call : (n : ℕ) → Spends n → (m : Machine) (a : CallResult W) (c : Called) (last : Machine) (v : W)
      → then_state_after n (call_state m a c) ≡ Some (last, v) → after_call (turns help code n) m a c ≡ ended (Failed causes.Fuel) last.memory v
  spends-call n h m a (called.Value x) last v e = h (returned m a.memory x) a.world last v e
  spends-call n h m a called.Next last v e = absurd (cc)
  spends-call n h m a called.Misuse last v e = absurd (cc)

  spends-step : (n : ℕ) → Spends n → (m : Machine) (w : W) (d : Did) (last : Machine) (v : W)
      → then_state_after n (step_state help code m w d) ≡ Some (last, v) → after_step help code (turns help code n) m w d ≡ ended (Failed causes.Fuel) last.memory v
  spends-step n h m w (goes next) last v e = h next w last v e
  spends-step n h m w (ends x) last v e = absurd (cc)
  spends-step n h m w faults last v e = absurd (cc)
  spends-step n h m w (calls number args) last v e = let a = help number args m.memory w in spends-call n h m a a.called last v e

  spends : (n : ℕ) → Spends n
  unfolding turns state_after
  spends zero m w last v e =
      let same : (let s : State W = (m, w) in s) ≡ (last, v) = cc in
      ap (λ (s : State W). ended (Failed causes.Fuel) s.0.memory s.1) same
  spends (suc n) m w last v e = spends-step n (spends n) m w (take_step code m) last v e

  -- if fewer ran, it isn't
  abbrev Ends : ℕ → Type 0
  Ends n = (m : Machine) (w : W) → state_after help code n m w ≡ None → (turns help code n m w).end ≢ Failed causes.Fuel

  ends-call : (n : ℕ) → Ends n → (m : Machine) (a : CallResult W) (c : Called) → then_state_after n (call_state m a c) ≡ None → (after_call (turns help code n) m a c).end ≢ Failed causes.Fuel
  ends-call n h m a (called.Value x) e = h (returned m a.memory x) a.world e
  ends-call n h m a called.Next e = λ p. cc
  ends-call n h m a called.Misuse e = λ p. cc

  ends-step : (n : ℕ) → Ends n → (m : Machine) (w : W) (d : Did) → then_state_after n (step_state help code m w d) ≡ None → (after_step help code (turns help code n) m w d).end ≢ Failed causes.Fuel
  ends-step n h m w (goes next) e = h next w e
  ends-step n h m w (ends x) e = λ p. cc
  ends-step n h m w faults e = λ p. cc
  ends-step n h m w (calls number args) e = let a = help number args m.memory w in ends-call n h m a a.called e

  ends-before : (n : ℕ) → Ends n
  unfolding turns state_after
  ends-before zero m w e = absurd (cc)
  ends-before (suc n) m w e = ends-step n (ends-before n) m w (take_step code m) e

  -- and more fuel changes nothing
  abbrev Stays : ℕ → ℕ → Type 0
  Stays k n = (m : Machine) (w : W) → state_after help code n m w ≡ None → turns help code (n + k) m w ≡ turns help code n m w

  stays-call : (k n : ℕ) → Stays k n → (m : Machine) (a : CallResult W) (c : Called) → then_state_after n (call_state m a c) ≡ None → after_call (turns help code (n + k)) m a c ≡ after_call (turns help code n) m a c
  stays-call k n h m a (called.Value x) e = h (returned m a.memory x) a.world e
  stays-call k n h m a called.Next e = refl
  stays-call k n h m a called.Misuse e = refl

  stays-step : (k n : ℕ) → Stays k n → (m : Machine) (w : W) (d : Did) → then_state_after n (step_state help code m w d) ≡ None
      → after_step help code (turns help code (n + k)) m w d ≡ after_step help code (turns help code n) m w d
  stays-step k n h m w (goes next) e = h next w e
  stays-step k n h m w (ends x) e = refl
  stays-step k n h m w faults e = refl
  stays-step k n h m w (calls number args) e = let a = help number args m.memory w in stays-call k n h m a a.called e

  stays : (k n : ℕ) → Stays k n
  unfolding turns state_after
  stays k zero m w e = absurd (cc)
  stays k (suc n) m w e =
      let one : suc n + k ≡ suc (n + k) = omega arith in
      rw one (stays-step k n (stays k n) m w (take_step code m) e)

  -- a run that spends its fuel
  pub bpf-spent : (memory : Memory) (fuel : ℕ) (w : W) (m : Machine) (v : W) → state_after help code fuel (entry memory) w ≡ Some (m, v) → bpf help code memory fuel w ≡ ended (Failed causes.Fuel) m.memory v
  unfolding bpf
  bpf-spent memory fuel w m v e = spends fuel (entry memory) w m v e

  -- a run that ended earlier has not spent its fuel
  pub bpf-ended : (memory : Memory) (fuel : ℕ) (w : W) → state_after help code fuel (entry memory) w ≡ None → (bpf help code memory fuel w).end ≢ Failed causes.Fuel
  unfolding bpf
  bpf-ended memory fuel w e = ends-before fuel (entry memory) w e

  -- and more fuel changes nothing
  pub bpf-more_fuel : (memory : Memory) (fuel more : ℕ) (w : W) → state_after help code fuel (entry memory) w ≡ None → bpf help code memory (fuel + more) w ≡ bpf help code memory fuel w
  unfolding bpf
  bpf-more_fuel memory fuel more w e = stays more fuel (entry memory) w e

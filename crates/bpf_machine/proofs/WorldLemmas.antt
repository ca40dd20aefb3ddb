-- What a run keeps and shows of a world.
use Rattle.std.proofs.Common.{◌≡◌, refl, ◌∙◌, ap, ℕ, zero, suc, List}
use Rattle.bpf_mem.specs.Memory.{Memory}
use Rattle.bpf_machine.specs.declared.world.Called.{Called}
use Rattle.bpf_machine.specs.declared.world.Called.TheVariants as called
use Rattle.bpf_machine.specs.Steps.{Machine, Did, goes, ends, faults, calls, take_step, entry, returned}
use Rattle.bpf_machine.specs.Running.{CallResult, Ended, Helps, after_call, after_step, turns, bpf}
use Rattle.bpf_machine.specs.Worlds.{Keeps, Shows, shown_call, shown_end}

module _ {W A : Type 0} (part : W → A) (help : Helps W) (code : List ℕ) (keeps : Keeps part help) where
  abbrev TurnsKeep : ℕ → Type 0
  TurnsKeep n = (m : Machine) (w : W) → part (turns help code n m w).world ≡ part w

  after_call-kept : (n : ℕ) → TurnsKeep n → (m : Machine) (w : W) (a : CallResult W) (c : Called) → part a.world ≡ part w → part (after_call (turns help code n) m a c).world ≡ part w
  after_call-kept n h m w a (called.Value x) e = h (returned m a.memory x) a.world ∙ e
  after_call-kept n h m w a called.Next e = e
  after_call-kept n h m w a called.Misuse e = e

  after_step-kept : (n : ℕ) → TurnsKeep n → (m : Machine) (w : W) (d : Did) → part (after_step help code (turns help code n) m w d).world ≡ part w
  after_step-kept n h m w (goes next) = h next w
  after_step-kept n h m w (ends x) = refl
  after_step-kept n h m w faults = refl
  after_step-kept n h m w (calls number args) = let a = help number args m.memory w in after_call-kept n h m w a a.called (keeps number args m.memory w)

  turns-kept : (n : ℕ) → TurnsKeep n
  unfolding turns
  turns-kept zero m w = refl
  turns-kept (suc n) m w = after_step-kept n (turns-kept n) m w (take_step code m)

  -- a part of the world that no call changes is the same after a run
  pub world-kept : (memory : Memory) (fuel : ℕ) (w : W) → part (bpf help code memory fuel w).world ≡ part w
  unfolding bpf
  world-kept memory fuel w = turns-kept fuel (entry memory) w

module _ {W A : Type 0} (show : W → A) (help : Helps W) (other : Helps A) (code : List ℕ) (shows : Shows show help other) where
  abbrev Same : (Machine → W → Ended W) → (Machine → A → Ended A) → Type 0
  Same rest rest' = (m : Machine) (w : W) → shown_end show (rest m w) ≡ rest' m (show w)

  after_call-shown : (rest : Machine → W → Ended W) (rest' : Machine → A → Ended A) → Same rest rest'
      → (m : Machine) (a : CallResult W) (c : Called) → shown_end show (after_call rest m a c) ≡ after_call rest' m (shown_call show a) c
  after_call-shown rest rest' same m a (called.Value n) = same _ a.world
  after_call-shown rest rest' same m a called.Next = refl
  after_call-shown rest rest' same m a called.Misuse = refl

  after_step-shown : (rest : Machine → W → Ended W) (rest' : Machine → A → Ended A) → Same rest rest'
      → (m : Machine) (w : W) (d : Did) → shown_end show (after_step help code rest m w d) ≡ after_step other code rest' m (show w) d
  after_step-shown rest rest' same m w (goes next) = same next w
  after_step-shown rest rest' same m w (ends n) = refl
  after_step-shown rest rest' same m w faults = refl
  after_step-shown rest rest' same m w (calls number args) =
      after_call-shown rest rest' same m (help number args m.memory w) (help number args m.memory w).called
      ∙ ap (λ (a : CallResult A). after_call rest' m a a.called) (shows number args m.memory w)

  turns-shown : (fuel : ℕ) → Same (turns help code fuel) (turns other code fuel)
  unfolding turns
  turns-shown zero m w = refl
  turns-shown (suc fuel) m w = after_step-shown (turns help code fuel) (turns other code fuel) (turns-shown fuel) m w (take_step code m)

  -- if each call does to the shown world what other helpers do, a run does to it what a run with those does
  pub bpf-shown : (memory : Memory) (fuel : ℕ) (w : W) → shown_end show (bpf help code memory fuel w) ≡ bpf other code memory fuel (show w)
  unfolding bpf
  bpf-shown memory fuel w = turns-shown fuel (entry memory) w

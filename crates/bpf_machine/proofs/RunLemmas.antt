-- One turn of a run, from the contracts of the code's parts.
use Rattle.std.proofs.Common.{◌≡◌, sym, ap, ◌∙◌, subst, ℕ, suc, ◌+◌, ◌-◌, ◌<◌, Bool, List, arith}
use Rattle.std.specs.Prelude.{IsTrue}
use Rattle.bpf_mem.specs.Memory.{Memory}
use Rattle.bpf_insn.specs.Slots.{raw_imm, insn_at}
use Rattle.bpf_insn.specs.Loading.{begins}
use Rattle.bpf_insn.specs.Sound.{IsAccepted, IsSound, CallsOnly}
use Rattle.bpf_machine.specs.declared.world.Cause.TheVariants as causes
use Rattle.bpf_machine.specs.declared.world.End.{End}
use Rattle.bpf_machine.specs.declared.world.End.TheVariants.{Exit, Next, Failed}
use Rattle.bpf_machine.specs.declared.world.Called.{Called}
use Rattle.bpf_machine.specs.declared.world.Called.TheVariants as called
use Rattle.bpf_machine.specs.declared.step.Step.TheVariants as steps
use Rattle.bpf_machine.specs.Words.{low}
use Rattle.bpf_machine.specs.Steps.{Did, goes, ends, faults, calls, arguments, take_step, entry, returned}
use Rattle.bpf_machine.specs.Does.{Does, machine}
use Rattle.bpf_machine.specs.Running.{CallResult, Ended, Helps, after_call, after_step, turns, bpf}
use Rattle.bpf_machine.proofs.FollowLemmas.{Follows, Follows-take_step}

-- an end with the memory and the world that it leaves
abbrev pub ended : {W : Type 0} → End → Memory → W → Ended W
ended end memory world = record { end = end; memory = memory; world = world }

-- a run has some end, memory and world
pub record Has {W : Type 0} (end : End) (memory : Memory) (world : W) (run : Ended W) : Type 0 where
  pub same_end : end ≡ run.end
  pub same_memory : memory ≡ run.memory
  pub same_world : world ≡ run.world

-- the parts of an equal run
pub Has-parts : {W : Type 0} (end : End) (memory : Memory) (world : W) (run : Ended W) → ended end memory world ≡ run → Has end memory world run
Has-parts end memory world run is = record { same_end = ap (λ (e : Ended _). e.end) is; same_memory = ap (λ (e : Ended _). e.memory) is; same_world = ap (λ (e : Ended _). e.world) is }

-- at the start the whole run is left
pub turns-bpf : {W : Type 0} (help : Helps W) (code regs : List ℕ) (memory : Memory) (fuel : ℕ) (w : W) → regs ≡ (entry memory).regs → turns help code fuel (machine regs memory 0) w ≡ bpf help code memory fuel w
unfolding bpf
turns-bpf help code regs memory fuel w e = ap (λ r. turns help code fuel (machine r memory 0) w) e

-- without fuel the run is over
pub ended-no_fuel : {W : Type 0} (help : Helps W) (code regs : List ℕ) (memory : Memory) (slot left : ℕ) (w : W) (whole : Ended W) → left ≡ 0 → turns help code left (machine regs memory slot) w ≡ whole
    → ended (Failed causes.Fuel) memory w ≡ whole
unfolding turns
ended-no_fuel help code regs memory slot left w whole e rest = sym (ap (λ n. turns help code n (machine regs memory slot) w) e) ∙ rest

-- a turn from some registers and memory to others
module _ {W : Type 0} (help : Helps W) (code : List ℕ) (left : ℕ) (regs : List ℕ) (memory : Memory) (slot : ℕ) (w : W) (whole : Ended W) (some : 0 < left)
    (rest : turns help code left (machine regs memory slot) w ≡ whole) (after : List ℕ) (new : Memory) where
  goes_whole : (did : Did) → take_step code (machine regs memory slot) ≡ did → after_step help code (turns help code (left - 1)) (machine regs memory slot) w did ≡ whole
  unfolding turns
  goes_whole did e =
      let one : left ≡ suc (left - 1) = omega arith in
      sym (ap (λ n. turns help code n (machine regs memory slot) w) one ∙ ap (λ d. after_step help code (turns help code (left - 1)) (machine regs memory slot) w d) e) ∙ rest

  -- an instruction that goes on
  pub turns-Goes : (next : ℕ) → Does (take_step code (machine regs memory slot)) (steps.Goes next) regs after memory new → turns help code (left - 1) (machine after new next) w ≡ whole
  turns-Goes next did = goes_whole (goes (machine after new next)) did

  -- one that ends the program
  pub ended-Ends : (n : ℕ) → Does (take_step code (machine regs memory slot)) (steps.Ends n) regs after memory new → ended (Exit n) new w ≡ whole
  ended-Ends n did = ap (λ (m : Memory). ended (Exit n) m w) did.1 ∙ goes_whole (ends n) did.0

  -- one that faults
  pub ended-Faults : Does (take_step code (machine regs memory slot)) steps.Faults regs after memory new → ended (Failed causes.Memory) new w ≡ whole
  ended-Faults did = ap (λ (m : Memory). ended (Failed causes.Memory) m w) did.1 ∙ goes_whole faults did.0

  -- a call, its result, and what it leaves
  module _ (number : ℕ) (did : Does (take_step code (machine regs memory slot)) (steps.Calls number) regs after memory new) (was : Called) (left_memory : Memory) (left_world : W)
      (was_is : was ≡ (help number (arguments after) new w).called) (memory_is : left_memory ≡ (help number (arguments after) new w).memory) (world_is : left_world ≡ (help number (arguments after) new w).world) where
    abbrev given : List ℕ → Memory → Ended W
    given r m = after_call (turns help code (left - 1)) (machine r m slot) (help number (arguments r) m w) (help number (arguments r) m w).called

    abbrev answer : CallResult W
    answer = record { called = was; memory = left_memory; world = left_world }

    answer_is : answer ≡ help number (arguments after) new w
    answer_is =
        ap (λ (c : Called). let x : CallResult W = record { called = c; memory = left_memory; world = left_world } in x) was_is
        ∙ ap (λ (m : Memory). let x : CallResult W = record { called = (help number (arguments after) new w).called; memory = m; world = left_world } in x) memory_is
        ∙ ap (λ (v : W). let x : CallResult W = record { called = (help number (arguments after) new w).called; memory = (help number (arguments after) new w).memory; world = v } in x) world_is

    asked : after_call (turns help code (left - 1)) (machine after new slot) answer was ≡ whole
    asked =
        ap (λ (a : CallResult W). after_call (turns help code (left - 1)) (machine after new slot) a a.called) answer_is
        ∙ ap (λ r. given r new) did.1 ∙ ap (λ (m : Memory). given regs m) did.2 ∙ goes_whole (calls number (arguments regs)) did.0

    -- a helper that returns a value
    pub turns-Value : (n : ℕ) (later : List ℕ) → was ≡ called.Value n → later ≡ (returned (machine after new slot) left_memory n).regs
        → turns help code (left - 1) (machine later left_memory (slot + 1)) left_world ≡ whole
    turns-Value n later is later_is =
        ap (λ r. turns help code (left - 1) (machine r left_memory (slot + 1)) left_world) later_is
        ∙ ap (λ (c : Called). after_call (turns help code (left - 1)) (machine after new slot) answer c) (sym is) ∙ asked

    -- a helper that passes on to the next program
    pub ended-Next : was ≡ called.Next → ended Next left_memory left_world ≡ whole
    ended-Next is = ap (λ (c : Called). after_call (turns help code (left - 1)) (machine after new slot) answer c) (sym is) ∙ asked

    -- a misuse
    pub ended-Misuse : was ≡ called.Misuse → ended (Failed causes.Misuse) left_memory left_world ≡ whole
    ended-Misuse is = ap (λ (c : Called). after_call (turns help code (left - 1)) (machine after new slot) answer c) (sym is) ∙ asked

-- the slot after a turn
module _ (code : List ℕ) (slot : ℕ) (sound : IsSound code slot) (accepted : IsAccepted code) (here : IsTrue (begins code slot)) (regs after : List ℕ) (memory new : Memory) where
  -- an instruction begins at the next slot
  pub begins-Goes : (next : ℕ) → Does (take_step code (machine regs memory slot)) (steps.Goes next) regs after memory new → IsTrue (begins code next)
  unfolding Follows
  begins-Goes next did = subst (λ (d : Did). Follows code slot d) did (Follows-take_step code slot sound accepted here regs memory)

  module _ (number : ℕ) (did : Does (take_step code (machine regs memory slot)) (steps.Calls number) regs after memory new) where
    asks_follows : Follows code slot (calls number (arguments regs))
    asks_follows = subst (λ (d : Did). Follows code slot d) did.0 (Follows-take_step code slot sound accepted here regs memory)

    -- after a call too
    pub begins-Calls : IsTrue (begins code (slot + 1))
    unfolding Follows
    begins-Calls = asks_follows.0

    -- and the call is allowed
    pub allowed-Calls : (allowed now : ℕ → Bool) → CallsOnly allowed code → ((n : ℕ) → now n ≡ allowed n) → low 32 (insn_at code slot).imm ≡ raw_imm code slot → IsTrue (now number)
    unfolding Follows
    allowed-Calls allowed now only same low_half =
        let is : number ≡ raw_imm code slot = asks_follows.2 ∙ low_half in
        same number ∙ ap allowed is ∙ only.each slot here asks_follows.1

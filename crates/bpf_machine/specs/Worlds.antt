-- Worlds beside a part of them, and beside another world that they show.
use Rattle.std.specs.Prelude.{◌≡◌, ℕ, List}
use Rattle.bpf_mem.specs.Memory.{Memory}
use Rattle.bpf_machine.specs.Running.{CallResult, Ended, Helps}

module _ {W A : Type 0} (part : W → A) where
  -- no call changes a part of the world
  abbrev pub Keeps : Helps W → Type 0
  Keeps help =
      (number : ℕ) (args : List ℕ) (memory : Memory) (w : W) → part (help number args memory w).world ≡ part w

  -- the result of a call, and the end of a run, over the world that a world shows
  abbrev pub shown_call : CallResult W → CallResult A
  shown_call a = record { called = a.called; memory = a.memory; world = part a.world }

  abbrev pub shown_end : Ended W → Ended A
  shown_end e = record { end = e.end; memory = e.memory; world = part e.world }

  -- each call does to the world that a world shows what other helpers do
  abbrev pub Shows : Helps W → Helps A → Type 0
  Shows help other =
      (number : ℕ) (args : List ℕ) (memory : Memory) (w : W)
      → shown_call (help number args memory w) ≡ other number args memory (part w)

-- A world that is one number: helper 1 adds one to it and returns it.
use Rattle.std.specs.Prelude.{ℕ, ◌+◌, ◌%◌, ◌^◌, Bool, ◌==◌}
use Rattle.bpf_machine.specs.declared.world.Called.TheVariants.{Value}
use Rattle.bpf_machine.specs.Running.{Helps}

-- the number after one call more
abbrev pub counted : ℕ → ℕ
counted n = (n + 1) % 2 ^ 64

-- the helper
abbrev pub count : Helps ℕ
count number args memory n = record { called = Value (counted n); memory = memory; world = counted n }

-- helper 1 alone is allowed
abbrev pub is_count : ℕ → Bool
is_count number = number == 1

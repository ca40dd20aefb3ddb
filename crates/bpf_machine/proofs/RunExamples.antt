-- Worked programs, by evaluation.
use Rattle.std.proofs.Common.{◌≡◌, refl, ℕ, List, [], ◌∷◌}
use Rattle.bpf_mem.specs.Memory.{fresh}
use Rattle.bpf_machine.specs.declared.world.Cause.TheVariants as causes
use Rattle.bpf_machine.specs.declared.world.End.{End}
use Rattle.bpf_machine.specs.declared.world.End.TheVariants.{Exit, Failed}
use Rattle.bpf_machine.specs.declared.world.Called.TheVariants as called
use Rattle.bpf_machine.specs.Words.{result_of, converted}
use Rattle.bpf_machine.specs.Steps.{computed, load_result, jump_step, take_step}
use Rattle.bpf_machine.specs.Running.{Helps, turns, bpf}

-- no helper is there
abbrev no_help : Helps (Unit {0})
no_help number args memory w = record { called = called.Misuse; memory = memory; world = w }

abbrev exec : ℕ → List ℕ → End
exec fuel code = (bpf no_help code (fresh []) fuel tt).end

abbrev exit : List ℕ
exit = 0x95 ∷ 0 ∷ 0 ∷ 0 ∷ 0 ∷ 0 ∷ 0 ∷ 0 ∷ []

seven : exec 1000 (0xb7 ∷ 0 ∷ 0 ∷ 0 ∷ 7 ∷ 0 ∷ 0 ∷ 0 ∷ exit) ≡ Exit 7
unfolding bpf turns take_step computed result_of converted jump_step
seven = refl

-- -1, then a 32-bit remainder by 0
remainder_by_0 : exec 1000 (0xb7 ∷ 0 ∷ 0 ∷ 0 ∷ 255 ∷ 255 ∷ 255 ∷ 255 ∷ 0x94 ∷ 0 ∷ 0 ∷ 0 ∷ 0 ∷ 0 ∷ 0 ∷ 0 ∷ exit) ≡ Exit 4294967295
unfolding bpf turns take_step computed result_of converted jump_step
remainder_by_0 = refl

spins : exec 200 (5 ∷ 0 ∷ 255 ∷ 255 ∷ 0 ∷ 0 ∷ 0 ∷ 0 ∷ exit) ≡ Failed causes.Fuel
unfolding bpf turns take_step jump_step
spins = refl

outside : exec 1000 (0x79 ∷ 0 ∷ 0 ∷ 0 ∷ 0 ∷ 0 ∷ 0 ∷ 0 ∷ exit) ≡ Failed causes.Memory
unfolding bpf turns take_step load_result jump_step
outside = refl

wide : exec 1000 (0x18 ∷ 0 ∷ 0 ∷ 0 ∷ 255 ∷ 255 ∷ 255 ∷ 255 ∷ 0 ∷ 0 ∷ 0 ∷ 0 ∷ 1 ∷ 0 ∷ 0 ∷ 0 ∷ exit) ≡ Exit 8589934591
unfolding bpf turns take_step jump_step
wide = refl

-- -8, shifted by one without its sign
shifted : exec 1000 (0xb7 ∷ 0 ∷ 0 ∷ 0 ∷ 248 ∷ 255 ∷ 255 ∷ 255 ∷ 0x77 ∷ 0 ∷ 0 ∷ 0 ∷ 1 ∷ 0 ∷ 0 ∷ 0 ∷ exit) ≡ Exit 9223372036854775804
unfolding bpf turns take_step computed result_of converted jump_step
shifted = refl

-- the instruction that uses up the fuel may end the program
last_of_fuel : exec 2 (0xb7 ∷ 0 ∷ 0 ∷ 0 ∷ 7 ∷ 0 ∷ 0 ∷ 0 ∷ exit) ≡ Exit 7
unfolding bpf turns take_step computed result_of converted jump_step
last_of_fuel = refl

short_of_fuel : exec 1 (0xb7 ∷ 0 ∷ 0 ∷ 0 ∷ 7 ∷ 0 ∷ 0 ∷ 0 ∷ exit) ≡ Failed causes.Fuel
unfolding bpf turns take_step computed result_of converted jump_step
short_of_fuel = refl

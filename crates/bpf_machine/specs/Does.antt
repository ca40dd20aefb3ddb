-- What the code returns for one instruction, beside its definition (for private calls, and for the loop of `run`).
use Rattle.std.specs.Prelude.{◌≡◌, ℕ, List}
use Rattle.bpf_mem.specs.Memory.{Memory}
use Rattle.bpf_machine.specs.Steps.{Machine, Did, goes, ends, faults, calls, arguments}
use Rattle.bpf_machine.specs.declared.step.Step.{Step}
use Rattle.bpf_machine.specs.declared.step.Step.TheVariants as steps

-- the state with some registers and memory at a slot
abbrev pub machine : List ℕ → Memory → ℕ → Machine
machine regs memory slot = record { regs = regs; memory = memory; slot = slot }

-- the code did what the definition says, and left some registers and some memory
abbrev pub Does : Did → Step → List ℕ → List ℕ → Memory → Memory → Type 0
Does did (steps.Goes slot) before after old new = did ≡ goes (machine after new slot)
Does did (steps.Ends n) before after old new = (did ≡ ends n) × (new ≡ old)
Does did steps.Faults before after old new = (did ≡ faults) × (new ≡ old)
Does did (steps.Calls number) before after old new =
    (did ≡ calls number (arguments before)) × (after ≡ before) × (new ≡ old)

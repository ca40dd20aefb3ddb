-- One instruction by its class, from the contracts of the code's parts.
use Rattle.std.proofs.Common.{◌≡◌, ◌≢◌, refl, sym, ap, ◌∙◌, subst, ℕ, ◌+◌, ◌%◌, ◌<◌, ◌^◌, List, inl, inr, ◌⊎◌}
use Rattle.std.specs.Prelude.{slice_set}
use Rattle.std.proofs.lemmas.Bool.{eq-eqb, ne_eqb}
use Rattle.std.proofs.Math.Nat.{mod-eq_of_lt}
use Rattle.bpf_mem.specs.Memory.{Memory, load, store}
use Rattle.bpf_insn.specs.declared.insn.Insn.{Insn}
use Rattle.bpf_insn.specs.Slots.{insn_at, word}
use Rattle.bpf_insn.specs.Forms.{class, operation}
use Rattle.bpf_machine.specs.Words.{low, result_of}
use Rattle.bpf_machine.specs.Steps.{Did, goes, reg, operand, computed, jump_step, access_address, access_size}
use Rattle.bpf_machine.specs.Steps.{load_step, store_step, set_step, insn_step, take_step}
use Rattle.bpf_machine.specs.declared.step.Step.{Step}
use Rattle.bpf_machine.specs.Does.{Does, machine}

-- arithmetic on 64 bits
pub computed-64 : (i : Insn) (x y c code offset r : ℕ) → c ≡ class i.opcode → c ≡ 7 → code ≡ operation i.opcode → code ≢ 13 → offset ≡ word i.offset → x < 2 ^ 64 → y < 2 ^ 64
    → r ≡ result_of 64 code offset x y → r ≡ computed i x y
unfolding computed
computed-64 i x y c code offset r c_is seven code_is ordinary offset_is x_in y_in r_is =
    let first : x % 2 ^ 64 ≡ x = mod-eq_of_lt x_in in
    let second : y % 2 ^ 64 ≡ y = mod-eq_of_lt y_in in
    rw (eq-eqb (class i.opcode) 7 (sym c_is ∙ seven), ← code_is, ne_eqb code 13 ordinary, ← offset_is, first, second) r_is

-- arithmetic on the low 32 bits
pub computed-32 : (i : Insn) (x y c code offset r : ℕ) → c ≡ class i.opcode → c ≢ 7 → code ≡ operation i.opcode → code ≢ 13 → offset ≡ word i.offset
    → r ≡ result_of 32 code offset (low 32 x) (low 32 y) → r ≡ computed i x y
unfolding computed
computed-32 i x y c code offset r c_is other code_is ordinary offset_is r_is =
    rw (ne_eqb (class i.opcode) 7 (λ e. other (c_is ∙ e)), ← code_is, ne_eqb code 13 ordinary, ← offset_is) r_is

-- what the code did is what an equal definition says
pub Does-same : (d e : Did) (s : Step) (before after : List ℕ) (old new : Memory) → e ≡ d → Does d s before after old new → Does e s before after old new
Does-same d e s before after old new same h = subst (λ (x : Did). Does x s before after old new) (sym same) h

-- the instruction at a slot
pub take_step-insn_step : (code regs : List ℕ) (slot : ℕ) (memory : Memory) (i : Insn) → i ≡ insn_at code slot → take_step code (machine regs memory slot) ≡ insn_step i (machine regs memory slot)
unfolding take_step
take_step-insn_step code regs slot memory i here = ap (λ (x : Insn). insn_step x (machine regs memory slot)) (sym here)

-- an instruction, by its class
module _ (regs : List ℕ) (slot : ℕ) (memory : Memory) (i : Insn) (c : ℕ) (c_is : c ≡ class i.opcode) where
  -- classes ALU and ALU64
  pub insn_step-arithmetic : (c ≡ 4) ⊎ (c ≡ 7) → insn_step i (machine regs memory slot) ≡ set_step (machine regs memory slot) i.dst (computed i (reg regs i.dst) (operand regs i)) (slot + 1)
  insn_step-arithmetic cases =
      elim cases [
        | inl four ↦ rw (sym c_is ∙ four) refl
        | inr seven ↦ rw (sym c_is ∙ seven) refl
      ]

  -- classes JMP and JMP32
  pub insn_step-jump : (c ≡ 5) ⊎ (c ≡ 6) → insn_step i (machine regs memory slot) ≡ jump_step (machine regs memory slot) i
  insn_step-jump cases =
      elim cases [
        | inl five ↦ rw (sym c_is ∙ five) refl
        | inr six ↦ rw (sym c_is ∙ six) refl
      ]

  -- class LD
  pub insn_step-wide : c ≡ 0 → insn_step i (machine regs memory slot) ≡ goes (machine (slice_set regs i.dst i.imm) memory (slot + 2))
  insn_step-wide zero_c = rw (sym c_is ∙ zero_c) refl

  -- class LDX
  pub insn_step-load : c ≡ 1 → insn_step i (machine regs memory slot) ≡ load_step (machine regs memory slot) i (load memory (access_address regs i.src i) (access_size i.opcode))
  insn_step-load one = rw (sym c_is ∙ one) refl

  -- class ST
  pub insn_step-store : c ≡ 2 → insn_step i (machine regs memory slot) ≡ store_step (machine regs memory slot) (store memory (access_address regs i.dst i) (access_size i.opcode) i.imm)
  insn_step-store two = rw (sym c_is ∙ two) refl

  -- class STX
  pub insn_step-register_store : c ≡ 3 → insn_step i (machine regs memory slot) ≡ store_step (machine regs memory slot) (store memory (access_address regs i.dst i) (access_size i.opcode) (reg regs i.src))
  insn_step-register_store three = rw (sym c_is ∙ three) refl

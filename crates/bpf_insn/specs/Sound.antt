-- What the loader guarantees: execution never leaves accepted code.
use Rattle.std.specs.Prelude.{◌≡◌, ◌≢◌, ℕ, ◌+◌, ◌*◌, ◌≤◌, Bool, true, List, length, None, IsTrue, if◌then◌else◌}
use Rattle.bpf_insn.specs.declared.limits.TheConstants.{SLOT_SIZE, MAX_SLOTS, FRAME_POINTER}
use Rattle.bpf_insn.specs.Slots.{slots, opcode_of, dst_of, src_of, raw_offset, raw_imm, is_wide}
use Rattle.bpf_insn.specs.Forms.{is_opcode, are_fields, has_target, writes_register, is_call, is_exit, is_ja}
use Rattle.bpf_insn.specs.Loading.{begins, has_second, is_start, target, load_fault}

-- every helper may be called
abbrev pub every_helper : ℕ → Bool
every_helper number = true

-- code that the loader accepts, whatever helpers it calls
pub record IsAccepted (code : List ℕ) : Type 0 where
  pub whole : length code ≡ SLOT_SIZE * slots code
  pub nonempty : 1 ≤ slots code
  pub few : slots code ≤ MAX_SLOTS
  pub accepted : load_fault every_helper code ≡ None

-- the slot after the instruction at slot i
abbrev pub slot_after : List ℕ → ℕ → ℕ
slot_after code i = if is_wide (opcode_of code i) then i + 2 else i + 1

-- an instruction of accepted code: it has a form, its registers exist, its jump goes to an instruction,
-- it doesn't write r10, and after it there is an instruction unless it is EXIT or JA
pub record IsSound (code : List ℕ) (i : ℕ) : Type 0 where
  pub opcode : IsTrue (is_opcode (opcode_of code i))
  pub dst : dst_of code i ≤ FRAME_POINTER
  pub src : src_of code i ≤ FRAME_POINTER
  pub fields :
      IsTrue (are_fields (opcode_of code i) (dst_of code i) (src_of code i) (raw_offset code i) (raw_imm code i))
  pub pair : IsTrue (is_wide (opcode_of code i)) → IsTrue (has_second code i)
  pub jump : IsTrue (has_target (opcode_of code i)) → IsTrue (is_start code (target code i))
  pub write : IsTrue (writes_register (opcode_of code i)) → dst_of code i ≢ FRAME_POINTER
  pub next :
      ¬ IsTrue (is_exit (opcode_of code i)) → ¬ IsTrue (is_ja (opcode_of code i))
      → IsTrue (begins code (slot_after code i))

-- code calls no helpers except those that are allowed
pub record CallsOnly (allowed : ℕ → Bool) (code : List ℕ) : Type 0 where
  pub each : (i : ℕ) → IsTrue (begins code i) → IsTrue (is_call (opcode_of code i)) → IsTrue (allowed (raw_imm code i))

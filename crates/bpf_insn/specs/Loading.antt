-- The first fault of bytecode (RFC 9669, sections 3 to 5, in this project's profile).
-- The order of the checks and the limit are this project's own.
use Rattle.std.specs.Prelude.{ℕ, zero, suc, ◌+◌, ◌-◌, ◌%◌, Bool, false, List, [], ◌∷◌, length, filter, Option, Some}
use Rattle.std.specs.Prelude.{None, option_map, ℤ, pos, negsuc, ◌+ℤ◌, nat_lt, ◌==◌, ◌&&◌, ◌||◌, not, if◌then◌else◌}
use Rattle.xb_words.specs.Optional.{or_else}
use Rattle.bpf_insn.specs.declared.fault.LoadKind.{LoadKind}
use Rattle.bpf_insn.specs.declared.fault.LoadKind.TheVariants.{Length, TooLong, Opcode, Register, Reserved, WidePair}
use Rattle.bpf_insn.specs.declared.fault.LoadKind.TheVariants.{Jump, WriteR10, Helper, OpenEnd}
use Rattle.bpf_insn.specs.declared.fault.LoadFault.{LoadFault}
use Rattle.bpf_insn.specs.declared.limits.TheConstants.{SLOT_SIZE, MAX_SLOTS, FRAME_POINTER}
use Rattle.bpf_insn.specs.declared.opcodes.TheConstants.{JA_JMP32}
use Rattle.bpf_insn.specs.Slots.{slots, opcode_of, dst_of, src_of, raw_offset, raw_imm, offset_of, imm_of, is_wide}
use Rattle.bpf_insn.specs.Forms.{is_opcode, are_fields, has_target, writes_register, is_call, is_exit, is_ja}

-- a 64-bit load takes the slot after it as its second slot, whatever that holds
abbrev pub is_second : List ℕ → ℕ → Bool
is_second code zero = false
is_second code (suc i) = not (is_second code i) && is_wide (opcode_of code i)

-- an instruction begins at slot i
abbrev pub begins : List ℕ → ℕ → Bool
begins code i = nat_lt i (slots code) && not (is_second code i)

-- the n numbers from i on
abbrev pub numbers_from : ℕ → ℕ → List ℕ
numbers_from zero i = []
numbers_from (suc n) i = i ∷ numbers_from n (i + 1)

-- the slots at which instructions begin, in increasing order
abbrev pub starts : List ℕ → List ℕ
starts code = filter (λ i. not (is_second code i)) (numbers_from (slots code) 0)

-- the slot at which the last instruction begins
abbrev pub last_start : List ℕ → ℕ
last_start code = if is_second code (slots code - 1) then slots code - 2 else slots code - 1

-- the slot after a 64-bit load at slot i exists, and has no field except its immediate
abbrev pub has_second : List ℕ → ℕ → Bool
has_second code i =
    nat_lt (i + 1) (slots code)
    && ((opcode_of code (i + 1) == 0 && dst_of code (i + 1) == 0)
    && (src_of code (i + 1) == 0 && raw_offset code (i + 1) == 0))

-- the slot at which the program goes on if the jump at slot i is taken; JA of class JMP32 has its distance in the
-- immediate
abbrev pub target : List ℕ → ℕ → ℤ
target code i = pos (i + 1) +ℤ (if opcode_of code i == JA_JMP32 then imm_of code i else offset_of code i)

-- an instruction begins at a slot that may be before slot 0
abbrev pub is_start : List ℕ → ℤ → Bool
is_start code (pos i) = begins code i
is_start code (negsuc i) = false

-- the first fault of the instruction at slot i, by the checks in their order
abbrev pub slot_fault : (ℕ → Bool) → List ℕ → ℕ → Option LoadKind
slot_fault allowed code i =
    let op = opcode_of code i in
    if not (is_opcode op) then Some Opcode
    else if nat_lt FRAME_POINTER (dst_of code i) || nat_lt FRAME_POINTER (src_of code i) then Some Register
    else if not (are_fields op (dst_of code i) (src_of code i) (raw_offset code i) (raw_imm code i)) then Some Reserved
    else if is_wide op && not (has_second code i) then Some WidePair
    else if has_target op && not (is_start code (target code i)) then Some Jump
    else if writes_register op && dst_of code i == FRAME_POINTER then Some WriteR10
    else if is_call op && not (allowed (raw_imm code i)) then Some (Helper (raw_imm code i))
    else None

-- a fault at a slot
abbrev pub fault_at : ℕ → LoadKind → LoadFault
fault_at slot kind = record { kind = kind; slot = slot }

-- the first fault of the instructions at some slots, in their order
abbrev pub first_slot_fault : (ℕ → Bool) → List ℕ → List ℕ → Option LoadFault
first_slot_fault allowed code [] = None
first_slot_fault allowed code (i ∷ is) =
    or_else (option_map (fault_at i) (slot_fault allowed code i)) (first_slot_fault allowed code is)

-- the fault of the end, unless the last instruction is EXIT or JA
abbrev pub end_fault : List ℕ → Option LoadFault
end_fault code =
    let op = opcode_of code (last_start code) in
    if is_exit op || is_ja op then None else Some (fault_at (last_start code) OpenEnd)

-- the first fault of bytecode: of its length, of an instruction, of its end
unfoldable pub load_fault : (ℕ → Bool) → List ℕ → Option LoadFault
load_fault allowed code =
    if length code == 0 || not (length code % SLOT_SIZE == 0) then Some (fault_at 0 Length)
    else if nat_lt MAX_SLOTS (slots code) then Some (fault_at 0 TooLong)
    else or_else (first_slot_fault allowed code (starts code)) (end_fault code)

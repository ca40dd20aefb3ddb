-- Slots of bytecode: opcode, registers (the destination in the low four bits), offset, immediate, little-endian
-- (RFC 9669, sections 3.1 and 3.2).
use Rattle.std.specs.Prelude.{ℕ, ◌+◌, ◌*◌, ◌/◌, ◌%◌, ◌^◌, Bool, List, [], ◌∷◌, length, take, drop, slice_index, ℤ, ◌==◌}
use Rattle.std.specs.Prelude.{if◌then◌else◌}
use Rattle.std.specs.Int.{w16, w32, w64, cast_signed, cast_unsigned, from_le_bytes}
use Rattle.bpf_insn.specs.declared.limits.TheConstants.{SLOT_SIZE}
use Rattle.bpf_insn.specs.declared.opcodes.TheConstants.{LD_IMM64}
use Rattle.bpf_insn.specs.declared.insn.Insn.{Insn}

-- the number of whole slots
abbrev pub slots : List ℕ → ℕ
slots code = length code / SLOT_SIZE

-- the octets of slot i
abbrev pub slot_of : List ℕ → ℕ → List ℕ
slot_of code i = take SLOT_SIZE (drop (SLOT_SIZE * i) code)

-- octet k of slot i; octets past the end count as 0
abbrev pub octet_of : List ℕ → ℕ → ℕ → ℕ
octet_of code i k = slice_index code (SLOT_SIZE * i + k)

-- the first octet
abbrev pub opcode_of : List ℕ → ℕ → ℕ
opcode_of code i = octet_of code i 0

-- the registers
abbrev pub dst_of : List ℕ → ℕ → ℕ
dst_of code i = octet_of code i 1 % 16

abbrev pub src_of : List ℕ → ℕ → ℕ
src_of code i = octet_of code i 1 / 16

-- the offset and the immediate without a sign
abbrev pub raw_offset : List ℕ → ℕ → ℕ
raw_offset code i = from_le_bytes w16 (octet_of code i 2 ∷ octet_of code i 3 ∷ [])

abbrev pub raw_imm : List ℕ → ℕ → ℕ
raw_imm code i = from_le_bytes w32 (octet_of code i 4 ∷ octet_of code i 5 ∷ octet_of code i 6 ∷ octet_of code i 7 ∷ [])

-- with their signs
abbrev pub offset_of : List ℕ → ℕ → ℤ
offset_of code i = cast_signed w16 (raw_offset code i)

abbrev pub imm_of : List ℕ → ℕ → ℤ
imm_of code i = cast_signed w32 (raw_imm code i)

-- a signed number modulo 2^64
abbrev pub word : ℤ → ℕ
word z = cast_unsigned w64 z

-- the 64-bit load takes two slots (section 3.2)
abbrev pub is_wide : ℕ → Bool
is_wide opcode = opcode == LD_IMM64

-- the instruction that begins at slot i
abbrev pub insn_at : List ℕ → ℕ → Insn
insn_at code i = record {
  opcode = opcode_of code i;
  dst = dst_of code i;
  src = src_of code i;
  offset = offset_of code i;
  imm =
      (if is_wide (opcode_of code i) then raw_imm code i + 2 ^ 32 * raw_imm code (i + 1)
      else word (imm_of code i));
}

-- The forms of instructions that this profile has, and the fields that each may have (RFC 9669, sections 3 to 5).
use Rattle.std.specs.Prelude.{ℕ, ◌/◌, ◌%◌, Bool, nat_le, ◌==◌, ◌&&◌, ◌||◌, not, if◌then◌else◌}
use Rattle.bpf_insn.specs.declared.opcodes.TheConstants.{ALU, ALU64, JMP, JMP32, DIV, NEG, MOD, MOV, ARSH, JEQ, JSGE}
use Rattle.bpf_insn.specs.declared.opcodes.TheConstants.{JLT, JSLE, NEG_ALU, NEG_ALU64, END_LE, END_BE, END_SWAP}
use Rattle.bpf_insn.specs.declared.opcodes.TheConstants.{JA_JMP, JA_JMP32, CALL_JMP, EXIT_JMP}
use Rattle.bpf_insn.specs.declared.opcodes.TheConstants.{LDX_W, LDX_H, LDX_B, LDX_DW, LDX_SW, LDX_SH, LDX_SB, ST_W}
use Rattle.bpf_insn.specs.declared.opcodes.TheConstants.{ST_H, ST_B, ST_DW, STX_W, STX_H, STX_B, STX_DW}
use Rattle.bpf_insn.specs.Slots.{is_wide}

-- the class of an opcode: the low three bits
abbrev pub class : ℕ → ℕ
class op = op % 8

-- the second operand is a register: the bit after the class
abbrev pub by_register : ℕ → Bool
by_register op = op / 8 % 2 == 1

-- the operation of arithmetic or of a jump: the high four bits
abbrev pub operation : ℕ → ℕ
operation op = op / 16

-- arithmetic with two operands (section 4.1)
abbrev pub is_alu : ℕ → Bool
is_alu op = (class op == ALU || class op == ALU64) && (nat_le (operation op) ARSH && not (operation op == NEG))

-- NEG (section 4.1)
abbrev pub is_neg : ℕ → Bool
is_neg op = op == NEG_ALU || op == NEG_ALU64

-- conversions of the order of octets (section 4.2)
abbrev pub is_end : ℕ → Bool
is_end op = op == END_LE || (op == END_BE || op == END_SWAP)

-- conditional jumps (section 4.3)
abbrev pub is_condition : ℕ → Bool
is_condition op =
    (class op == JMP || class op == JMP32)
    && (nat_le JEQ (operation op) && nat_le (operation op) JSGE
    || nat_le JLT (operation op) && nat_le (operation op) JSLE)

-- JA, by the offset or by the immediate (section 4.3)
abbrev pub is_ja : ℕ → Bool
is_ja op = op == JA_JMP || op == JA_JMP32

-- a call of a helper by its number (section 4.3.1)
abbrev pub is_call : ℕ → Bool
is_call op = op == CALL_JMP

-- the end of the program (section 4.3)
abbrev pub is_exit : ℕ → Bool
is_exit op = op == EXIT_JMP

-- loads that extend by zeros (section 5.1)
abbrev pub is_load : ℕ → Bool
is_load op = (op == LDX_W || op == LDX_H) || (op == LDX_B || op == LDX_DW)

-- loads that extend by the sign (section 5.2)
abbrev pub is_signed_load : ℕ → Bool
is_signed_load op = op == LDX_SW || (op == LDX_SH || op == LDX_SB)

-- stores of the immediate (section 5.1)
abbrev pub is_store : ℕ → Bool
is_store op = (op == ST_W || op == ST_H) || (op == ST_B || op == ST_DW)

-- stores of a register (section 5.1)
abbrev pub is_register_store : ℕ → Bool
is_register_store op = (op == STX_W || op == STX_H) || (op == STX_B || op == STX_DW)

-- the opcodes of the profile
abbrev pub is_opcode : ℕ → Bool
is_opcode op =
    is_alu op || (is_neg op || (is_end op || (is_condition op || (is_ja op || (is_call op || (is_exit op
    || (is_wide op || (is_load op || (is_signed_load op || (is_store op || is_register_store op))))))))))

-- jumps have a target
abbrev pub has_target : ℕ → Bool
has_target op = is_condition op || is_ja op

-- the destination is written
abbrev pub writes_register : ℕ → Bool
writes_register op = is_alu op || (is_neg op || (is_end op || (is_load op || (is_signed_load op || is_wide op))))

-- the offsets that arithmetic may have: 1 is signed DIV and MOD, a width is MOV that extends by the sign (section 4.1)
abbrev pub is_alu_offset : ℕ → ℕ → Bool
is_alu_offset op offset =
    offset == 0
    || ((operation op == DIV || operation op == MOD) && offset == 1
    || (operation op == MOV && by_register op) && (offset == 8 || (offset == 16 || offset == 32 && class op == ALU64)))

-- the operand that the register form or the immediate form doesn't use is 0
abbrev pub has_one_operand : ℕ → ℕ → ℕ → Bool
has_one_operand op src imm = if by_register op then imm == 0 else src == 0

-- the fields that a form doesn't use are 0, and the others have a value that the form lists
abbrev pub are_fields : ℕ → ℕ → ℕ → ℕ → ℕ → Bool
are_fields op dst src offset imm =
    if is_alu op then has_one_operand op src imm && is_alu_offset op offset
    else if is_neg op then src == 0 && (offset == 0 && imm == 0)
    else if is_end op then src == 0 && (offset == 0 && (imm == 16 || (imm == 32 || imm == 64)))
    else if is_condition op then has_one_operand op src imm
    else if op == JA_JMP then dst == 0 && (src == 0 && imm == 0)
    else if op == JA_JMP32 || is_call op then dst == 0 && (src == 0 && offset == 0)
    else if is_exit op then (dst == 0 && src == 0) && (offset == 0 && imm == 0)
    else if is_wide op then src == 0 && offset == 0
    else if is_store op then src == 0
    else imm == 0

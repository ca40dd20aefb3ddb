-- One instruction, by its class (RFC 9669, sections 4 and 5), on eleven numbers below 2^64 and memory.
-- The loader accepts no opcodes except those of the profile, so nothing is said of others.
use Rattle.std.specs.Prelude.{ℕ, ◌+◌, ◌/◌, ◌%◌, ◌^◌, Bool, List, [], ◌∷◌, slice_index, slice_set, Option, Some, None}
use Rattle.std.specs.Prelude.{◌==◌, ◌||◌, if◌then◌else◌, length}
use Rattle.bpf_mem.specs.declared.regions.TheConstants.{WINDOW_BASE, STACK_END}
use Rattle.bpf_mem.specs.Memory.{Memory, load, store}
use Rattle.bpf_insn.specs.declared.opcodes.TheConstants.{LD, LDX, ST, ALU, JMP, JMP32, ALU64, END, JA, CALL, EXIT, W, H}
use Rattle.bpf_insn.specs.declared.opcodes.TheConstants.{B, MEMSX}
use Rattle.bpf_insn.specs.declared.insn.Insn.{Insn}
use Rattle.bpf_insn.specs.Slots.{insn_at, word}
use Rattle.bpf_insn.specs.Forms.{class, by_register, operation}
use Rattle.bpf_machine.specs.Words.{low, extended, result_of, comparison_holds, converted}

-- what a program has between two instructions: r0 to r10, memory, and the slot of the next instruction
pub record Machine : Type 0 where
  pub regs : List ℕ
  pub memory : Memory
  pub slot : ℕ

-- what one instruction does: the next state, an end with r0, a memory fault, or a call of a helper with its arguments
pub data Did : Type 0 where
  goes : Machine → Did
  ends : ℕ → Did
  faults : Did
  calls : ℕ → List ℕ → Did

-- the value of a register
abbrev pub reg : List ℕ → ℕ → ℕ
reg regs r = slice_index regs r

-- the second operand: a register, or the immediate
abbrev pub operand : List ℕ → Insn → ℕ
operand regs i = if by_register i.opcode then reg regs i.src else i.imm

-- the result of arithmetic: class ALU64 works on 64 bits, class ALU on the low 32 (section 4.1)
unfoldable pub computed : Insn → ℕ → ℕ → ℕ
computed i x y =
    let b = if class i.opcode == ALU64 then 64 else 32 in
    if operation i.opcode == END then converted i.opcode (low 32 i.imm) x
    else result_of b (operation i.opcode) (word i.offset) (low b x) (low b y)

-- whether a conditional jump is taken: class JMP compares 64 bits, class JMP32 the low 32 (section 4.3)
unfoldable pub is_taken : Insn → ℕ → ℕ → Bool
is_taken i x y =
    let b = if class i.opcode == JMP then 64 else 32 in
    comparison_holds b (operation i.opcode) (low b x) (low b y)

-- the slot at a distance from the slot after a jump, modulo 2^64
abbrev pub jump_target : ℕ → ℕ → ℕ
jump_target slot distance = (slot + 1 + distance) % 2 ^ 64

-- the arguments of a call are r1 to r5
abbrev pub arguments : List ℕ → List ℕ
arguments regs = reg regs 1 ∷ reg regs 2 ∷ reg regs 3 ∷ reg regs 4 ∷ reg regs 5 ∷ []

-- the address of a load or a store: a register and the offset, modulo 2^64 (section 5.1)
abbrev pub access_address : List ℕ → ℕ → Insn → ℕ
access_address regs r i = (reg regs r + word i.offset) % 2 ^ 64

-- the number of octets of a load or a store (section 5)
abbrev pub access_size : ℕ → ℕ
access_size opcode =
    let s = opcode / 8 % 4 in
    if s == W then 4 else if s == H then 2 else if s == B then 1 else 8

-- the result of a load: the number, which mode MEMSX extends by its sign (section 5.2)
unfoldable pub load_result : ℕ → ℕ → ℕ
load_result opcode n =
    let size = access_size opcode in
    if opcode / 32 == MEMSX
    then (if size == 1 then extended 8 64 n else if size == 2 then extended 16 64 n else extended 32 64 n)
    else n

-- a register gets a number, and the program goes on at slot `next`
abbrev pub set_step : Machine → ℕ → ℕ → ℕ → Did
set_step m r n next = goes (record m { regs = slice_set m.regs r n; slot = next })

-- the slot after a conditional jump: its target if it is taken, else the next slot
abbrev pub slot_after_condition : Machine → Insn → ℕ
slot_after_condition m i =
    if is_taken i (reg m.regs i.dst) (operand m.regs i) then jump_target m.slot (word i.offset) else m.slot + 1

-- a jump, a call or an end, by its operation (section 4.3)
unfoldable pub jump_step : Machine → Insn → Did
jump_step m i =
    let k = operation i.opcode in
    if k == JA
    then goes (record m { slot = jump_target m.slot (if class i.opcode == JMP then word i.offset else i.imm) })
    else if k == CALL then calls (low 32 i.imm) (arguments m.regs)
    else if k == EXIT then ends (reg m.regs 0)
    else goes (record m { slot = slot_after_condition m i })

-- a load of the number at an address, if the address is in memory
abbrev pub load_step : Machine → Insn → Option ℕ → Did
load_step m i None = faults
load_step m i (Some n) = set_step m i.dst (load_result i.opcode n) (m.slot + 1)

-- a store that leaves some memory, if the address may be written
abbrev pub store_step : Machine → Option Memory → Did
store_step m None = faults
store_step m (Some memory) = goes (record m { memory = memory; slot = m.slot + 1 })

-- an instruction, by its class (section 3.3)
abbrev pub insn_step : Insn → Machine → Did
insn_step i m =
    let c = class i.opcode in
    let size = access_size i.opcode in
    if c == ALU || c == ALU64 then set_step m i.dst (computed i (reg m.regs i.dst) (operand m.regs i)) (m.slot + 1)
    else if c == JMP || c == JMP32 then jump_step m i
    else if c == LD then set_step m i.dst i.imm (m.slot + 2)
    else if c == LDX then load_step m i (load m.memory (access_address m.regs i.src i) size)
    else if c == ST then store_step m (store m.memory (access_address m.regs i.dst i) size i.imm)
    else store_step m (store m.memory (access_address m.regs i.dst i) size (reg m.regs i.src))

-- the instruction at the machine's slot
unfoldable pub take_step : List ℕ → Machine → Did
take_step code m = insn_step (insn_at code m.slot) m

-- at entry r1 is the window's address, r2 its length, r10 the stack's end; the others are 0
abbrev pub entry : Memory → Machine
entry memory =
    let regs = 0 ∷ WINDOW_BASE ∷ length memory.window ∷ 0 ∷ 0 ∷ 0 ∷ 0 ∷ 0 ∷ 0 ∷ 0 ∷ STACK_END ∷ [] in
    record { regs = regs; memory = memory; slot = 0 }

-- after a call r0 is the result, and r1 to r5 are 0
abbrev pub returned : Machine → Memory → ℕ → Machine
returned m memory n =
    let kept = reg m.regs 6 ∷ reg m.regs 7 ∷ reg m.regs 8 ∷ reg m.regs 9 ∷ reg m.regs 10 ∷ [] in
    record { regs = n ∷ 0 ∷ 0 ∷ 0 ∷ 0 ∷ 0 ∷ kept; memory = memory; slot = m.slot + 1 }

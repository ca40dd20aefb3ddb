-- Ranges as offsets in the octets of a room: the stack, then the heap (for private calls, and for `Lending`).
use Rattle.std.specs.Prelude.{ℕ, ◌+◌, ◌-◌, List, ◌++◌, length, take, drop, Option, Some, None, unwrap_or, ◌==◌}
use Rattle.std.specs.Prelude.{if◌then◌else◌}
use Rattle.bpf_mem.specs.declared.regions.TheConstants.{STACK_BASE, HEAP_BASE, STACK_SIZE, HEAP_SIZE}
use Rattle.bpf_mem.specs.Memory.{Memory, is_within, with_octets}

-- the offset of a range in a region, if the range is in it
abbrev pub offset_in : ℕ → ℕ → ℕ → ℕ → Option ℕ
offset_in base size addr n = if is_within base size addr n then Some (addr - base) else None

-- the offset of a range that may be written
abbrev pub writable_offset : ℕ → ℕ → Option ℕ
writable_offset addr n =
    if n == 0 then Some 0
    else if is_within STACK_BASE STACK_SIZE addr n then Some (addr - STACK_BASE)
    else if is_within HEAP_BASE HEAP_SIZE addr n then Some (STACK_SIZE + (addr - HEAP_BASE))
    else None

-- the memory that the octets of a room and a window are
abbrev pub memory_of : List ℕ → List ℕ → Memory
memory_of octets window = record { stack = take STACK_SIZE octets; heap = drop STACK_SIZE octets; window = window }

-- octets with others written over them from offset `at` on, cut or filled up to the same length
abbrev pub overwritten : List ℕ → ℕ → List ℕ → List ℕ
overwritten octets at bytes =
    let all = take at octets ++ (bytes ++ drop (length bytes) (drop at octets)) in
    take (length octets) (all ++ drop (length all) octets)

-- memory after a range was lent and left with other octets; a slice keeps its length, so only the first case occurs
abbrev pub lent : Memory → ℕ → ℕ → List ℕ → Memory
lent m addr n bytes =
    if length bytes == n then unwrap_or (with_octets m addr bytes) m
    else memory_of (overwritten (m.stack ++ m.heap) (unwrap_or (writable_offset addr n) 0) bytes) m.window

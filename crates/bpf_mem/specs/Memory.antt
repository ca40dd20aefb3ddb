-- The memory of a program: a stack, a heap and a window that is only read.
-- RFC 9669 leaves memory to the platform: regions, addresses and sizes are this project's own.
use Rattle.std.specs.Prelude.{◌≡◌, ℕ, ◌+◌, ◌-◌, ◌*◌, ◌≤◌, ◌⊎◌, Bool, List, [], ◌∷◌, ◌++◌, length, take, drop, replicate}
use Rattle.std.specs.Prelude.{Option, Some, None, option_map, nat_le, ◌==◌, ◌&&◌, if◌then◌else◌}
use Rattle.std.specs.Int.{bytes_low_first}
use Rattle.xb_words.specs.Octets.{AreOctets}
use Rattle.bpf_mem.specs.declared.regions.TheConstants.{STACK_BASE, HEAP_BASE, WINDOW_BASE, STACK_SIZE, HEAP_SIZE}
use Rattle.bpf_mem.specs.declared.regions.TheConstants.{MAX_WINDOW}

-- what a program may read, as three lists of octets; it may write the first two
pub record Memory : Type 0 where
  pub stack : List ℕ
  pub heap : List ℕ
  pub window : List ℕ

-- memory with a stack and a heap of zeros
abbrev pub fresh : List ℕ → Memory
fresh window = record { stack = replicate STACK_SIZE 0; heap = replicate HEAP_SIZE 0; window = window }

-- what is true of every memory: each region has its size, and holds octets
pub record IsMemory (m : Memory) : Type 0 where
  pub stack : length m.stack ≡ STACK_SIZE
  pub heap : length m.heap ≡ HEAP_SIZE
  pub window : length m.window ≤ MAX_WINDOW
  pub stack_octets : AreOctets m.stack
  pub heap_octets : AreOctets m.heap
  pub window_octets : AreOctets m.window

-- the n octets from an address on are all in the region at `base` of `size` octets
abbrev pub is_within : ℕ → ℕ → ℕ → ℕ → Bool
is_within base size addr n = nat_le base addr && nat_le (addr + n) (base + size)

-- the n octets of a region from offset `at` on
abbrev pub region_part : List ℕ → ℕ → ℕ → List ℕ
region_part region at n = take n (drop at region)

-- the octets of a range, if they are all in one region; a range of no octets is there at every address
abbrev pub octets_at : Memory → ℕ → ℕ → Option (List ℕ)
octets_at m addr n =
    if n == 0 then Some []
    else if is_within STACK_BASE STACK_SIZE addr n then Some (region_part m.stack (addr - STACK_BASE) n)
    else if is_within HEAP_BASE HEAP_SIZE addr n then Some (region_part m.heap (addr - HEAP_BASE) n)
    else if is_within WINDOW_BASE (length m.window) addr n then Some (region_part m.window (addr - WINDOW_BASE) n)
    else None

-- a region with the octets from offset `at` on replaced
abbrev pub replaced : List ℕ → ℕ → List ℕ → List ℕ
replaced region at bytes = take at region ++ bytes ++ drop (at + length bytes) region

-- memory with octets written from an address on, if their range is in the stack or in the heap
abbrev pub with_octets : Memory → ℕ → List ℕ → Option Memory
with_octets m addr bytes =
    if length bytes == 0 then Some m
    else if is_within STACK_BASE STACK_SIZE addr (length bytes)
    then Some (record m { stack = replaced m.stack (addr - STACK_BASE) bytes })
    else if is_within HEAP_BASE HEAP_SIZE addr (length bytes)
    then Some (record m { heap = replaced m.heap (addr - HEAP_BASE) bytes })
    else None

-- the octets of a range, if it may be written
abbrev pub writable_at : Memory → ℕ → ℕ → Option (List ℕ)
writable_at m addr n =
    if n == 0 then Some []
    else if is_within STACK_BASE STACK_SIZE addr n then Some (region_part m.stack (addr - STACK_BASE) n)
    else if is_within HEAP_BASE HEAP_SIZE addr n then Some (region_part m.heap (addr - HEAP_BASE) n)
    else None

-- the number in some octets, little-endian (RFC 9669, section 3)
abbrev pub number_of : List ℕ → ℕ
number_of [] = 0
number_of (b ∷ bytes) = b + 256 * number_of bytes

-- a load or a store has one, two, four or eight octets (RFC 9669, section 5)
abbrev pub IsAccessSize : ℕ → Type 0
IsAccessSize size = ((size ≡ 1) ⊎ (size ≡ 2)) ⊎ ((size ≡ 4) ⊎ (size ≡ 8))

-- the number in a range
abbrev pub load : Memory → ℕ → ℕ → Option ℕ
load m addr size = option_map number_of (octets_at m addr size)

-- memory with the low octets of a number written
abbrev pub store : Memory → ℕ → ℕ → ℕ → Option Memory
store m addr size value = with_octets m addr (bytes_low_first 0 size value)

-- What a room and memory end as after a part of them was lent for writing.
use Rattle.std.specs.Prelude.{ℕ, List, [], Option}
use Rattle.std.specs.Borrow.{Lends, LendsIf, MutBor, Fml, Array, u8}
use mir.Syntax.{named}
use Rattle.bpf_mem.specs.Memory.{Memory}
use Rattle.bpf_mem.specs.Offsets.{overwritten, lent}
use Rattle.bpf_mem.specs.contracts.room.Room.{the_row as room_row}
use Rattle.bpf_mem.specs.contracts.memory.Memory.{the_row as memory_row}

-- the room ends with the octets that were left in the part
abbrev pub LendsPart : MutBor (List ℕ) → ℕ → MutBor (List ℕ) → Fml
LendsPart room at part = Lends room_row (Array u8 0) room part (overwritten room.now at)

-- memory ends with the octets that were left in the range
abbrev pub LendsRange : MutBor Memory → ℕ → ℕ → MutBor (List ℕ) → Fml
LendsRange memory addr len range =
    Lends (memory_row (record { mir = named 1; lft = [] })) (Array u8 0) memory range (lent memory.now addr len)

-- the same for a range that may be absent; memory is then unchanged
abbrev pub LendsRangeIf : MutBor Memory → ℕ → ℕ → Option (MutBor (List ℕ)) → Fml
LendsRangeIf memory addr len range =
    let row = memory_row (record { mir = named 1; lft = [] }) in
    LendsIf row (Array u8 0) memory range (lent memory.now addr len) memory.now

use Rattle.bpf_mem.proofs.OffsetLemmas.{IsMemory-memory_of}
use Rattle.bpf_mem.proofs.memory.Memory.window_len.Goals as goal

pub returns-clause-shape : goal.returns-clause-shape
returns-clause-shape c =
    rw (← c.self.view_is) (IsMemory-memory_of _ _ c.self.invariant.0 c.self.invariant.1 (rw c.octets.ensures at c.count-all.ensures.range) c.count.ensures.range)

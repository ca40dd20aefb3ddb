use Rattle.bpf_mem.proofs.OffsetLemmas.{memory_of-replicate}
use Rattle.bpf_mem.proofs.memory.Memory.over.Goals as goal

pub returns : goal.returns
returns c = rw c.clear.ensures (memory_of-replicate _)

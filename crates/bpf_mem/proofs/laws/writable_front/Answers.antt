use Rattle.bpf_mem.proofs.OffsetLemmas.{writable_at-front}
use Rattle.bpf_mem.proofs.laws.writable_front.Goals as goal

pub returns : goal.returns
returns c = λ m addr n k octets few there. writable_at-front m addr n k octets few there

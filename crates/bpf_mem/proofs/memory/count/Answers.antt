use Rattle.std.proofs.Common.{arith}
use Rattle.bpf_mem.proofs.OffsetLemmas.{AreOctets-from_range}
use Rattle.bpf_mem.proofs.memory.count.Goals as goal

pub returns-clause-range : goal.returns-clause-range
returns-clause-range c = AreOctets-from_range c.args.octets.now (λ k. omega (arith, c.type_inv.octets k))

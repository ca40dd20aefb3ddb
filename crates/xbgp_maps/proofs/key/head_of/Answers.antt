use Rattle.std.proofs.Common.{arith}
use Rattle.xbgp_maps.proofs.KeysLemmas.{AreOctets-from_range}
use Rattle.xbgp_maps.proofs.key.head_of.Goals as goal

pub returns-clause-range : goal.returns-clause-range
returns-clause-range c = AreOctets-from_range c.args.key.now (λ k. omega (arith, c.type_inv.key k))

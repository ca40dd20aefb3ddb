use Rattle.std.proofs.Common.{ap}
use Rattle.attr_intern.proofs.KeptLemmas.{AreIndexed-empty}
use Rattle.attr_intern.proofs.pool.Pool.make.Goals as goal

pub invariant_of-result : goal.invariant_of-result
invariant_of-result c = (
  AreIndexed-empty c.new.result c.new-2.result c.new.ensures.empty c.new-2.ensures,
  ap (λ b. b.capacity) c.in_ok-make.ensures,
)

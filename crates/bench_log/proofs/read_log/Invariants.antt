use Rattle.std.proofs.Common.{◌≡◌, ◌-◌}
use Rattle.replay_log.specs.declared.limits.TheConstants.{LOG_LIMIT, OCTETS_LIMIT}
use Rattle.bench_log.proofs.read_log.Given as goal

-- the buffer keeps its capacity
abbrev pub invariant-lines : goal.invariant-lines
invariant-lines g l = l.octets.capacity ≡ OCTETS_LIMIT

-- the octets before the limit
abbrev pub decreases-lines : goal.decreases-lines
decreases-lines g l = LOG_LIMIT - l.reader.at

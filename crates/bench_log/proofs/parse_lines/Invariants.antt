use Rattle.std.proofs.Common.{◌≡◌}
use Rattle.replay_log.specs.declared.limits.TheConstants.{OCTETS_LIMIT}
use Rattle.bench_log.proofs.parse_lines.Given as goal

-- the buffer keeps its capacity
abbrev pub invariant-times : goal.invariant-times
invariant-times l = l.octets.capacity ≡ OCTETS_LIMIT

use Rattle.std.proofs.Common.{◌≡◌, length}
use Rattle.bench_log.proofs.add_lines.Given as goal

-- the buffer keeps its capacity
abbrev pub invariant-lines : goal.invariant-lines
invariant-lines l = l.octets.capacity ≡ l.fn.octets.capacity

abbrev pub decreases-lines : goal.decreases-lines
decreases-lines l = length l.rest

use Rattle.std.proofs.Common.{IsSome}
use Rattle.bench_maps.proofs.put_run.Given as goal

abbrev pub invariant-writes : goal.invariant-writes
invariant-writes l = IsSome l.bench.maps.began

use Rattle.std.proofs.Common.{◌≡◌, None}
use Rattle.bench_helpers.proofs.run_all.Given as goal

abbrev pub invariant-runs : goal.invariant-runs
invariant-runs l = l.bench.maps.began ≡ None

use Rattle.std.proofs.Common.{◌≡◌, None}
use Rattle.bench_maps.proofs.fill.Given as goal

abbrev pub invariant-numbers : goal.invariant-numbers
invariant-numbers l = l.bench.maps.began ≡ None

use Rattle.std.proofs.Common.{◌≡◌, drop}
use Rattle.xbgp_top.specs.Summaries.{counted_all}
use Rattle.xbgp_top.proofs.work.count_outputs.Given as goal

-- the octets so far and those of the outputs that are left
abbrev pub invariant-outputs : goal.invariant-outputs
invariant-outputs l = counted_all l.counts (drop l.i l.outputs) ≡ counted_all l.fn.counts l.outputs

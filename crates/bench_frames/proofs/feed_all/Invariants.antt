use Rattle.std.proofs.Common.{◌<◌, length}
use Rattle.bgp_frame.specs.declared.frames.TheConstants.{MAX_WAITING}
use Rattle.bench_frames.proofs.feed_all.Given as goal

-- there is room for an octet
abbrev pub invariant-pieces : goal.invariant-pieces
invariant-pieces l = length l.frames.waits < MAX_WAITING

abbrev pub decreases-pieces : goal.decreases-pieces
decreases-pieces l = length l.rest

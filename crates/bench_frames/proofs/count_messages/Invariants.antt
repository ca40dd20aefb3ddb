use Rattle.std.proofs.Common.{◌<◌, length}
use Rattle.bgp_frame.specs.declared.frames.TheConstants.{MAX_WAITING}
use Rattle.bench_frames.proofs.count_messages.Given as goal

-- there is room for an octet
abbrev pub invariant-times : goal.invariant-times
invariant-times l = length l.frames.waits < MAX_WAITING

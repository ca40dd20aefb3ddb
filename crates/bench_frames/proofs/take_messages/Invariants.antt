use Rattle.std.proofs.Common.{length}
use Rattle.bench_frames.proofs.take_messages.Given as goal

abbrev pub decreases-messages : goal.decreases-messages
decreases-messages l = length l.frames.waits

use Rattle.std.proofs.Common.{◌≡◌, drop}
use Rattle.spk_native.specs.Decision.{is_beaten, left_of}
use Rattle.spk_native.proofs.decision.is_beaten.Given as goal

abbrev pub invariant-loop-i : goal.invariant-loop-i
invariant-loop-i l =
    is_beaten l.key (left_of (drop l.i l.ranks) (drop l.i l.left)) l.rank
    ≡ is_beaten l.key (left_of l.ranks l.left) l.rank

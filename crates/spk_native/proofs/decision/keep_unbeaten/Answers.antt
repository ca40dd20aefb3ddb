use Rattle.std.proofs.Common.{not, arith}
use Rattle.spk_native.specs.Decision.{is_beaten, left_of}
use Rattle.spk_native.proofs.LeftLemmas.{left_of-filter}
use Rattle.spk_native.proofs.decision.keep_unbeaten.Goals as goal

pub returns : goal.returns
returns c =
    let ranks = c.args.ranks.now in
    let before = c.args.left.now in
    left_of-filter (λ r. not (is_beaten c.args.key (left_of ranks before) r)) ranks before c.loop-i.left
    (omega arith) (omega arith) (λ k d l. c.loop-i.invariant.done k d (omega arith))

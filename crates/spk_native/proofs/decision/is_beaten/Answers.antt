use Rattle.std.proofs.Common.{◌≡◌, refl, suc, sym, ap, ◌∙◌, false, get_or, drop, ◌&&◌, ◌||◌, add-one, arith}
use Rattle.std.specs.List.{list_any}
use Rattle.spk_native.specs.declared.decision.Rank.{Rank}
use Rattle.spk_native.specs.Decision.{is_better, left_of}
use Rattle.spk_native.proofs.LeftLemmas.{no_rank, list_any-left_of}
use Rattle.spk_native.proofs.decision.is_beaten.Goals as goal
use Rattle.spk_native.proofs.decision.is_beaten.Goals.{else-left-i-via-then-left-i+else-beats}
use Rattle.spk_native.proofs.decision.is_beaten.Goals.{else-left-i-via-else-left-i}

pub loop-i-preserved : goal.loop-i-preserved
loop-i-preserved c =
    let ranks = c.args.ranks.now in
    let left = c.args.left.now in
    let test = λ (other : Rank). is_better c.args.key other c.args.rank.now in
    let i = c.loop-i.i in
    let here : (get_or left i false && test (get_or ranks i no_rank)) ≡ false =
    elim c.else-left-i.branch [
      | else-left-i-via-then-left-i+else-beats w ↦
          rw w.if-left-i.true (sym w.beats.ensures ∙ w.if-beats.false)
      | else-left-i-via-else-left-i w ↦ rw w.if-left-i.false refl
    ] in
    ap (λ n. list_any test (left_of (drop n ranks) (drop n left))) (add-one i)
    ∙ sym (list_any-left_of test ranks left i no_rank (omega arith) (omega (arith, c.requires))
    ∙ ap (λ b. b || list_any test (left_of (drop (suc i) ranks) (drop (suc i) left))) here)
    ∙ c.loop-i.invariant

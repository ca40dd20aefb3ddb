use Rattle.std.proofs.Common.{◌∷◌, map, arith}
use Rattle.xb_values.specs.Texts.{line}
use Rattle.table_print.specs.Pushes.{word_view}
use Rattle.table_print.proofs.LineLemmas.{line_begun, line_ended, word_stopped, word_taken}
use Rattle.table_print.proofs.line.push_words.Goals as goal

pub loop-word-init : goal.loop-word-init
loop-word-init c =
    line_begun c.args.out.now c.push.new.self c.args.first.now (map word_view c.args.others.now) c.if-not-push.ensures

pub returns-then-not-push_next : goal.returns-then-not-push_next
returns-then-not-push_next c =
    word_stopped c.args.others.now c.loop-word.word-index c.word-item.result
    c.args.out.now c.loop-word.out c.push_next.new.out
    (line (c.args.first.now ∷ map word_view c.args.others.now)) (omega arith) c.word-item.is
    c.loop-word.invariant c.if-not-push_next.ensures

pub loop-word-preserved : goal.loop-word-preserved
loop-word-preserved c =
    word_taken c.args.others.now c.loop-word.word-index c.word-item.result
    c.args.out.now c.loop-word.out c.push_next.new.out
    (line (c.args.first.now ∷ map word_view c.args.others.now)) (omega arith) c.word-item.is
    c.loop-word.invariant c.if-not-push_next.ensures

pub returns : goal.returns
returns c =
    line_ended c.push-2.result c.args.others.now c.loop-word.word-index c.args.out.now c.loop-word.out c.push-2.new.self
    (line (c.args.first.now ∷ map word_view c.args.others.now)) (omega arith) c.loop-word.invariant c.push-2.ensures

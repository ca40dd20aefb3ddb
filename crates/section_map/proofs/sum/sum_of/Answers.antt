use Rattle.std.proofs.Common.{◌≡◌, ◌+◌, ◌-◌, [], length, drop, refl, sym, ap, ◌∙◌}
use Rattle.std.proofs.lemmas.List.{at_drop_all, at_drop_more}
use Rattle.section_map.specs.Sums.{mixed, number_of, sum_of, words_sum}
use Rattle.section_map.specs.declared.sum.TheConstants.{WORD}
use Rattle.section_map.proofs.sum.sum_of.Goals as goal

pub words-init : goal.words-init
words-init c = refl

pub words-preserved : goal.words-preserved
words-preserved c =
    let words = c.as_chunks.result.0.now in
    ap (λ sum. words_sum sum (drop (c.words.word-index + 1) words))
    (c.mix-sum.ensures ∙ ap (mixed c.words.sum) c.from_be_bytes.ensures)
    ∙ sym (at_drop_more (words_sum c.words.sum) words c.words.word-index [] c.words-test.true)
    ∙ c.words.invariant

pub returns : goal.returns
unfolding sum_of
returns c =
    let s = c.args.section.now in
    let words = c.as_chunks.result.0.now in
    let sum : c.words.sum ≡ words_sum (length s) words =
    sym (at_drop_all (words_sum c.words.sum) words c.words.word-index c.words-test.false) ∙ c.words.invariant in
    c.mix.ensures
    ∙ ap (mixed c.words.sum) c.last_number.ensures
    ∙ ap (λ sum. mixed sum (number_of (drop (length s - WORD) s))) sum
    ∙ ap (λ words. mixed (words_sum (length s) words) (number_of (drop (length s - WORD) s))) c.as_chunks.ensures.front

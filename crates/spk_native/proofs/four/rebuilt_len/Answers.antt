use Rattle.std.proofs.Common.{arith}
use Rattle.spk_native.proofs.RebuildsLemmas.{length-bare, length-rebuilt}
use Rattle.spk_native.proofs.four.rebuilt_len.Goals as goal

pub overflow_sub-result : goal.overflow_sub-result
overflow_sub-result c =
    let bare = length-bare c.args.route.now.route c.requires.shape.rising in
    omega (arith, bare, c.section_len.ensures.value, c.requires.had)

pub returns-clause-value : goal.returns-clause-value
returns-clause-value c =
    let r = c.args.route.now.route in
    let bare = length-bare r c.requires.shape.rising in
    let all = length-rebuilt c.args.four.now r c.requires.shape.rising in
    omega (arith, bare, all, c.section_len.ensures.value, c.requires.had, c.four_len.ensures.value)

pub returns-clause-sum : goal.returns-clause-sum
returns-clause-sum c =
    let bare = length-bare c.args.route.now.route c.requires.shape.rising in
    omega (arith, bare, c.section_len.ensures.value, c.requires.had, c.four_len.ensures.value)

use Rattle.std.proofs.Common.{sym, ◌∙◌, arith}
use Rattle.spk_native.proofs.RebuildsLemmas.{IsShort-some}
use Rattle.spk_native.proofs.four.entry_len.Goals as goal

pub spelled_len-requires : goal.spelled_len-requires
spelled_len-requires c =
    (IsShort-some c.args.route.now.route c.args.code c.in-Some.field-0-0 c.in-Some.len c.in-Some.ensures.shape
    c.in-Some.ensures.value).value

pub returns-in-Some-clause-value : goal.returns-in-Some-clause-value
returns-in-Some-clause-value c =
    c.spelled_len.ensures
    ∙ sym (IsShort-some c.args.route.now.route c.args.code c.in-Some.field-0-0 c.in-Some.len c.in-Some.ensures.shape
    c.in-Some.ensures.value).size

pub returns-in-Some-clause-bound : goal.returns-in-Some-clause-bound
returns-in-Some-clause-bound c =
    let short = IsShort-some c.args.route.now.route c.args.code c.in-Some.field-0-0 c.in-Some.len
    c.in-Some.ensures.shape
    c.in-Some.ensures.value in
    omega (arith, short.size, short.whole, c.spelled_len.ensures)

use Rattle.std.proofs.Common.{sym, ◌∙◌}
use Rattle.xb_values.proofs.ReaderLemmas.{value_after-end, value_after-stop}
use Rattle.xb_values.proofs.reader.value_of.Goals as goal

pub returns-in_err-value : goal.returns-in_err-value
returns-in_err-value c = c.from_residual.ensures ∙ value_after-stop _ _ _ c.loop-c-test.true c.loop-c.invariant
    (sym c.in_err-value.was ∙ c.with_digit.ensures)

pub returns : goal.returns
returns c = value_after-end _ _ _ c.loop-c-test.false c.loop-c.invariant

use Rattle.std.proofs.Common.{sym, ◌∙◌}
use Rattle.xb_values.proofs.ReaderLemmas.{split_on-whole, split_on-first}
use Rattle.xb_values.proofs.reader.split_once.Goals as goal

pub returns-in_err-at-clause-whole : goal.returns-in_err-at-clause-whole
returns-in_err-at-clause-whole c = rw c.from_residual.ensures
    (split_on-whole _ _ (sym c.in_err-at.was ∙ c.index_of.ensures))

pub returns-clause-split : goal.returns-clause-split
returns-clause-split c = split_on-first _ _ _ (sym c.in_ok-at.was ∙ c.index_of.ensures)

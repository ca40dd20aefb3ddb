use Rattle.std.proofs.Common.{sym, ◌∙◌, ap, arith}
use Rattle.std.specs.Prelude.{Err}
use Rattle.toml.specs.View.{view}
use Rattle.xb_fields.proofs.ValueLemmas.{list_of-ok, list_of-bad}
use Rattle.xb_fields.proofs.value.list_of.Goals as goal

pub returns-then-len-most-clause-values : goal.returns-then-len-most-clause-values
returns-then-len-most-clause-values c =
    rw c.as_slice.ensures.value (sym (list_of-ok c.args.at c.args.most (view c.args.value.now) c.in-Some.values.now.items (sym c.in-Some.ensures) (omega arith)))

pub returns-else-len-most-clause-values : goal.returns-else-len-most-clause-values
returns-else-len-most-clause-values c =
    ap Err c.fault-else-len-most.ensures ∙ sym (list_of-bad c.args.at c.args.most (view c.args.value.now) c.in-Some.values.now.items (sym c.in-Some.ensures) (omega arith))

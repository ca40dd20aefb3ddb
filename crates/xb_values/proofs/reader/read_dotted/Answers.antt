use Rattle.std.proofs.Common.{sym, ap, ◌∙◌, Some, None}
use Rattle.xb_values.proofs.ReaderLemmas.{read_dotted-by}
use Rattle.xb_values.proofs.reader.read_dotted.Goals as goal

pub returns-in_err-read_up_to-4 : goal.returns-in_err-read_up_to-4
returns-in_err-read_up_to-4 c =
    c.from_residual-in_err-read_up_to-4.ensures
    ∙ read_dotted-by c.args.text.now c.in_ok-first.first.now c.in_ok-second.second.now c.in_ok-third.third.now
    c.in_ok-third.fourth.now c.in_ok-first.others.now
    c.in_ok-second.others.now (Some c.in_ok-read_up_to.field-0) (Some c.in_ok-read_up_to-2.field-0)
    (Some c.in_ok-read_up_to-3.field-0) None
    c.in_ok-first.ensures.split c.in_ok-second.ensures.split c.in_ok-third.ensures.split
    (sym c.in_ok-read_up_to.was ∙ c.read_up_to.ensures) (sym c.in_ok-read_up_to-2.was ∙ c.read_up_to-2.ensures)
    (sym c.in_ok-read_up_to-3.was ∙ c.read_up_to-3.ensures) (sym c.in_err-read_up_to-4.was ∙ c.read_up_to-4.ensures)

pub returns : goal.returns
returns c =
    ap Some c.from_be_bytes.ensures
    ∙ read_dotted-by c.args.text.now c.in_ok-first.first.now c.in_ok-second.second.now c.in_ok-third.third.now
    c.in_ok-third.fourth.now c.in_ok-first.others.now
    c.in_ok-second.others.now (Some c.in_ok-read_up_to.field-0) (Some c.in_ok-read_up_to-2.field-0)
    (Some c.in_ok-read_up_to-3.field-0) (Some c.in_ok-read_up_to-4.field-0)
    c.in_ok-first.ensures.split c.in_ok-second.ensures.split c.in_ok-third.ensures.split
    (sym c.in_ok-read_up_to.was ∙ c.read_up_to.ensures) (sym c.in_ok-read_up_to-2.was ∙ c.read_up_to-2.ensures)
    (sym c.in_ok-read_up_to-3.was ∙ c.read_up_to-3.ensures) (sym c.in_ok-read_up_to-4.was ∙ c.read_up_to-4.ensures)

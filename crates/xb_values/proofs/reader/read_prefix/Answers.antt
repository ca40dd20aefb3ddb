use Rattle.std.proofs.Common.{sym, ◌∙◌, Some, None}
use Rattle.xb_values.proofs.ReaderLemmas.{read_prefix-by, read_prefix-made}
use Rattle.xb_values.proofs.reader.read_prefix.Goals as goal

pub returns-in_err-read_up_to : goal.returns-in_err-read_up_to
returns-in_err-read_up_to c =
    c.from_residual-in_err-read_up_to.ensures
    ∙ read_prefix-by c.args.text.now c.in_ok-address.address.now c.in_ok-address.len.now
    (Some c.in_ok-read_dotted.field-0) None c.in_ok-address.ensures.split
    (sym c.in_ok-read_dotted.was ∙ c.read_dotted.ensures)
    (sym c.in_err-read_up_to.was ∙ c.read_up_to.ensures)

pub returns : goal.returns
returns c =
    read_prefix-made c.args.text.now c.in_ok-address.address.now c.in_ok-address.len.now c.in_ok-read_dotted.field-0
    c.in_ok-read_up_to.field-0 _ c.in_ok-address.ensures.split
    (sym c.in_ok-read_dotted.was ∙ c.read_dotted.ensures) (sym c.in_ok-read_up_to.was ∙ c.read_up_to.ensures)
    c.new.ensures.valid c.new.ensures.value

use Rattle.std.proofs.Common.{◌+◌, ◌*◌, ◌≤◌, length, subst, sym, ℕ}
use Rattle.xb_domain.specs.Views.{output_view}
use Rattle.table_print.specs.Lines.{output_line}
use Rattle.spk_model.proofs.TextLemmas.{output_length, written}
use Rattle.spk_model.proofs.page.write_output.Goals as goal

pub returns : goal.returns
returns c =
    let o = output_view c.args.item in
    written _ _ _ _ (96 + 2 * c.sent_octets.result) c.in_ok-begin_words.ensures.empty c.in_ok-begin_words.ensures.room
    (subst (λ (n : ℕ). length (output_line o) ≤ 96 + 2 * n) (sym c.sent_octets.ensures.octets)
    (output_length o c.sent_octets.ensures.number)) c.output_line.ensures

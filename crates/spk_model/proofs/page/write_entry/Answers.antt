use Rattle.std.proofs.Common.{◌+◌, ◌*◌, ◌≤◌, length, subst, sym, ℕ}
use Rattle.table_print.specs.Lines.{map_line}
use Rattle.spk_model.proofs.TextLemmas.{entry_length, written}
use Rattle.spk_model.proofs.page.write_entry.Goals as goal

pub returns : goal.returns
returns c =
    written _ _ _ _ (96 + 2 * c.in_ok-octets.octets) c.in_ok-begin_words.ensures.empty c.in_ok-begin_words.ensures.room
    (subst (λ (n : ℕ). length (map_line c.args.name.now c.args.key.now c.args.value.now) ≤ 96 + 2 * n)
    (sym c.in_ok-octets.ensures)
    (entry_length c.args.name.now c.args.key.now c.args.value.now)) c.map_line.ensures

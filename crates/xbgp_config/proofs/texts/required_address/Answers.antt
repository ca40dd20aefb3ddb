use Rattle.std.proofs.Common.{sym}
use Rattle.toml.specs.View.{table_view}
use Rattle.xb_values.specs.Readers.{read_dotted}
use Rattle.xb_fields.proofs.TextLemmas.{text_present}
use Rattle.xbgp_config.proofs.texts.required_address.Goals as goal

pub returns : goal.returns
returns c =
    rw (text_present c.args.at c.args.key.now read_dotted (table_view c.args.table.now) c.in_ok-text.text.now (sym c.in_ok-text.ensures))
    (rw (c.ok_or.ensures.value, c.read_dotted.ensures, c.fault.ensures, c.as_bytes.ensures.value))

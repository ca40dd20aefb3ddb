use Rattle.std.proofs.Common.{sym}
use Rattle.toml.specs.View.{table_view}
use Rattle.xbgp_config.specs.Configs.{id_text}
use Rattle.xb_fields.proofs.TextLemmas.{text_present}
use Rattle.xbgp_config.proofs.texts.required_id.Goals as goal

pub returns : goal.returns
returns c =
    rw (text_present c.args.at c.args.key.now id_text (table_view c.args.table.now) c.in_ok-text.text.now (sym c.in_ok-text.ensures))
    (rw (c.ok_or.ensures.value, c.id_text.ensures, c.fault.ensures, c.as_bytes.ensures.value))

use Rattle.std.proofs.Common.{sym}
use Rattle.toml.specs.View.{table_view}
use Rattle.xbgp_config.specs.Configs.{host_text}
use Rattle.xb_fields.proofs.TextLemmas.{text_present}
use Rattle.xbgp_config.proofs.texts.required_host.Goals as goal

pub returns : goal.returns
returns c =
    rw (text_present c.args.at c.args.key.now host_text (table_view c.args.table.now) c.in_ok-text.text.now (sym c.in_ok-text.ensures))
    (rw (c.ok_or.ensures.value, c.host_text.ensures, c.fault.ensures, c.as_bytes.ensures.value))

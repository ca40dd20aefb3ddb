use Rattle.std.proofs.Common.{sym, codes}
use Rattle.toml.specs.View.{table_view}
use Rattle.xbgp_manifest.specs.Manifests.{point_text}
use Rattle.xb_fields.proofs.TextLemmas.{text_present}
use Rattle.xbgp_manifest.proofs.point.required_point.Goals as goal

pub returns : goal.returns
returns c =
    rw (text_present c.args.at (codes "point") point_text (table_view c.args.table.now) c.in_ok-text.text.now (sym c.in_ok-text.ensures))
    (rw (c.ok_or.ensures.value, c.point_in.ensures, c.fault.ensures))

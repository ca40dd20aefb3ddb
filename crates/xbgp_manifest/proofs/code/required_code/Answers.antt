use Rattle.std.proofs.Common.{sym, codes}
use Rattle.toml.specs.View.{table_view}
use Rattle.xb_fields.proofs.TextLemmas.{text_absent, text_present}
use Rattle.xbgp_manifest.specs.Manifests.{code_text}
use Rattle.xb_fields.proofs.OutcomeLemmas.{gives-view_fault}
use Rattle.xbgp_manifest.proofs.code.required_code.Goals as goal

pub returns-in_err-text : goal.returns-in_err-text
returns-in_err-text c =
    gives-view_fault (λ v. v.items) c.from_residual.result _ c.in_err-text.field-0.0 c.from_residual.ensures.1
    (text_absent c.args.at (codes "code") code_text (table_view c.args.table.now) c.in_err-text.field-0.0 (sym c.in_err-text.ensures))

pub returns : goal.returns
returns c = rw (text_present c.args.at (codes "code") code_text (table_view c.args.table.now) c.in_ok-text.text.now (sym c.in_ok-text.ensures)) c.read_code.ensures

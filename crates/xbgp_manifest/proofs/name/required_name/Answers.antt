use Rattle.std.proofs.Common.{sym, ap, ◌∙◌, codes, if◌then◌else◌}
use Rattle.std.specs.Prelude.{Err, Some, None}
use Rattle.toml.specs.View.{table_view}
use Rattle.xb_domain.specs.declared.bad.BadKind.TheVariants.{Range}
use Rattle.xb_fields.specs.Fields.{present}
use Rattle.xb_fields.proofs.TextLemmas.{text_present}
use Rattle.xbgp_manifest.specs.Manifests.{is_name, name_text}
use Rattle.xbgp_manifest.proofs.name.required_name.Goals as goal

pub returns-then-is_name : goal.returns-then-is_name
returns-then-is_name c =
    sym (text_present c.args.at (codes "name") name_text (table_view c.args.table.now) c.in_ok-text.text.now (sym c.in_ok-text.ensures)
    ∙ ap (λ b. present c.args.at Range (if b then Some c.in_ok-text.text.now else None)) (ap is_name (sym c.as_bytes.ensures.value) ∙ sym c.is_name.ensures ∙ c.if-is_name.true))

pub returns-else-is_name : goal.returns-else-is_name
returns-else-is_name c =
    ap Err c.fault.ensures
    ∙ sym (text_present c.args.at (codes "name") name_text (table_view c.args.table.now) c.in_ok-text.text.now (sym c.in_ok-text.ensures)
    ∙ ap (λ b. present c.args.at Range (if b then Some c.in_ok-text.text.now else None)) (ap is_name (sym c.as_bytes.ensures.value) ∙ sym c.is_name.ensures ∙ c.if-is_name.false))

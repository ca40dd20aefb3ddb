use Rattle.std.proofs.Common.{sym, ◌∙◌, ap}
use Rattle.std.specs.Prelude.{Err}
use Rattle.std.proofs.lemmas.Bool.{false≢true}
use Rattle.std.proofs.lemmas.Str.{IsUtf8-from_is_utf8, is_utf8-from_IsUtf8}
use Rattle.xb_fields.proofs.DocumentLemmas.{document-ok, document-bad}
use Rattle.xb_fields.proofs.document.read_document.Goals as goal

pub returns-in-Ok : goal.returns-in-Ok
returns-in-Ok c = document-ok c.args.text.now _ (is_utf8-from_IsUtf8 c.args.text.now c.in-Ok.ensures.ok.0) c.in-Ok.ensures.ok.1

pub returns-else-is_memory : goal.returns-else-is_memory
returns-else-is_memory c =
    document-bad c.args.text.now (λ valid. c.in-Err.ensures.refused (λ memory. false≢true (sym c.if-is_memory.false ∙ c.is_memory.ensures.1 memory)) (IsUtf8-from_is_utf8 c.args.text.now valid))
    ∙ ap Err (sym c.fault.ensures)

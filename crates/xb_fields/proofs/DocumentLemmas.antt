-- The table that a text is.
use Rattle.std.proofs.Common.{◌≡◌, ℕ, true, List, Some, None, Ok, Err, inl, inr}
use Rattle.std.proofs.lemmas.Bool.{cases_Bool}
use Rattle.std.specs.Str.{is_utf8}
use Rattle.xb_domain.specs.declared.bad.BadKind.TheVariants.{Text}
use Rattle.xb_domain.specs.declared.bad.Part.TheVariants.{Top}
use Rattle.toml.specs.Parse.{parse_document}
use Rattle.toml.specs.Data.{Members}
use Rattle.xb_fields.specs.Fields.{document, fault_at, location}

-- a text that is a table
pub document-ok : (s : List ℕ) (ms : Members) → is_utf8 s ≡ true → parse_document s ≡ Some ms → document s ≡ Ok ms
unfolding document
document-ok s ms valid read = rw (valid, read)

-- a text that is not UTF-8, or not TOML
pub document-bad : (s : List ℕ) → (is_utf8 s ≡ true → parse_document s ≡ None) → document s ≡ Err (fault_at (location Top 0) Text)
unfolding document
document-bad s refused =
    elim (cases_Bool (is_utf8 s)) [
      | inl valid ↦ rw (valid, refused valid)
      | inr other ↦ rw other
    ]

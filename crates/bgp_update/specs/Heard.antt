-- The table that a stream of messages announces (RFC 4271, sections 3.1 and 4.3): an UPDATE withdraws prefixes, and
-- then announces prefixes with a section of path attributes.
use Rattle.std.specs.Prelude.{ℕ, Bool, List, [], length, Option, Some, None, Result, Ok, Err, find, fold, not, ◌==◌}
use Rattle.std.specs.Prelude.{◌&&◌, if◌then◌else◌}
use Rattle.std.specs.List.{concat}
use Rattle.xb_words.specs.Cut.{with_offsets}
use Rattle.xb_words.specs.Table.{with_value, without}
use Rattle.xb_values.specs.Prefixes.{Sections, prefix_cmp, prefixes, are_prefixes}
use Rattle.xb_wire.specs.Messages.{Update, split, message_kind, message_body, lengths_fit, update_parts}
use Rattle.xb_wire.specs.declared.numbers.TheConstants.{UPDATE}

-- the table without the prefixes that octets write
abbrev pub withdrawn_from : Sections → List ℕ → Sections
withdrawn_from table octets = fold (without prefix_cmp) table (prefixes octets)

-- the table with a section at each prefix that octets write
abbrev pub announced_in : Sections → List ℕ → List ℕ → Sections
announced_in table octets section = fold (λ t p. with_value prefix_cmp t p section) table (prefixes octets)

-- the table after an UPDATE: withdrawn prefixes leave it, and then announced ones enter it with the section's octets
abbrev pub after_update : Sections → Update → Sections
after_update table u = announced_in (withdrawn_from table u.withdrawn) u.nlri u.section

-- the table after a message; messages of other types change nothing
abbrev pub after_message : Sections → List ℕ → Sections
after_message table message =
    if message_kind message == UPDATE then after_update table (update_parts (message_body message)) else table

-- whether the lengths of an UPDATE's body fit it and its prefixes are whole
abbrev pub is_readable : List ℕ → Bool
is_readable body =
    lengths_fit body && are_prefixes (update_parts body).withdrawn && are_prefixes (update_parts body).nlri

-- whether a message is an UPDATE that cannot be read
abbrev pub is_refused : List ℕ → Bool
is_refused message = (message_kind message == UPDATE) && not (is_readable (message_body message))

-- the offset of the first refused message, or else of octets after the last message
abbrev pub refusal : List ℕ → Option ℕ
refusal s =
    elim (find (λ m. is_refused m.1) (with_offsets 0 (split s).items)) [
      | Some m ↦ Some m.0
      | None ↦ if length (split s).rest == 0 then None else Some (length (concat (split s).items))
    ]

-- the table after all messages
abbrev pub table_of : List ℕ → Sections
table_of s = fold after_message [] (split s).items

-- the table that a stream announces, or the offset at which the stream is refused
unfoldable pub heard : List ℕ → Result Sections ℕ
heard s = elim (refusal s) [ None ↦ Ok (table_of s) | Some at ↦ Err at ]

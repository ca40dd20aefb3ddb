-- (for the loops of `heard`) The table as it grows by the steps of walkers that are still to come; None if one of them
-- is refused. The lemma `heard_by_steps` says that all steps together are the table that a stream announces.
use Rattle.std.specs.Prelude.{ℕ, ◌==◌, if◌then◌else◌, List, [], ◌∷◌, Option, Some, None, Result, Ok, Err}
use Rattle.std.specs.Option.{option_and_then, option_map}
use Rattle.xb_words.specs.Table.{with_value, without}
use Rattle.xb_values.specs.Prefixes.{Prefix, Sections, prefix_cmp}
use Rattle.xb_wire.specs.Messages.{Update, update_of}
use Rattle.xb_wire.specs.declared.numbers.TheConstants.{UPDATE}
use Rattle.bgp_update.specs.Walks.{FoundMessage, prefixes_from}

-- the table with a prefix announced with that section, or without it for None
abbrev pub change : Option (List ℕ) → Sections → Prefix → Sections
change None table p = without prefix_cmp table p
change (Some section) table p = with_value prefix_cmp table p section

-- the table with the prefixes of these steps so changed
abbrev pub change_each : List (Result Prefix (Unit {0})) → Option (List ℕ) → Sections → Option Sections
change_each [] becomes table = Some table
change_each (Err bad ∷ ps) becomes table = None
change_each (Ok p ∷ ps) becomes table = change_each ps becomes (change becomes table p)

-- withdrawn prefixes leave, then announced ones enter
abbrev pub parts_step : Update → Sections → Option Sections
parts_step u table =
    option_and_then (change_each (prefixes_from u.nlri) (Some u.section))
    (change_each (prefixes_from u.withdrawn) None table)

-- after an UPDATE with that body
unfoldable pub update_step : List ℕ → Sections → Option Sections
update_step body table = option_and_then (λ u. parts_step u table) (update_of body)

-- after a message; only an UPDATE changes the table
abbrev pub message_step : FoundMessage → Sections → Option Sections
message_step m table = if m.kind == UPDATE then update_step m.body table else Some table

-- an error with an offset for None
abbrev pub or_refused : ℕ → Option (Result Sections ℕ) → Result Sections ℕ
or_refused at None = Err at
or_refused at (Some r) = r

-- after the messages of these steps in turn, or the offset of what is refused first
abbrev pub after_messages : List (Result FoundMessage ℕ) → Sections → Result Sections ℕ
after_messages [] table = Ok table
after_messages (Err at ∷ ms) table = Err at
after_messages (Ok m ∷ ms) table = or_refused m.at (option_map (after_messages ms) (message_step m table))

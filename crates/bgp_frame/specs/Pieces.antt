-- A stream that comes in pieces (RFC 4271, section 4.1).
use Rattle.std.specs.Prelude.{ℕ, zero, suc, List, [], ◌∷◌, ◌++◌, length, take, drop, fold, Some, None}
use Rattle.xb_wire.specs.Messages.{message_size}

-- the messages that were removed, and what waits
pub record Taken : Type 0 where
  pub messages : List (List ℕ)
  pub waits : List ℕ

-- at most `turns` messages are removed, one by one, as long as what waits begins with a whole one
abbrev pub drained_in : ℕ → Taken → Taken
drained_in zero t = t
drained_in (suc turns) t =
    elim (message_size t.waits) [
      | None ↦ t
      | Some len ↦
          drained_in turns (record { messages = t.messages ++ take len t.waits ∷ []; waits = drop len t.waits })
    ]

-- messages are removed until what waits begins with no whole one
unfoldable pub drained : Taken → Taken
drained t = drained_in (length t.waits) t

-- a piece is appended, and then the messages that are whole are removed
abbrev pub fed_piece : Taken → List ℕ → Taken
fed_piece t piece = drained (record { messages = t.messages; waits = t.waits ++ piece })

-- all pieces in turn
abbrev pub fed : List (List ℕ) → Taken
fed pieces = fold fed_piece (record { messages = []; waits = [] }) pieces

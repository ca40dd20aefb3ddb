-- The steps of the walkers: the items in order, and then an error if octets are left that are no item.
use Rattle.std.specs.Prelude.{ℕ, List, Result}
use Rattle.xb_words.specs.Cut.{walk_from}
use Rattle.xb_values.specs.Prefixes.{Prefix, prefix_at, prefix_size}
use Rattle.xb_wire.specs.Messages.{message_size, message_kind, message_body}

-- a message of a stream: the offset of its first octet, its type and its body
pub record FoundMessage : Type 0 where
  pub at : ℕ
  pub kind : ℕ
  pub body : List ℕ

-- a message, by its offset and its octets
abbrev pub found_message : ℕ → List ℕ → FoundMessage
found_message at message = record { at = at; kind = message_kind message; body = message_body message }

-- the steps over a stream whose first octet has the offset `at`; the error is the offset of a header that is refused
-- or of octets that are no whole message (RFC 4271, sections 4.1 and 6.1)
abbrev pub messages_from : ℕ → List ℕ → List (Result FoundMessage ℕ)
messages_from at s = walk_from message_size found_message (λ i. i) at s

-- the steps over octets of prefixes; the error is a length over 32 or missing octets (RFC 4271, section 4.3)
abbrev pub prefixes_from : List ℕ → List (Result Prefix (Unit {0}))
prefixes_from s = walk_from prefix_size (λ i. prefix_at) (λ i. tt) 0 s

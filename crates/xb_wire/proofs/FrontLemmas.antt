-- The type of a whole message at the front.
use Rattle.std.proofs.Common.{◌≡◌, ℕ, ◌≤◌, List, take, Some, arith}
use Rattle.std.proofs.lemmas.List.{get_or-take}
use Rattle.xb_wire.specs.Messages.{message_size, message_kind}
use Rattle.xb_wire.specs.Fronts.{IsWholeMessage}
use Rattle.xb_wire.proofs.MessageLemmas.{message_size_is_size, HasMessageLength-size}

-- the octets of a message have the type that is read at the front
pub message_kind-take : (s : List ℕ) (n : ℕ) → 19 ≤ n → message_kind (take n s) ≡ message_kind s
message_kind-take s n long = get_or-take n s 18 0 (omega (arith, long))

-- the octets begin with a whole message of the type that is read at the front
pub whole_at_front : (s : List ℕ) (n : ℕ) → message_size s ≡ Some n → IsWholeMessage s (message_kind s) n
whole_at_front s n size = record {
  has_size = size;
  inside = (message_size_is_size s n size).1;
  is_of_kind = message_kind-take s n (HasMessageLength-size s n size).header;
}

-- What is at the front of octets of a stream (RFC 4271, sections 4.1 and 6.1).
use Rattle.std.specs.Prelude.{◌≡◌, ℕ, ◌≤◌, List, length, take, Some, None}
use Rattle.xb_wire.specs.Messages.{message_size, front_fault, message_kind, HasMessageLength}
use Rattle.xb_wire.specs.Headers.{notification_of}
use Rattle.xb_wire.specs.declared.front.Next.{Next}
use Rattle.xb_wire.specs.declared.front.Next.TheVariants.{Whole, More, Fault}

-- the octets begin with a whole message of a type and a length
pub record IsWholeMessage (octets : List ℕ) (kind len : ℕ) : Type 0 where
  pub has_size : message_size octets ≡ Some len
  pub inside : len ≤ length octets
  pub is_of_kind : message_kind (take len octets) ≡ kind

-- what is at the front: a whole message, a header that fails a check, or neither
abbrev pub IsNext : List ℕ → Next → Type 0
IsNext octets (Whole kind len) = IsWholeMessage octets kind len
IsNext octets More = (message_size octets ≡ None) × (front_fault octets ≡ None)
IsNext octets (Fault fault) = (message_size octets ≡ None) × (front_fault octets ≡ Some (notification_of fault))

-- a whole message has a length that its type allows
abbrev pub IsSized : Next → Type 0
IsSized (Whole kind len) = HasMessageLength kind len
IsSized More = Unit {0}
IsSized (Fault fault) = Unit {0}

-- What `Frames::next` leaves, and what it returns in words of the split (RFC 4271, sections 4.1 and 6.1).
use Rattle.std.specs.Prelude.{◌≡◌, ◌+◌, ℕ, List, [], length, take, drop, Some, None}
use Rattle.xb_words.specs.Cut.{after_item}
use Rattle.xb_wire.specs.Messages.{message_kind, message_body, split, stream_fault}
use Rattle.xb_wire.specs.Headers.{notification_of}
use Rattle.xb_wire.specs.Messages.{HasMessageLength}
use Rattle.xb_wire.specs.declared.numbers.TheConstants.{HEADER}
use Rattle.xb_wire.specs.declared.front.Next.{Next}
use Rattle.xb_wire.specs.declared.front.Next.TheVariants.{Whole, More, Fault}
use Rattle.bgp_frame.specs.Waiting.{Waiting}

-- a whole message is removed, and its body kept; otherwise nothing changes
abbrev pub after_next : Waiting → Next → Waiting
after_next w (Whole kind len) = record { waits = drop len w.waits; body = message_body (take len w.waits) }
after_next w More = w
after_next w (Fault fault) = w

-- a whole message has a length that its type allows, which is that of a header and of the body
abbrev pub HasSizedBody : Next → List ℕ → Type 0
HasSizedBody (Whole kind len) body = (len ≡ HEADER + length body) × HasMessageLength kind len
HasSizedBody More body = Unit {0}
HasSizedBody (Fault fault) body = Unit {0}

-- what waits begins with the first message of its split, which has this type and length; or it has no whole message,
-- and a fault exactly if the split has one
abbrev pub IsFirst : List ℕ → Next → Type 0
IsFirst waits (Whole kind len) =
    (split waits ≡ after_item (take len waits) (split (drop len waits))) × (message_kind (take len waits) ≡ kind)
IsFirst waits More = (split waits ≡ record { items = []; rest = waits }) × (stream_fault waits ≡ None)
IsFirst waits (Fault fault) =
    (split waits ≡ record { items = []; rest = waits }) × (stream_fault waits ≡ Some (notification_of fault))

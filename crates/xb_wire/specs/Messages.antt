-- Messages of a stream (RFC 4271, sections 4.1 and 6.1): a marker of 16 octets, a length of 2, a type, and a body.
use Rattle.std.specs.Prelude.{◌≡◌, ℕ, ◌+◌, ◌≤◌, Bool, List, [], ◌∷◌, ◌++◌, length, take, drop, slice_index, slice_range}
use Rattle.std.specs.Prelude.{replicate, Option, Some, None, nat_lt, ◌==◌, ◌&&◌, ◌||◌, not, if◌then◌else◌}
use Rattle.xb_words.specs.Octets.{two_at, two_octets, all_are}
use Rattle.xb_words.specs.Cut.{Pieces, cut, IsItem}
use Rattle.xb_wire.specs.declared.numbers.TheConstants.{MARKER, HEADER, MAX_MESSAGE, LEAST_OPEN, EMPTY_UPDATE}
use Rattle.xb_wire.specs.declared.numbers.TheConstants.{LEAST_NOTIFICATION, OPEN, UPDATE, NOTIFICATION, KEEPALIVE}
use Rattle.xb_wire.specs.declared.numbers.TheConstants.{MESSAGE_HEADER_ERROR, CONNECTION_NOT_SYNCHRONIZED}
use Rattle.xb_wire.specs.declared.numbers.TheConstants.{BAD_MESSAGE_LENGTH, BAD_MESSAGE_TYPE}

-- what a NOTIFICATION says (RFC 4271, section 4.5)
pub record Notification : Type 0 where
  pub code : ℕ
  pub subcode : ℕ
  pub extra : List ℕ

abbrev pub notification : ℕ → ℕ → List ℕ → Notification
notification code subcode octets = record { code = code; subcode = subcode; extra = octets }

-- the length field of a message, which comes after its marker
abbrev pub message_length : List ℕ → ℕ
message_length message = two_at message MARKER

-- the type of a message, which comes after its length field
abbrev pub message_kind : List ℕ → ℕ
message_kind message = slice_index message (MARKER + 2)

-- the octets after the header
abbrev pub message_body : List ℕ → List ℕ
message_body message = drop HEADER message

-- a length that a message of the type does not have (RFC 4271, section 6.1)
abbrev pub is_bad_length : ℕ → ℕ → Bool
is_bad_length kind n =
    (kind == OPEN && nat_lt n LEAST_OPEN)
    || (kind == UPDATE && nat_lt n EMPTY_UPDATE)
    || (kind == NOTIFICATION && nat_lt n LEAST_NOTIFICATION)
    || (kind == KEEPALIVE && not (n == HEADER))

-- a message header error about the length field, which is its data
abbrev pub length_error : List ℕ → Notification
length_error s = notification MESSAGE_HEADER_ERROR BAD_MESSAGE_LENGTH (slice_range s MARKER (MARKER + 2))

-- a message header error about the type, which is its data
abbrev pub type_error : List ℕ → Notification
type_error s = notification MESSAGE_HEADER_ERROR BAD_MESSAGE_TYPE (message_kind s ∷ [])

-- the first check that a header of 19 octets fails (RFC 4271, section 6.1)
abbrev pub header_fault : List ℕ → Option Notification
header_fault s =
    if not (all_are 255 (take MARKER s))
    then Some (notification MESSAGE_HEADER_ERROR CONNECTION_NOT_SYNCHRONIZED [])
    else if nat_lt (message_length s) HEADER || nat_lt MAX_MESSAGE (message_length s) then Some (length_error s)
    else if message_kind s == 0 || nat_lt KEEPALIVE (message_kind s) then Some (type_error s)
    else if is_bad_length (message_kind s) (message_length s) then Some (length_error s)
    else None

-- the fault of the header at the front, if the octets begin with a whole header
abbrev pub front_fault : List ℕ → Option Notification
front_fault s = if nat_lt (length s) HEADER then None else header_fault s

-- how many octets the message at the front has, if the octets begin with a whole message
abbrev pub message_size : List ℕ → Option ℕ
message_size s =
    if nat_lt (length s) HEADER then None
    else elim (header_fault s) [
      | Some fault ↦ None
      | None ↦ if nat_lt (length s) (message_length s) then None else Some (message_length s)
    ]

-- the messages of a stream and a rest that does not begin with a whole one
abbrev pub split : List ℕ → Pieces
split s = cut message_size s

-- the fault of the header with which the rest of a stream begins, if it has a whole one
abbrev pub stream_fault : List ℕ → Option Notification
stream_fault s = front_fault (split s).rest

-- a message of a type with a body
abbrev pub message : ℕ → List ℕ → List ℕ
message kind body = replicate MARKER 255 ++ two_octets (HEADER + length body) ++ kind ∷ [] ++ body

-- an UPDATE (RFC 4271, section 4.3): withdrawn prefixes, path attributes and announced prefixes
pub record Update : Type 0 where
  pub withdrawn : List ℕ
  pub section : List ℕ
  pub nlri : List ℕ

-- the body of an UPDATE, in which the length of the first part and that of the second precede them
abbrev pub update_body : Update → List ℕ
update_body u =
    two_octets (length u.withdrawn) ++ u.withdrawn ++ two_octets (length u.section) ++ u.section ++ u.nlri

abbrev pub update_message : Update → List ℕ
update_message u = message UPDATE (update_body u)

-- whether the two lengths in a body fit it
abbrev pub lengths_fit : List ℕ → Bool
lengths_fit body =
    not (nat_lt (length body) (4 + two_at body 0))
    && not (nat_lt (length body) (4 + two_at body 0 + two_at body (2 + two_at body 0)))

-- the parts of a body by its two lengths
abbrev pub update_parts : List ℕ → Update
update_parts body =
    let w = two_at body 0 in
    let a = two_at body (2 + w) in
    record {
      withdrawn = slice_range body 2 (2 + w);
      section = slice_range body (4 + w) (4 + w + a);
      nlri = drop (4 + w + a) body;
    }

-- the UPDATE of a body, if the two lengths fit
abbrev pub update_of : List ℕ → Option Update
update_of body = if lengths_fit body then Some (update_parts body) else None

-- one whole message and nothing after it
abbrev pub IsMessage : List ℕ → Type 0
IsMessage m = IsItem message_size m

-- the types and lengths that messages have (RFC 4271, sections 4.1 to 4.5)
pub record HasMessageLength (kind n : ℕ) : Type 0 where
  pub header : HEADER ≤ n
  pub most : n ≤ MAX_MESSAGE
  pub first_kind : OPEN ≤ kind
  pub last_kind : kind ≤ KEEPALIVE
  pub least_open : kind ≡ OPEN → LEAST_OPEN ≤ n
  pub least_update : kind ≡ UPDATE → EMPTY_UPDATE ≤ n
  pub least_notification : kind ≡ NOTIFICATION → LEAST_NOTIFICATION ≤ n
  pub keepalive : kind ≡ KEEPALIVE → n ≡ HEADER

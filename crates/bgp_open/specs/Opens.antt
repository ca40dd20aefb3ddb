-- The first fault of an OPEN, in the order of this project (RFC 4271, sections 4.2 and 6.2; RFC 5492, section 4, for
-- the parameter that holds capabilities; RFC 6793, section 3, for the capability of an AS number). A body is a version
-- of 1 octet, an AS number of 2, a hold time of 2, an identifier of 4, the length of the parameters in 1, and the
-- parameters.
use Rattle.std.specs.Prelude.{ℕ, ◌+◌, Bool, List, [], ◌∷◌, length, is_some, take, drop, slice_index, Option, Some, None}
use Rattle.std.specs.Prelude.{option_map, nat_lt, nat_le, ◌==◌, ◌&&◌, not, if◌then◌else◌}
use Rattle.xb_words.specs.Octets.{two_at, four_at, two_octets}
use Rattle.xb_words.specs.Cut.{cut}
use Rattle.xb_words.specs.Optional.{or_else}
use Rattle.xb_wire.specs.declared.numbers.TheConstants.{OPEN_MESSAGE_ERROR, UNSPECIFIC, UNSUPPORTED_VERSION_NUMBER}
use Rattle.xb_wire.specs.declared.numbers.TheConstants.{BAD_PEER_AS, BAD_BGP_IDENTIFIER, UNSUPPORTED_OPTIONAL_PARAMETER}
use Rattle.xb_wire.specs.declared.numbers.TheConstants.{UNACCEPTABLE_HOLD_TIME, VERSION}
use Rattle.xb_wire.specs.Messages.{Notification, notification}
use Rattle.bgp_open.specs.declared.TheConstants.{MY_AS, HOLD_TIME, IDENTIFIER, PARAMETERS_LENGTH, PARAMETERS}
use Rattle.bgp_open.specs.declared.TheConstants.{CAPABILITIES, FOUR_OCTET_AS, FIELD_HEADER, AS_CAPABILITY, MIN_HOLD}
use Rattle.bgp_open.specs.declared.OpenSeen4.{OpenSeen4}

-- an error of an OPEN with its data
abbrev pub open_error : ℕ → List ℕ → Notification
open_error subcode octets = notification OPEN_MESSAGE_ERROR subcode octets

-- the length of the parameter or the capability at the front: a type, a length, and that many octets; None if no whole
-- one is there
abbrev pub field_size : List ℕ → Option ℕ
field_size s =
    if nat_le FIELD_HEADER (length s) && nat_le (FIELD_HEADER + slice_index s 1) (length s)
    then Some (FIELD_HEADER + slice_index s 1) else None

-- the field at the front, and the octets after it (for `split_field`)
abbrev pub front_field : List ℕ → Option (List ℕ × List ℕ)
front_field s = option_map (λ n. (take n s, drop n s)) (field_size s)

-- the parts of a field
abbrev pub field_type : List ℕ → ℕ
field_type field = slice_index field 0

abbrev pub field_value : List ℕ → List ℕ
field_value field = drop FIELD_HEADER field

-- nothing is left after the last field
unfoldable pub fills : List ℕ → Bool
fills octets = length (cut field_size octets).rest == 0

-- the parameters of a body
abbrev pub parameters : List ℕ → List ℕ
parameters body = drop PARAMETERS body

-- a parameter does not hold capabilities, or they do not fill it
abbrev pub parameter_fault : List ℕ → Option Notification
parameter_fault p =
    if not (field_type p == CAPABILITIES) then Some (open_error UNSUPPORTED_OPTIONAL_PARAMETER [])
    else if not (fills (field_value p)) then Some (open_error UNSPECIFIC [])
    else None

-- the fault of the first parameter that has one
abbrev pub first_parameter_fault : List (List ℕ) → Option Notification
first_parameter_fault [] = None
first_parameter_fault (p ∷ ps) = or_else (parameter_fault p) (first_parameter_fault ps)

-- the first fault of the parameters in order; one that runs past the end is the last
unfoldable pub parameters_fault : List ℕ → Option Notification
parameters_fault octets =
    or_else (first_parameter_fault (cut field_size octets).items)
    (if fills octets then None else Some (open_error UNSPECIFIC []))

-- a hold time of 1 or 2 seconds
abbrev pub is_short_hold : ℕ → Bool
is_short_hold hold = not (hold == 0) && nat_lt hold MIN_HOLD

-- the first fault before the parameters other than the AS number, the last being a length that is not theirs
abbrev pub fixed_fault : List ℕ → Option Notification
fixed_fault body =
    if not (slice_index body 0 == VERSION) then Some (open_error UNSUPPORTED_VERSION_NUMBER (two_octets VERSION))
    else if is_short_hold (two_at body HOLD_TIME) then Some (open_error UNACCEPTABLE_HOLD_TIME [])
    else if four_at body IDENTIFIER == 0 then Some (open_error BAD_BGP_IDENTIFIER [])
    else if not (slice_index body PARAMETERS_LENGTH == length (parameters body)) then Some (open_error UNSPECIFIC [])
    else None

-- a capability that has an AS number of four octets, after its code and its length (RFC 6793, section 3); one of
-- another length is not such a capability
abbrev pub has_wide_as : List ℕ → Bool
has_wide_as capability = field_type capability == FOUR_OCTET_AS && length capability == AS_CAPABILITY

-- its AS number
abbrev pub as_of : List ℕ → Option ℕ
as_of capability = if has_wide_as capability then Some (four_at capability FIELD_HEADER) else None

-- the AS number of the first capability that has one
abbrev pub first_as : List (List ℕ) → Option ℕ
first_as [] = None
first_as (c ∷ cs) = or_else (as_of c) (first_as cs)

-- the same of the capabilities that fill octets
unfoldable pub as_in : List ℕ → Option ℕ
as_in octets = first_as (cut field_size octets).items

-- the same of all parameters, in order
abbrev pub first_as_in : List (List ℕ) → Option ℕ
first_as_in [] = None
first_as_in (p ∷ ps) = or_else (as_in (field_value p)) (first_as_in ps)

-- the first AS number of four octets in the parameters
unfoldable pub wide_as : List ℕ → Option ℕ
wide_as octets = first_as_in (cut field_size octets).items

-- the AS number of a capability, or the AS field of a body if there is no such capability
abbrev pub as_or_field : Option ℕ → List ℕ → ℕ
as_or_field None body = two_at body MY_AS
as_or_field (Some asn) body = asn

-- the AS number is not the peer's
abbrev pub as_fault : List ℕ → ℕ → Option Notification
as_fault body peer_as =
    if as_or_field (wide_as (parameters body)) body == peer_as then None else Some (open_error BAD_PEER_AS [])

-- the first fault of a body of at least 10 octets; the AS number is judged last
unfoldable pub judge_open4 : List ℕ → ℕ → Option Notification
judge_open4 body peer_as =
    or_else (fixed_fault body) (or_else (parameters_fault (parameters body)) (as_fault body peer_as))

-- what the body of an accepted OPEN says
abbrev pub open_seen4 : List ℕ → OpenSeen4
open_seen4 body = record {
  hold = two_at body HOLD_TIME;
  id = four_at body IDENTIFIER;
  wide = is_some (wide_as (parameters body));
}

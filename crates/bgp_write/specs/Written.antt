-- Messages as they are written (RFC 4271, sections 4.2, 4.4 and 4.5; RFC 6793, sections 3 and 9).
use Rattle.std.specs.Prelude.{◌≡◌, ℕ, ◌+◌, ◌-◌, ◌^◌, List, [], ◌∷◌, ◌++◌, replicate, slice_set, slice_index, nat_lt}
use Rattle.std.specs.Prelude.{if◌then◌else◌}
use Rattle.xb_words.specs.Octets.{two_octets, four_octets}
use Rattle.xb_values.specs.Buffers.{Buffer}
use Rattle.xb_wire.specs.Messages.{message}
use Rattle.xb_wire.specs.declared.numbers.TheConstants.{MARKER, HEADER, LEAST_OPEN, OPEN, NOTIFICATION, KEEPALIVE}
use Rattle.xb_wire.specs.declared.numbers.TheConstants.{VERSION}
use Rattle.bgp_attr.specs.declared.segments.TheConstants.{AS_TRANS}
use Rattle.bgp_open.specs.declared.TheConstants.{CAPABILITIES, FOUR_OCTET_AS}
use Rattle.bgp_write.specs.declared.control.TheConstants.{AS_PARAMETER}

-- the content of a buffer is replaced, and its capacity stays
abbrev pub Replaces : Buffer → Buffer → List ℕ → Type 0
Replaces old new octets = new ≡ record old { octets = octets }

-- the body of an OPEN up to its parameters: version, AS number, hold time, identifier, and the parameters' length (RFC
-- 4271, section 4.2)
abbrev pub open_fields : ℕ → ℕ → ℕ → ℕ → List ℕ
open_fields asn hold id size = VERSION ∷ two_octets asn ++ two_octets hold ++ four_octets id ++ size ∷ []

-- the body of an OPEN without parameters
abbrev pub open_body : ℕ → ℕ → ℕ → List ℕ
open_body asn hold id = open_fields asn hold id 0

-- an OPEN (RFC 4271, section 4.2)
abbrev pub open_message : ℕ → ℕ → ℕ → List ℕ
open_message asn hold id = message OPEN (open_body asn hold id)

-- an AS number in the AS field of an OPEN: AS_TRANS if two octets do not hold it (RFC 6793, section 9)
abbrev pub as_field : ℕ → ℕ
as_field asn = if nat_lt asn (2 ^ 16) then asn else AS_TRANS

-- the parameter with one capability, an AS number of four octets (RFC 5492, section 4; RFC 6793, section 3)
abbrev pub as_parameter : ℕ → List ℕ
as_parameter asn = CAPABILITIES ∷ 6 ∷ FOUR_OCTET_AS ∷ 4 ∷ four_octets asn

-- the body of an OPEN of a speaker with AS numbers of four octets
abbrev pub wide_open_body : ℕ → ℕ → ℕ → List ℕ
wide_open_body asn hold id = open_fields (as_field asn) hold id AS_PARAMETER ++ as_parameter asn

-- an OPEN with its AS number in four octets
abbrev pub wide_open_message : ℕ → ℕ → ℕ → List ℕ
wide_open_message asn hold id = message OPEN (wide_open_body asn hold id)

-- a KEEPALIVE (RFC 4271, section 4.4)
abbrev pub keepalive_message : List ℕ
keepalive_message = message KEEPALIVE []

-- a NOTIFICATION: a code, a subcode and data (RFC 4271, section 4.5)
abbrev pub notice_message : ℕ → ℕ → List ℕ → List ℕ
notice_message code subcode extra = message NOTIFICATION (code ∷ subcode ∷ extra)

-- (for private calls) a number over the two octets at an offset
abbrev pub with_two : List ℕ → ℕ → ℕ → List ℕ
with_two octets at n =
    slice_set (slice_set octets at (slice_index (two_octets n) 0)) (at + 1) (slice_index (two_octets n) 1)

-- (for private calls) the header of a message whose body has `size` octets
abbrev pub header : ℕ → ℕ → List ℕ
header kind size = replicate MARKER 255 ++ two_octets (HEADER + size) ++ kind ∷ []

-- (for private calls) an OPEN up to its parameters, which have `size` octets
abbrev pub open_front : ℕ → ℕ → ℕ → ℕ → List ℕ
open_front asn hold id size = header OPEN (LEAST_OPEN - HEADER + size) ++ open_fields asn hold id size

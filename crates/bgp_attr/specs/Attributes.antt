-- Path attributes of a section (RFC 4271, section 4.3): flags, a code, a length of one octet, or of two if the flag for
-- an extended length is set, and a value of that many octets. An attribute is all its octets, as received.
use Rattle.std.specs.Prelude.{ℕ, ◌+◌, Bool, List, length, drop, slice_index, map, Option, Some, None, nat_le, ◌==◌, not}
use Rattle.std.specs.Prelude.{bit_and, if◌then◌else◌}
use Rattle.xb_words.specs.Octets.{two_at}
use Rattle.xb_words.specs.Cut.{cut}
use Rattle.bgp_attr.specs.declared.flags.TheConstants.{EXTENDED_LENGTH}

-- the length has two octets, by the flags
abbrev pub has_long_length : ℕ → Bool
has_long_length flags = not (bit_and flags EXTENDED_LENGTH == 0)

-- the octets before the value
abbrev pub header_size : ℕ → ℕ
header_size flags = if has_long_length flags then 4 else 3

-- the length of the value of the attribute at the front
abbrev pub value_size : List ℕ → ℕ
value_size s = if has_long_length (slice_index s 0) then two_at s 2 else slice_index s 2

-- the length of the attribute at the front, header included, even if not all its octets are there
abbrev pub whole_size : List ℕ → ℕ
whole_size s = header_size (slice_index s 0) + value_size s

-- the same length, or None if the attribute runs past the end
abbrev pub attribute_size : List ℕ → Option ℕ
attribute_size s = if nat_le (whole_size s) (length s) then Some (whole_size s) else None

-- the attributes of a section up to its end, or up to the first that runs past it
abbrev pub attributes : List ℕ → List (List ℕ)
attributes section = (cut attribute_size section).items

-- no attribute runs past the section
abbrev pub is_whole : List ℕ → Bool
is_whole section = length (cut attribute_size section).rest == 0

-- the parts of an attribute
abbrev pub attr_flags : List ℕ → ℕ
attr_flags attribute = slice_index attribute 0

abbrev pub attr_code : List ℕ → ℕ
attr_code attribute = slice_index attribute 1

abbrev pub attr_value : List ℕ → List ℕ
attr_value attribute = drop (header_size (attr_flags attribute)) attribute

-- the codes of a section's attributes, in order
abbrev pub codes_of : List ℕ → List ℕ
codes_of section = map attr_code (attributes section)

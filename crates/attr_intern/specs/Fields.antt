-- Where each attribute stands in a canonical section, for the private functions of record.rt.
use Rattle.std.specs.Prelude.{ℕ, ◌+◌, List, [], ◌∷◌, length, take, drop, Option, Some, None, nat_lt, if◌then◌else◌}
use Rattle.bgp_attr.specs.Routes.{Attribute, Route, canonical}
use Rattle.attr_intern.specs.declared.record.Field.{Field}

-- the octets of an attribute before its value
abbrev pub header_of : Attribute → ℕ
header_of a = if nat_lt 255 (length a.value) then 4 else 3

-- the field of an attribute that begins at an offset
abbrev pub field_of : ℕ → ℕ × Attribute → Field
field_of at e =
    record { code = e.0; flags = e.1.flags; start = at + header_of e.1; len = length e.1.value }

-- the field of an attribute, if it is there
abbrev pub fields_at : ℕ → ℕ → Option Attribute → List Field
fields_at at code None = []
fields_at at code (Some a) = field_of at (code, a) ∷ []

-- the fields of the canonical section of a route, which begins at an offset
abbrev pub fields_from : ℕ → Route → List Field
fields_from at [] = []
fields_from at (e ∷ es) = field_of at e ∷ fields_from (at + length (canonical e)) es

-- what a section has where a field says
abbrev pub attribute_in : List ℕ → Field → Attribute
attribute_in section f = record { flags = f.flags; value = take f.len (drop f.start section) }

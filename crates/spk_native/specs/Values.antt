-- What the native functions read of a route (RFC 4271, sections 4.3 and 5.1; RFC 6793 for the AS_PATH).
use Rattle.std.specs.Prelude.{◌≡◌, ℕ, Bool, false, List, [], Option, Some, None, is_none}
use Rattle.std.specs.Option.{option_map, unwrap_or}
use Rattle.xb_words.specs.Octets.{four_at}
use Rattle.bgp_attr.specs.declared.codes.TheConstants.{AS_PATH, NEXT_HOP}
use Rattle.bgp_attr.specs.Routes.{Attribute, Route, attribute_at, as_width}
use Rattle.bgp_attr.specs.Rules.{attr_fault}
use Rattle.bgp_attr.specs.Paths.{Segment, path}

-- the value of an attribute
abbrev pub value_at : Route → ℕ → Option (List ℕ)
value_at route code = option_map (λ a. a.value) (attribute_at route code)

-- the value of an attribute, empty if the route has no such attribute
abbrev pub value_or_none : Route → ℕ → List ℕ
value_or_none route code = unwrap_or (value_at route code) []

-- the segments of the AS_PATH
abbrev pub path_of : Route → List Segment
path_of route = path as_width (value_or_none route AS_PATH)

-- the number that an attribute of four octets has
abbrev pub number_at : Route → ℕ → Option ℕ
number_at route code = option_map (λ v. four_at v 0) (value_at route code)

abbrev pub number_or : Route → ℕ → ℕ → ℕ
number_or route code default = unwrap_or (number_at route code) default

-- the address of the NEXT_HOP, 0 if there is none
abbrev pub next_hop : Route → ℕ
next_hop route = number_or route NEXT_HOP 0

-- no attribute is malformed, with AS numbers of w octets
abbrev pub IsFaultless : ℕ → Route → Type 0
IsFaultless w route =
    (code : ℕ) (a : Attribute) → attribute_at route code ≡ Some a → attr_fault w code a.flags a.value ≡ None

-- no attribute is malformed, with AS numbers of four octets
abbrev pub HasNoFault : Route → Type 0
HasNoFault route = IsFaultless as_width route

-- an attribute is there and is not malformed
abbrev pub is_sound : ℕ → Option Attribute → Bool
is_sound code None = false
is_sound code (Some a) = is_none (attr_fault as_width code a.flags a.value)

abbrev pub has_sound : Route → ℕ → Bool
has_sound route code = is_sound code (attribute_at route code)

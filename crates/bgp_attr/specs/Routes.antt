-- A neutral route: flags and a value for some attribute codes, by rising code, and its canonical section (this
-- project's own).
use Rattle.std.specs.Prelude.{◌≡◌, ℕ, ◌+◌, ◌<◌, ◌≤◌, List, [], ◌∷◌, ◌++◌, length, flat_map, fold, Option, nat_lt}
use Rattle.std.specs.Prelude.{bit_and, if◌then◌else◌}
use Rattle.std.specs.Map.{keys_of}
use Rattle.std.specs.List.{AllByRecursion}
use Rattle.std.specs.List.Sorted.{IsStrictlySortedBy}
use Rattle.std.specs.Ordering.{nat_cmp}
use Rattle.xb_words.specs.Octets.{AreOctets, two_octets}
use Rattle.xb_words.specs.Table.{value_at, with_value, without}
use Rattle.bgp_attr.specs.declared.TheConstants.{MAX_CANONICAL}
use Rattle.bgp_attr.specs.declared.flags.TheConstants.{KEPT, EXTENDED_LENGTH}
use Rattle.bgp_attr.specs.Attributes.{attributes, attr_flags, attr_code, attr_value}

-- what a route has for a code
pub record Attribute : Type 0 where
  pub flags : ℕ
  pub value : List ℕ

-- the entries, by rising code
abbrev pub Route : Type 0
Route = List (ℕ × Attribute)

-- the octets of an AS number in a route that the speaker keeps, whatever the form of the session that it came from (RFC
-- 6793, section 3)
abbrev pub as_width : ℕ
as_width = 4

-- the flags that a route keeps: optional, transitive, partial
abbrev pub kept_flags : ℕ → ℕ
kept_flags flags = bit_and flags KEPT

-- what a route has for a code, if anything
abbrev pub attribute_at : Route → ℕ → Option Attribute
attribute_at route code = value_at nat_cmp route code

-- the route with an attribute set, and with one removed
abbrev pub with_attribute : Route → ℕ → ℕ → List ℕ → Route
with_attribute route code flags value =
    with_value nat_cmp route code (record { flags = kept_flags flags; value = value })

abbrev pub without_attribute : Route → ℕ → Route
without_attribute route code = without nat_cmp route code

-- the route of attributes with distinct codes, and of a section
abbrev pub neutral : List (List ℕ) → Route
neutral attrs = fold (λ r a. with_attribute r (attr_code a) (attr_flags a) (attr_value a)) [] attrs

abbrev pub route_of : List ℕ → Route
route_of section = neutral (attributes section)

-- the octets of an entry: the length has two octets, and its flag is set, exactly if the value has more than 255
abbrev pub canonical : ℕ × Attribute → List ℕ
canonical e =
    if nat_lt 255 (length e.1.value)
    then (e.1.flags + EXTENDED_LENGTH) ∷ e.0 ∷ two_octets (length e.1.value) ++ e.1.value
    else e.1.flags ∷ e.0 ∷ length e.1.value ∷ e.1.value

-- the canonical section of a route
abbrev pub canon : Route → List ℕ
canon route = flat_map canonical route

-- an entry that a section can hold
pub record IsEntry (e : ℕ × Attribute) : Type 0 where
  pub code : e.0 < 256
  pub flags : kept_flags e.1.flags ≡ e.1.flags
  pub value : AreOctets e.1.value

-- a route that a view may show
pub record IsRoute (route : Route) : Type 0 where
  pub rising : IsStrictlySortedBy nat_cmp (keys_of route)
  pub entries : AllByRecursion IsEntry route
  pub short : length (canon route) ≤ MAX_CANONICAL

-- Canonical sections. The words after the first three are for the private functions of find.rt and overlay.rt: the
-- parts of a canonical section around one code.
use Rattle.std.specs.Prelude.{◌≡◌, ◌≤◌, ℕ, List, [], ◌∷◌, length, take, drop, nat_lt, nat_le, ◌==◌, if◌then◌else◌, ◌+◌}
use Rattle.std.specs.Prelude.{Option, Some, None, Result, Ok, Err}
use Rattle.bgp_attr.specs.Routes.{Attribute, Route, route_of, canon, canonical, kept_flags, IsRoute}
use Rattle.bgp_attr.specs.declared.attrs.Attr.{Attr}
use Rattle.bgp_attr.specs.declared.attrs.Overrun.{Overrun}
use Rattle.bgp_attr.specs.Walks.{FoundAttr}
use Rattle.bgp_attr.specs.declared.flags.TheConstants.{EXTENDED_LENGTH}

-- the octets are the canonical section of the route that they are read as
pub record IsCanonical (section : List ℕ) : Type 0 where
  pub route : IsRoute (route_of section)
  pub octets : canon (route_of section) ≡ section

-- the canonical form of an attribute, if it is there
abbrev pub entry_octets : ℕ → Option Attribute → List ℕ
entry_octets code None = []
entry_octets code (Some a) = canonical (code, a)

-- the entry of an attribute, if it is there
abbrev pub entry_of : ℕ → Option Attribute → Route
entry_of code None = []
entry_of code (Some a) = (code, a) ∷ []

-- the entries below a code
abbrev pub below_code : ℕ → Route → Route
below_code code [] = []
below_code code (e ∷ es) = if nat_lt e.0 code then e ∷ below_code code es else []

-- the entries from a code on
abbrev pub from_code : ℕ → Route → Route
from_code code [] = []
from_code code (e ∷ es) = if nat_lt e.0 code then from_code code es else e ∷ es

-- the entries without that of a code, if they begin with it
abbrev pub past_code : ℕ → Route → Route
past_code code [] = []
past_code code (e ∷ es) = if e.0 == code then es else e ∷ es

-- what a route has of an attribute
abbrev pub kept_attr : Attr → Attribute
kept_attr a = record { flags = kept_flags a.flags; value = a.value.now }

-- the flags of an attribute in its canonical form, by those that were received: of the others the one for a length of
-- two octets is set, exactly if the value has more than 255
abbrev pub form_flags : ℕ → List ℕ → ℕ
form_flags flags value =
    if nat_lt 255 (length value) then kept_flags flags + EXTENDED_LENGTH else kept_flags flags

-- the first attribute of a walk whose code is at least `from`
abbrev pub found_from : ℕ → List (Result FoundAttr Overrun) → Option FoundAttr
found_from from [] = None
found_from from (Ok a ∷ steps) = if nat_le from a.code then Some a else found_from from steps
found_from from (Err o ∷ steps) = None

-- what a route has of an attribute that was found, if it has the code
abbrev pub at_code : ℕ → Option FoundAttr → Option Attribute
at_code code None = None
at_code code (Some f) = if f.code == code then Some (record { flags = kept_flags f.flags; value = f.value }) else None

-- the offsets at which the attribute of a code begins and ends, or would begin, by the attribute that was found
abbrev pub gap_of : ℕ → ℕ → Option FoundAttr → ℕ × ℕ
gap_of code len None = (len, len)
gap_of code len (Some f) = (f.at, if f.code == code then f.at + length f.raw else f.at)

-- the parts of a section around a code
pub record IsGap (code : ℕ) (s : List ℕ) (g : ℕ × ℕ) : Type 0 where
  pub before : take g.0 s ≡ canon (below_code code (route_of s))
  pub after : drop g.1 s ≡ canon (past_code code (from_code code (route_of s)))
  pub order : g.0 ≤ g.1
  pub inside : g.1 ≤ length s

-- An index of the attributes of a section by code (for `SectionView`), and the rest of a walk (for the loops of `new`
-- and `read_rising`).
use Rattle.std.specs.Prelude.{ℕ, ◌+◌, List, [], ◌∷◌, Option, Some, None, Result, Ok, Err}
use Rattle.bgp_attr.specs.declared.attrs.Attr.{Attr}
use Rattle.bgp_attr.specs.declared.attrs.Overrun.{Overrun}
use Rattle.bgp_attr.specs.Routes.{Route, kept_flags, with_attribute}
use Rattle.bgp_attr.specs.Walks.{FoundAttr}
use Rattle.xbgp_view.specs.Sections.{kept_attr}

-- the route of an index that has an attribute or none for each code, from one code on
abbrev pub index_route : ℕ → List (Option Attr) → Route
index_route code [] = []
index_route code (None ∷ index) = index_route (code + 1) index
index_route code (Some a ∷ index) = (code, kept_attr a) ∷ index_route (code + 1) index

-- a route with the attributes of the steps that are left
abbrev pub walked_route : Route → List (Result FoundAttr Overrun) → Route
walked_route route [] = route
walked_route route (Ok a ∷ steps) = walked_route (with_attribute route a.code a.flags a.value) steps
walked_route route (Err o ∷ steps) = route

-- the entries of the attributes of the steps that are left, in the order of the steps
abbrev pub entries_of : List (Result FoundAttr Overrun) → Route
entries_of [] = []
entries_of (Ok a ∷ steps) = (a.code, record { flags = kept_flags a.flags; value = a.value }) ∷ entries_of steps
entries_of (Err o ∷ steps) = []

-- What a view shows of a neutral route (this project's own, over path attributes of RFC 4271, section 4.3).
use Rattle.std.specs.Prelude.{ℕ, List, ◌++◌, length, drop, Option, Some, None, find, nat_le, nat_lt, if◌then◌else◌}
use Rattle.std.specs.Option.{option_map}
use Rattle.xb_values.specs.Prefixes.{Prefix}
use Rattle.bgp_attr.specs.Routes.{Attribute, Route, attribute_at}

-- the flags of an attribute, and how long its value is
abbrev pub flags_and_length : Route → ℕ → Option (ℕ × ℕ)
flags_and_length route code = option_map (λ a. (a.flags, length a.value)) (attribute_at route code)

-- the least code that is at least `from`
abbrev pub code_from : Route → ℕ → Option ℕ
code_from route from = option_map (λ e. e.0) (find (λ e. nat_le from e.0) route)

-- the length of a value, if it is there and fits
abbrev pub length_that_fits : Option Attribute → ℕ → Option ℕ
length_that_fits None room = None
length_that_fits (Some a) room = if nat_lt room (length a.value) then None else Some (length a.value)

-- the value over the front of a slice; nothing is copied if it is absent or longer than the slice
abbrev pub copied : Option Attribute → List ℕ → List ℕ
copied None old = old
copied (Some a) old = if nat_lt (length old) (length a.value) then old else a.value ++ drop (length a.value) old

-- an editable route, and the copy that is kept
pub record Edited : Type 0 where
  pub route : Route
  pub kept : Route

-- routes by prefix: a finite map, as its entries by rising prefix
abbrev pub Routes : Type 0
Routes = List (Prefix × Route)

-- What calls may change, for the laws.
use Rattle.std.specs.Prelude.{◌≡◌, ◌≤◌, ◌⊎◌, ℕ, List, length, None, false}
use Rattle.xb_domain.specs.declared.point.Point.{Point}
use Rattle.xb_domain.specs.declared.point.Point.TheVariants.{Receive, Inbound, Decision, Outbound, Encode}
use Rattle.xb_wire.specs.declared.numbers.TheConstants.{MAX_MESSAGE}
use Rattle.bgp_attr.specs.Routes.{Route, with_attribute, without_attribute, canon, as_width}
use Rattle.bgp_attr.specs.Rules.{attr_fault}
use Rattle.xbgp_helpers.specs.Worlds.{World}
use Rattle.xbgp_helpers.specs.Helping.{is_mandatory}

-- a world with the parts of a later one that programs may change at a point; the others are as they were
abbrev pub changed_at : Point → World → World → World
changed_at Receive w later =
    record w { route = later.route; maps = later.maps; writes = later.writes; mark = later.mark }
changed_at Inbound w later =
    record w { route = later.route; maps = later.maps; writes = later.writes; mark = later.mark }
changed_at Decision w later = record w { mark = later.mark }
changed_at Outbound w later = record w { route = later.route; mark = later.mark }
changed_at Encode w later = record w { buffer = later.buffer; mark = later.mark }

-- an attribute that has no fault, with AS numbers of four octets, was set, and the route is short enough
pub record IsSet (old new : Route) : Type 0 where
  pub code : ℕ
  pub flags : ℕ
  pub value : List ℕ
  pub sound : attr_fault as_width code flags value ≡ None
  pub short : length (canon new) ≤ MAX_MESSAGE
  pub after : new ≡ with_attribute old code flags value

-- an attribute that isn't mandatory was removed
pub record IsUnset (old new : Route) : Type 0 where
  pub code : ℕ
  pub free : is_mandatory code ≡ false
  pub after : new ≡ without_attribute old code

-- what one call does to a route, if anything
abbrev pub IsEdited : Route → Route → Type 0
IsEdited old new = (new ≡ old) ⊎ (IsSet old new ⊎ IsUnset old new)

-- Routes that the speaker keeps (this project's own): whatever reads a kept route may rely on this.
use Rattle.std.specs.Prelude.{◌≤◌, length}
use Rattle.xb_wire.specs.declared.numbers.TheConstants.{MAX_MESSAGE}
use Rattle.bgp_attr.specs.Routes.{Route, canon}
use Rattle.spk_native.specs.Values.{HasNoFault}
use Rattle.xbgp_points.specs.Engines.{HasMandatory}

-- a route without malformed attributes that has the mandatory ones (RFC 4271, section 5) and may be edited
pub record IsSound (route : Route) : Type 0 where
  pub mandatory : HasMandatory route
  pub faultless : HasNoFault route
  pub short : length (canon route) ≤ MAX_MESSAGE

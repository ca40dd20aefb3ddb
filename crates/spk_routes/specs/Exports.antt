-- What the export of a best route leaves (for `Exporter::export` and the private functions of export.rt).
use Rattle.std.specs.Prelude.{◌≡◌, ◌≤◌, ℕ, Bool, true, false, List, [], length, Some, None}
use Rattle.xb_wire.specs.declared.numbers.TheConstants.{MAX_SECTION}
use Rattle.xb_domain.specs.declared.point.Point.TheVariants.{Outbound}
use Rattle.xb_domain.specs.declared.side.Side.{Side}
use Rattle.bgp_attr.specs.Routes.{Route, IsRoute}
use Rattle.spk_native.specs.Filters.{accepts_outbound}
use Rattle.spk_native.specs.Values.{HasNoFault}
use Rattle.xbgp_points.specs.declared.outcome.Outcome.{Outcome}
use Rattle.xbgp_points.specs.declared.outcome.Outcome.TheVariants.{Verdict, Native, Failed}
use Rattle.xbgp_points.specs.Chains.{programs_at}
use Rattle.xbgp_points.specs.Engines.{Kept}
use Rattle.xbgp_points.specs.Points.{Called}
use Rattle.spk_model.specs.Exporting.{Exported, accepted}

-- what contracts see of an exporter: the best route that was loaded last, and the section that was written last
pub record Exporting : Type 0 where
  pub best : Route
  pub section : List ℕ

-- the octets are the section that is advertised, if a test says that the route is advertised
abbrev pub Writes : Bool → List ℕ → Exported → Type 0
Writes true octets x = (x.section ≡ Some octets) × (length octets ≤ MAX_SECTION)
Writes false octets x = x.section ≡ None

-- a best route was exported: what programs left, and the octets of the section if the route is advertised
pub record Exports (x : Exported) (old new : Kept) (advertised : Bool) (octets : List ℕ) : Type 0 where
  pub section : Writes advertised octets x
  pub engine : new.engine ≡ x.engine
  pub manifest : new.manifest ≡ old.manifest
  pub local : new.local ≡ old.local

-- a route passed outbound, or did not, by its chain and what the native function says
pub record Passes (c : Called) (native : Bool) (old new : Kept) (left : Route) (passed : Bool) : Type 0 where
  pub accepted : passed ≡ accepted c.outcome native
  pub route : left ≡ c.route
  pub after : new ≡ record old { engine = c.engine; wrote = c.wrote }
  pub shape : IsRoute left
  pub faultless : HasNoFault left

-- no program runs at outbound, and the native function refuses there
pub record IsRefused (e : Kept) (source peer : Side) : Type 0 where
  pub none : programs_at e.manifest Outbound ≡ []
  pub native : accepts_outbound source peer ≡ false

-- the section that programs gave, or the native one
abbrev pub given_or : Outcome → List ℕ → List ℕ → List ℕ
given_or (Verdict v) given native = given
given_or Native given native = native
given_or (Failed program cause) given native = native

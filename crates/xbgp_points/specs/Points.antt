-- What each of the five points sees and leaves (this project's own). An engine is the maps and the faults that were
-- noted.
use Rattle.std.specs.Prelude.{ℕ, Bool, List, [], Option, Some, None, nat_lt, not, ◌&&◌}
use Rattle.std.specs.Option.{unwrap_or}
use Rattle.xb_domain.specs.declared.point.Point.TheVariants.{Receive, Inbound, Decision, Outbound, Encode}
use Rattle.xb_domain.specs.declared.side.Side.{Side}
use Rattle.xb_values.specs.Prefixes.{Prefix}
use Rattle.bgp_attr.specs.Routes.{Route}
use Rattle.xbgp_maps.specs.Mappings.{Mapping}
use Rattle.xbgp_helpers.specs.Worlds.{World, nobody, nowhere}
use Rattle.xbgp_manifest.specs.Manifests.{Manifest}
use Rattle.xbgp_points.specs.declared.outcome.Outcome.{Outcome}
use Rattle.xbgp_points.specs.declared.outcome.Outcome.TheVariants.{Verdict, Native, Failed}
use Rattle.xbgp_points.specs.Chains.{Faults, Chained, chain, encoded, is_failed}

-- what lasts from call to call
pub record Engine : Type 0 where
  pub maps : List Mapping
  pub faults : Faults

-- what a call at a point gives and leaves: an outcome, the world, the engine, and whether the chain wrote to a map
pub record Called : Type 0 where
  pub outcome : Outcome
  pub route : Route
  pub buffer : List ℕ
  pub engine : Engine
  pub wrote : Bool

-- what a chain leaves of a call
abbrev pub called : Chained → Called
called c = record {
  outcome = c.outcome;
  route = (c.world).route;
  buffer = (c.world).buffer;
  engine = record { maps = (c.world).maps; faults = c.faults };
  wrote = not (is_failed c.outcome) && nat_lt 0 (c.world).writes;
}

-- the world of a point before its first program
abbrev pub world_of : Engine → Side → Side → Side → Prefix → ℕ → Route → Route → Side → World
world_of engine local peer source prefix now route other other_source = record {
  route = route;
  other = other;
  peer = peer;
  source = source;
  other_source = other_source;
  local = local;
  prefix = prefix;
  now = now;
  maps = engine.maps;
  writes = 0;
  buffer = [];
  mark = 0;
}

-- an UPDATE with announced prefixes; the window is its body
abbrev pub receive : Manifest → Side → Engine → ℕ → Side → Route → List ℕ → Called
receive manifest local engine now peer route body =
    called (chain manifest Receive body (world_of engine local peer nobody nowhere now route [] nobody) engine.faults)

-- one announced prefix, and its copy of the route
abbrev pub inbound : Manifest → Side → Engine → ℕ → Side → Prefix → Route → Called
inbound manifest local engine now peer prefix route =
    called (chain manifest Inbound [] (world_of engine local peer nobody prefix now route [] nobody) engine.faults)

-- two candidates, of which the old one is route 0
abbrev pub prefer : Manifest → Side → Engine → Prefix → Route → Side → Route → Side → Called
prefer manifest local engine prefix old old_side new new_side =
    called (chain manifest Decision [] (world_of engine local nobody old_side prefix 0 old new new_side) engine.faults)

-- an exported best route and a peer; route 1 is the best route before its export
abbrev pub outbound : Manifest → Side → Engine → Side → Side → Prefix → Route → Route → Called
outbound manifest local engine peer source prefix best route =
    called (chain manifest Outbound [] (world_of engine local peer source prefix 0 route best source) engine.faults)

-- the route that outbound left
abbrev pub encode : Manifest → Side → Engine → Side → Side → Route → Route → Called
encode manifest local engine peer source best route =
    called (chain manifest Encode [] (world_of engine local peer source nowhere 0 route best source) engine.faults)

-- the section that the programs at encode give, if they give a verdict, by the outcome and what the chain left
abbrev pub section_by : Outcome → Route → List ℕ → Option (List ℕ)
section_by (Verdict v) route buffer = Some (encoded v route buffer)
section_by Native route buffer = None
section_by (Failed program cause) route buffer = None

-- the section that the programs at encode give, if they give a verdict
abbrev pub given_section : Called → Option (List ℕ)
given_section c = section_by c.outcome c.route c.buffer

-- what a call at encode leaves in the buffer that it was given empty
abbrev pub section_left : Called → List ℕ
section_left c = unwrap_or (given_section c) []

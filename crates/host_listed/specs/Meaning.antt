-- The routes that a core keeps, and what it is for a function of it to follow a definition (this project's own).
use Rattle.std.specs.Prelude.{◌≡◌, ◌≤◌, ℕ, length, Option, Result, Ok, Err, IfSome}
use Rattle.std.specs.declared.alloc.AllocError.{AllocError}
use Rattle.std.specs.List.{AllByRecursion}
use Rattle.std.specs.Option.{option_map}
use Rattle.xb_words.specs.Table.{value_at}
use Rattle.xb_values.specs.Prefixes.{Prefix, prefix_cmp}
use Rattle.xbgp_config.specs.declared.limits.TheConstants.{MAX_PEERS}
use Rattle.spk_model.specs.declared.host.Setup.{Setup}
use Rattle.spk_model.specs.Choosing.{Trace}
use Rattle.spk_model.specs.Sources.{local_route}
use Rattle.spk_model.specs.Routing.{Routing, Routed}
use Rattle.spk_routes.specs.Sound.{IsSound}
use Rattle.host_listed.specs.declared.routing.Core.{Core}

-- the setup that a core was made of
abbrev pub setup_of : Core → Setup
setup_of c = record { config = c.config; manifest = c.engine.manifest }

-- its routes
abbrev pub routing_of : Core → Routing
routing_of c = record { best = c.best.entries; engine = c.engine.engine; tables = c.peers.items }

-- its routes within an event, whatever chains ran before
abbrev pub routed : Trace → Core → Routed
routed trace c = record { routing = routing_of c; trace = trace }

-- what every core keeps
pub record IsReady (c : Core) : Type 0 where
  pub few : length c.config.peers ≤ MAX_PEERS
  pub local : c.engine.local ≡ c.config.local
  pub own : c.own ≡ record { source = 0; route = local_route c.config }
  pub count : length c.peers.items ≡ length c.config.peers
  pub sources : AllByRecursion (λ e. e.1.source ≤ length c.config.peers) c.best.entries

-- the best route of a prefix, if it has one, was loaded to be exported; it came from this source
pub record IsLoaded (c : Core) (prefix : Prefix) (source : Option ℕ) : Type 0 where
  pub best :
      value_at prefix_cmp c.best.entries prefix
      ≡ option_map (λ n. record { source = n; route = (c.exporter).best }) source
  pub sound : IfSome source (λ n. IsSound (c.exporter).best)

-- the core went on as a definition says, whatever chains ran before
pub record Does (step : Setup → Routed → Routed) (old new : Core) : Type 0 where
  pub ready : IsReady new
  pub setup : setup_of new ≡ setup_of old
  pub routing : (trace : Trace) → (step (setup_of old) (routed trace old)).routing ≡ routing_of new

-- the core went on as a definition says; or there was no memory, and the core may be used again
abbrev pub Goes : Result (Unit {0}) AllocError → (Setup → Routed → Routed) → Core → Core → Type 0
Goes (Ok u) step old new = Does step old new
Goes (Err e) step old new = IsReady new

-- The half of the speaker that decides and exports routes (after RFC 4271, section 9; programs and the order in which
-- prefixes are settled are this project's own). It reads the sessions, leaves them as they are, and gives no output.
use Rattle.std.specs.Prelude.{ℕ, ◌-◌, Bool, true, false, List, [], ◌∷◌, ◌++◌, length, filter, filter_map, fold}
use Rattle.std.specs.Prelude.{Option, Some, None, nat_le, not, if◌then◌else◌}
use Rattle.std.specs.Option.{option_map}
use Rattle.std.specs.Map.{keys_of}
use Rattle.std.specs.List.{list_any, slice_index_or, slice_set}
use Rattle.xb_words.specs.Table.{value_at, with_value, without, set_of}
use Rattle.xb_domain.specs.declared.point.Point.{Point}
use Rattle.xb_domain.specs.declared.point.Point.TheVariants.{Receive, Inbound}
use Rattle.xb_domain.specs.declared.side.Side.{Side}
use Rattle.xb_values.specs.Prefixes.{Prefix, Sections, prefix_cmp, prefixes}
use Rattle.xb_wire.specs.declared.numbers.TheConstants.{MAX_MESSAGE}
use Rattle.xb_wire.specs.Messages.{Update, update_parts}
use Rattle.bgp_attr.specs.Routes.{Route, route_of, canon}
use Rattle.bgp_fsm.specs.Sessions.{Owned}
use Rattle.xbgp_view.specs.Views.{Routes}
use Rattle.spk_native.specs.Decision.{rank}
use Rattle.spk_native.specs.Values.{next_hop}
use Rattle.spk_native.specs.Filters.{as_received, accepts_inbound}
use Rattle.spk_native.specs.Receipt.{inflow}
use Rattle.xbgp_config.specs.Configs.{same_prefix}
use Rattle.xbgp_points.specs.Points.{Engine, Called, receive, inbound}
use Rattle.spk_model.specs.declared.host.Setup.{Setup}
use Rattle.spk_model.specs.Sources.{is_up, is_wide, side_of, peer_numbers, local_route, is_network, cost_of}
use Rattle.spk_model.specs.Choosing.{Trace, Candidate}
use Rattle.spk_model.specs.Tournaments.{choose}
use Rattle.spk_model.specs.Exporting.{Exported, accepted, exported}

-- the tables of a peer: the routes that it sent (Adj-RIB-In of RFC 4271, section 3.2), what it is advertised
-- (Adj-RIB-Out), and what the messages since its session was Established told it, both in the session's form
pub record Tables : Type 0 where
  pub adjin : Routes
  pub adv : Sections
  pub told : Sections

-- a best route, and the number of its source
pub record Chosen : Type 0 where
  pub source : ℕ
  pub route : Route

-- the best routes (Loc-RIB of RFC 4271, section 3.2), the engine, and the tables of the peers
pub record Routing : Type 0 where
  pub best : List (Prefix × Chosen)
  pub engine : Engine
  pub tables : List Tables

-- the tables of a peer that sent nothing and is advertised nothing
abbrev pub no_tables : Tables
no_tables = record { adjin = []; adv = []; told = [] }

-- the tables of a peer, by its number from 1
abbrev pub tables_of : Routing → ℕ → Tables
tables_of r p = slice_index_or r.tables (p - 1) no_tables

-- the routes with other tables of a peer
abbrev pub with_tables : Routing → ℕ → Tables → Routing
with_tables r p t = record r { tables = slice_set r.tables (p - 1) t }

-- the routes within an event, and the chain runs of the event so far
pub record Routed : Type 0 where
  pub routing : Routing
  pub trace : Trace

-- the tables of a peer within an event
abbrev pub at_tables : Routed → ℕ → Tables
at_tables t p = tables_of t.routing p

-- a peer gets other tables
abbrev pub set_tables : Routed → ℕ → Tables → Routed
set_tables t p tables = record t { routing = with_tables t.routing p tables }

-- a peer gets other routes that it sent
abbrev pub set_routes : Routed → ℕ → Routes → Routed
set_routes t p routes = set_tables t p (record (at_tables t p) { adjin = routes })

-- what a peer is advertised at a prefix becomes a section, or nothing
abbrev pub set_adv : Routed → ℕ → Prefix → Option (List ℕ) → Routed
set_adv t p prefix None =
    set_tables t p (record (at_tables t p) { adv = without prefix_cmp (at_tables t p).adv prefix })
set_adv t p prefix (Some section) =
    set_tables t p (record (at_tables t p) { adv = with_value prefix_cmp (at_tables t p).adv prefix section })

-- programs ran, and left an engine
abbrev pub ran_all : Routed → Engine → Trace → Routed
ran_all t engine runs = record t { routing = record t.routing { engine = engine }; trace = t.trace ++ runs }

-- the chain of a point ran
abbrev pub ran : Routed → Point → Called → Routed
ran t point c = ran_all t c.engine ((point, c.outcome) ∷ [])

-- the routes of a table without some prefixes
abbrev pub without_all : Routes → List Prefix → Routes
without_all routes ps = fold (without prefix_cmp) routes ps

-- a prefix has a best route, or none
abbrev pub set_best : Routed → Prefix → Option Chosen → Routed
set_best t prefix None =
    record t { routing = record t.routing { best = without prefix_cmp (t.routing).best prefix } }
set_best t prefix (Some best) =
    record t { routing = record t.routing { best = with_value prefix_cmp (t.routing).best prefix best } }

-- a candidate as a best route
abbrev pub best_of : Candidate → Chosen
best_of c = record { source = (c.side).number; route = c.route }

module _ (setup : Setup) (sessions : List Owned) where
  -- the speaker as a party of its routes
  abbrev pub local : Side
  local = (setup.config).local

  -- the speaker or a peer as a party of routes
  abbrev pub side : ℕ → Side
  side p = side_of setup.config sessions p

  -- ---- deciding a prefix (RFC 4271, section 9.1)

  -- a route from a source as a candidate
  abbrev pub candidate : ℕ → Route → Candidate
  candidate p route = record {
    route = route;
    side = side p;
    rank = rank route (side p) (setup.config).local_pref (cost_of setup.config (next_hop route));
  }

  -- the route of a local network
  abbrev pub local_candidates : Prefix → List Candidate
  local_candidates prefix =
      if is_network setup.config prefix then candidate 0 (local_route setup.config) ∷ [] else []

  -- the routes that a prefix has, by rising source number
  abbrev pub candidates : Routed → Prefix → List Candidate
  candidates t prefix =
      local_candidates prefix
      ++ filter_map (λ p. option_map (candidate p) (value_at prefix_cmp (at_tables t p).adjin prefix))
      (peer_numbers sessions)

  -- the choice among some candidates is the best route; no candidate, no best route
  abbrev pub decided : Routed → Prefix → List Candidate → Routed
  decided t prefix [] = set_best t prefix None
  decided t prefix (first ∷ others) =
      let c = choose setup.manifest local (t.routing).engine prefix (first ∷ others) in
      set_best (ran_all t c.engine c.trace) prefix (Some (best_of (slice_index_or (first ∷ others) c.index first)))

  -- a prefix is decided
  unfoldable pub decide : Routed → Prefix → Routed
  decide t prefix = decided t prefix (candidates t prefix)

  -- ---- exporting a prefix to a peer (RFC 4271, section 9.2)

  -- what a best route became for a peer is advertised
  abbrev pub advertise : Routed → ℕ → Prefix → Exported → Routed
  advertise t p prefix x = set_adv (ran_all t x.engine x.trace) p prefix x.section

  -- a best route is exported; without one the prefix is not advertised
  abbrev pub export_best : Routed → ℕ → Prefix → Option Chosen → Routed
  export_best t p prefix None = set_adv t p prefix None
  export_best t p prefix (Some best) =
      advertise t p prefix
      (exported setup.manifest local (setup.config).local_pref (t.routing).engine (side p) (is_wide sessions p)
      (side best.source) prefix best.route)

  -- a prefix is exported to a peer, if its session is Established
  unfoldable pub export : Prefix → Routed → ℕ → Routed
  export prefix t p =
      if is_up sessions p then export_best t p prefix (value_at prefix_cmp (t.routing).best prefix) else t

  -- a prefix is decided, and exported to every Established peer
  unfoldable pub settle : Routed → Prefix → Routed
  settle t prefix = fold (export prefix) (decide t prefix) (peer_numbers sessions)

  -- each of some prefixes is settled once, by rising order
  unfoldable pub settle_all : Routed → List Prefix → Routed
  settle_all t ps = fold settle t (set_of prefix_cmp ps)

  -- every best route is exported to one peer
  unfoldable pub export_all : Routed → ℕ → Routed
  export_all t p = fold (λ u prefix. export prefix u p) t (keys_of (t.routing).best)

  -- ---- an UPDATE without fault (RFC 4271, section 9)

  -- one announced prefix: an accepted route with its edits enters the table, a rejected prefix leaves it
  unfoldable pub announce_one : ℕ → Route → ℕ → Routed → Prefix → Routed
  announce_one now route p t prefix =
      let c = inbound setup.manifest local (t.routing).engine now (side p) prefix route in
      let u = ran t Inbound c in
      if accepted c.outcome (accepts_inbound c.route local)
      then set_routes u p (with_value prefix_cmp (at_tables u p).adjin prefix c.route)
      else set_routes u p (without prefix_cmp (at_tables u p).adjin prefix)

  -- prefixes leave the table of a peer
  abbrev pub drop_all : Routed → ℕ → List Prefix → Routed
  drop_all t p ps = set_routes t p (without_all (at_tables t p).adjin ps)

  -- the announced prefixes of an UPDATE that receive keeps are taken in the order of the message; the others leave
  unfoldable pub receive_route : ℕ → Routed → ℕ → List ℕ → List Prefix → Route → Routed
  receive_route now t p body ps route =
      let c = receive setup.manifest local (t.routing).engine now (side p) route body in
      let u = ran t Receive c in
      if accepted c.outcome true then fold (announce_one now c.route p) u ps else drop_all u p ps

  -- no program sees a route that is too long once its AS numbers have four octets: its prefixes leave the table
  abbrev pub receive_if : Bool → ℕ → Routed → ℕ → List ℕ → List Prefix → Route → Routed
  receive_if true now t p body ps route = receive_route now t p body ps route
  receive_if false now t p body ps route = drop_all t p ps

  -- the route of a section that a peer sent: LOCAL_PREF of an external peer is removed, and AS numbers have four octets
  abbrev pub route_in : ℕ → List ℕ → Route
  route_in p section = inflow (as_received (side p) (route_of section)) (is_wide sessions p)

  -- the announced prefixes of an UPDATE
  unfoldable pub announce : ℕ → Routed → ℕ → List ℕ → Update → List Prefix → Routed
  announce now t p body u ps =
      let route = route_in p u.section in
      receive_if (nat_le (length (canon route)) MAX_MESSAGE) now t p body ps route

  -- withdrawn prefixes that are not announced as well leave the table
  unfoldable pub withdraw : Routed → ℕ → Update → Routed
  withdraw t p u =
      drop_all t p (filter (λ w. not (list_any (same_prefix w) (prefixes u.nlri))) (prefixes u.withdrawn))

  -- the routes of an UPDATE; no program runs if nothing is announced
  abbrev pub routes_of : ℕ → Routed → ℕ → List ℕ → Update → List Prefix → Routed
  routes_of now t p body u [] = withdraw t p u
  routes_of now t p body u (prefix ∷ ps) = withdraw (announce now t p body u (prefix ∷ ps)) p u

  -- an UPDATE at a time: its routes, and then each prefix that it names is settled
  unfoldable pub update : ℕ → Routed → ℕ → List ℕ → Routed
  update now t p body =
      let u = update_parts body in
      settle_all (routes_of now t p body u (prefixes u.nlri)) (prefixes u.withdrawn ++ prefixes u.nlri)

  -- a session went down: the tables of its peer go, and the prefixes that it had sent are settled
  unfoldable pub lose : Routed → ℕ → Routed
  lose t p = settle_all (set_tables t p no_tables) (keys_of (at_tables t p).adjin)

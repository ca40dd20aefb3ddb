-- What a rib shows, by the ids of records that its tables hold (this project's own).
use Rattle.std.specs.Prelude.{ℕ, ◌-◌, ◌+◌, ◌==◌, ◌≡◌, ◌<◌, ◌≤◌, List, [], map, Option, Some, None, if◌then◌else◌}
use Rattle.std.specs.Option.{option_map}
use Rattle.std.specs.List.{slice_index_or, slice_set, sum_by}
use Rattle.std.specs.Map.{values_of}
use Rattle.xb_words.specs.Table.{value_at, with_value, without, IsRising}
use Rattle.xb_values.specs.Prefixes.{Prefix, Sections, prefix_cmp}
use Rattle.bgp_attr.specs.Routes.{Route}
use Rattle.xbgp_view.specs.Views.{Routes}
use Rattle.spk_model.specs.Routing.{Tables, no_tables}
use Rattle.spk_model.specs.Routing.{Chosen as Best}
use Rattle.spk_routes.specs.Sound.{IsSound}
use Rattle.attr_intern.specs.Pools.{Records, Owned, owners_at, record_at, released, route_at, most_owners, ArePooled}
use Rattle.host_interned.specs.declared.chosen.Chosen.{Chosen}
use Rattle.host_interned.specs.declared.tables.PeerTables.{PeerTables}

-- ---- what ids mean

-- the route of a record, if there is one
abbrev pub route_or : Option Route → Route
route_or None = []
route_or (Some route) = route

-- the route that an id means
abbrev pub meant : Records → ℕ → Route
meant records id = route_or (route_at records id)

-- a table of ids as the routes that they mean
abbrev pub routes_by : Records → List (Prefix × ℕ) → Routes
routes_by records ids = map (λ e. (e.0, meant records e.1)) ids

-- best routes by ids as the routes that they mean
abbrev pub best_by : Records → List (Prefix × Chosen) → List (Prefix × Best)
best_by records chosen =
    map (λ e. (e.0, record { source = (e.1).source; route = meant records (e.1).«record» })) chosen

-- the tables of a peer by ids
abbrev pub tables_by : Records → PeerTables → Tables
tables_by records t = record { adjin = routes_by records t.sent; adv = (t.out).adv; told = (t.out).told }

-- ---- what a rib shows

-- the speaker's own route, the best routes, the tables of the peers; and the ids of the best routes, and the records
pub record RibView : Type 0 where
  pub own : Route
  pub best : List (Prefix × Best)
  pub tables : List Tables
  pub chosen : List (Prefix × Chosen)
  pub records : Records

abbrev pub rib_of : Records → ℕ → List (Prefix × Chosen) → List PeerTables → RibView
rib_of records own chosen peers = record {
  own = meant records own;
  best = best_by records chosen;
  tables = map (tables_by records) peers;
  chosen = chosen;
  records = records;
}

-- a rib shows these routes, whatever its records are
pub record Shows (own : Route) (best : List (Prefix × Best)) (tables : List Tables) (r : RibView) : Type 0 where
  pub own_is : r.own ≡ own
  pub best_is : r.best ≡ best
  pub tables_are : r.tables ≡ tables

-- the sources of best routes by prefix: by ids, and as they are
abbrev pub sources_by : List (Prefix × Chosen) → List (Prefix × ℕ)
sources_by chosen = map (λ e. (e.0, (e.1).source)) chosen

abbrev pub sources_of : List (Prefix × Best) → List (Prefix × ℕ)
sources_of best = map (λ e. (e.0, (e.1).source)) best

-- the routes of best routes by prefix: those of ids, if they live, and those of routes that are there
abbrev pub living_by : Records → List (Prefix × Chosen) → List (Prefix × Option Route)
living_by records chosen = map (λ e. (e.0, route_at records (e.1).«record»)) chosen

abbrev pub living_of : List (Prefix × Best) → List (Prefix × Option Route)
living_of best = map (λ e. (e.0, Some (e.1).route)) best

-- the tables of a peer, by its number from 1
abbrev pub tables_in : RibView → ℕ → Tables
tables_in r p = slice_index_or r.tables (p - 1) no_tables

-- the tables of all peers after one peer got others
abbrev pub with_peer : RibView → ℕ → Tables → List Tables
with_peer r p t = slice_set r.tables (p - 1) t

-- and after it got other routes that it sent
abbrev pub with_sent : RibView → ℕ → Routes → List Tables
with_sent r p routes = with_peer r p (record (tables_in r p) { adjin = routes })

-- and after it is advertised others
abbrev pub with_adv : RibView → ℕ → Sections → List Tables
with_adv r p adv = with_peer r p (record (tables_in r p) { adv = adv })

-- the route of a source at a prefix: the speaker's own, or what a peer sent
abbrev pub route_from : Route → List Tables → ℕ → Prefix → Option Route
route_from own tables source prefix =
    if source == 0 then Some own
    else value_at prefix_cmp (slice_index_or tables (source - 1) no_tables).adjin prefix

-- a source's route at a prefix as a best route
abbrev pub best_from : Route → List Tables → ℕ → Prefix → Option Best
best_from own tables source prefix =
    option_map (λ route. record { source = source; route = route }) (route_from own tables source prefix)

-- the best routes with another best route of a prefix, or none
abbrev pub with_best : List (Prefix × Best) → Prefix → Option Best → List (Prefix × Best)
with_best best prefix None = without prefix_cmp best prefix
with_best best prefix (Some b) = with_value prefix_cmp best prefix b

-- ---- owners

-- one, if two ids are the same
abbrev pub same_id : ℕ → ℕ → ℕ
same_id id other = if id == other then 1 else 0

-- how often a table holds an id
abbrev pub times_sent : ℕ → PeerTables → ℕ
times_sent id t = sum_by (same_id id) (values_of t.sent)

abbrev pub times_chosen : ℕ → List (Prefix × Chosen) → ℕ
times_chosen id chosen = sum_by (λ c. same_id id c.«record») (values_of chosen)

-- how often a rib holds an id
abbrev pub times_held : ℕ → ℕ → List (Prefix × Chosen) → List PeerTables → ℕ
times_held id own chosen peers = same_id id own + times_chosen id chosen + sum_by (times_sent id) peers

-- the records after the owner of an id gave it up, if there was one
abbrev pub given_up : Records → Option ℕ → Records
given_up records None = records
given_up records (Some id) = released records id

-- each record has an owner for each time that an id is held, if it has fewer than the greatest number
abbrev pub AreOwned : Records → (ℕ → ℕ) → Type 0
AreOwned records held = (id : ℕ) → owners_at records id < most_owners → held id ≤ owners_at records id

-- each record is sound
abbrev pub AreSound : Records → Type 0
AreSound records = (id : ℕ) (o : Owned) → record_at records id ≡ Some o → IsSound o.route

-- what the private fields of a rib keep
pub record IsKept (records : Records) (own : ℕ) (chosen : List (Prefix × Chosen)) (peers : List PeerTables)
    : Type 0 where
  pub owned : AreOwned records (λ id. times_held id own chosen peers)
  pub sound : AreSound records
  pub rising : IsRising prefix_cmp chosen
  pub pooled : ArePooled records

-- The best of the routes that a prefix has (for the functions of decision.rt).
use Rattle.std.specs.Prelude.{◌≡◌, ◌≤◌, ◌-◌, ℕ, List, [], ◌∷◌, length, Option, Some, None, IfSome, IsSome}
use Rattle.std.specs.List.{slice_index_or, All}
use Rattle.xb_words.specs.Table.{value_at}
use Rattle.xb_values.specs.Prefixes.{Prefix, prefix_cmp}
use Rattle.xb_domain.specs.declared.side.Side.{Side}
use Rattle.bgp_attr.specs.Routes.{Route}
use Rattle.bgp_fsm.specs.Sessions.{Owned}
use Rattle.xbgp_config.specs.Configs.{Config}
use Rattle.xbgp_manifest.specs.Manifests.{Manifest}
use Rattle.xbgp_points.specs.Engines.{Kept}
use Rattle.xbgp_points.specs.Points.{Engine}
use Rattle.spk_model.specs.Choosing.{Candidate}
use Rattle.spk_model.specs.Sources.{is_network, local_route}
use Rattle.spk_model.specs.Tournaments.{choose}
use Rattle.spk_model.specs.Routing.{Chosen, Tables, no_tables, best_of}
use Rattle.spk_routes.specs.Candidates.{found_in, AreGood}
use Rattle.host_interned.specs.Ribs.{best_from, route_from}

-- what a peer sent of a prefix
abbrev pub sent_in : List Tables → Prefix → ℕ → Option Route
sent_in tables prefix p = value_at prefix_cmp (slice_index_or tables (p - 1) no_tables).adjin prefix

-- the routes that a prefix has, of the first n peers
abbrev pub candidates_to : Config → List Owned → List Tables → Prefix → ℕ → List Candidate
candidates_to config sessions tables prefix n =
    found_in config sessions (is_network config prefix) (sent_in tables prefix) n

-- and of all peers
abbrev pub candidates_in : Config → List Owned → List Tables → Prefix → List Candidate
candidates_in config sessions tables prefix = candidates_to config sessions tables prefix (length tables)

-- those of the first n peers were found
pub record AreFound (config : Config) (sessions : List Owned) (tables : List Tables) (prefix : Prefix) (n : ℕ)
    (found : List Candidate) : Type 0 where
  pub all : found ≡ candidates_to config sessions tables prefix n
  pub good : AreGood config sessions n found
  pub sources : All (λ c. route_from (local_route config) tables (c.side).number prefix ≡ Some c.route) found

-- the best of some candidates, if there are any
abbrev pub winner_of : Manifest → Side → Engine → Prefix → List Candidate → Option Chosen
winner_of manifest local engine prefix [] = None
winner_of manifest local engine prefix (first ∷ others) =
    let c = choose manifest local engine prefix (first ∷ others) in
    Some (best_of (slice_index_or (first ∷ others) c.index first))

-- the best route of a source, if there is one
abbrev pub best_if : Route → List Tables → Option ℕ → Prefix → Option Chosen
best_if own tables None prefix = None
best_if own tables (Some source) prefix = best_from own tables source prefix

-- the source of the best of the routes that a prefix has was found, and programs may have run
pub record IsWinner (config : Config) (old new : Kept) (tables : List Tables) (sessions : List Owned) (prefix : Prefix)
    (source : Option ℕ) : Type 0 where
  pub best_is : best_if (local_route config) tables source prefix
      ≡ winner_of old.manifest old.local old.engine prefix (candidates_in config sessions tables prefix)
  pub known : IfSome source (λ s. IsSome (route_from (local_route config) tables s prefix))
  pub within : IfSome source (λ s. s ≤ length config.peers)
  pub engine :
      new.engine
      ≡ (choose old.manifest old.local old.engine prefix (candidates_in config sessions tables prefix)).engine
  pub manifest : new.manifest ≡ old.manifest
  pub local : new.local ≡ old.local

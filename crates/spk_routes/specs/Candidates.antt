-- The candidates of a prefix, by what the peers sent of it (RFC 4271, section 9.1; the order of candidates is this
-- project's own).
use Rattle.std.specs.Prelude.{◌≡◌, ◌≢◌, ◌≤◌, ◌+◌, length, ℕ, Bool, List, [], ◌∷◌, ◌++◌, map, filter_map, Option}
use Rattle.std.specs.Prelude.{if◌then◌else◌}
use Rattle.std.specs.Option.{option_map}
use Rattle.std.specs.List.{range_with_len, All, AllPairs}
use Rattle.bgp_attr.specs.Routes.{Route}
use Rattle.bgp_fsm.specs.Sessions.{Owned}
use Rattle.spk_native.specs.Decision.{rank}
use Rattle.spk_native.specs.Values.{next_hop}
use Rattle.xbgp_config.specs.Configs.{Config}
use Rattle.spk_model.specs.Choosing.{Candidate}
use Rattle.spk_model.specs.Sources.{side_of, cost_of, local_route}
use Rattle.xb_domain.specs.declared.side.Side.{Side}
use Rattle.spk_routes.specs.Sound.{IsSound}
use Rattle.spk_routes.specs.declared.contenders.Contender.{Contender}
use Rattle.spk_routes.specs.declared.contenders.Contenders.{Contenders}

-- a route of a side as a candidate
abbrev pub candidate_of : Config → Side → Route → Candidate
candidate_of config side route = record {
  route = route;
  side = side;
  rank = rank route side config.local_pref (cost_of config (next_hop route));
}

-- the candidates of a prefix that is a local network or not, by what each of the first n peers sent of it
abbrev pub found_in : Config → List Owned → Bool → (ℕ → Option Route) → ℕ → List Candidate
found_in config sessions is_local sent n =
    (if is_local then candidate_of config (side_of config sessions 0) (local_route config) ∷ [] else [])
    ++ filter_map (λ p. option_map (candidate_of config (side_of config sessions p)) (sent p)) (range_with_len 1 n)

-- what the candidates of a prefix that the first n peers sent are: they are few, their routes are sound, and each is of
-- one of the parties, whose addresses differ
pub record AreGood (config : Config) (sessions : List Owned) (n : ℕ) (cs : List Candidate) : Type 0 where
  pub few : length cs ≤ n + 1
  pub sound : All (λ c. IsSound c.route) cs
  pub apart : AllPairs (λ a b. (a.rank).address ≢ (b.rank).address) cs
  pub numbers : All (λ c. (c.side).number ≤ n) cs
  pub sides : All (λ c. (q : ℕ) × (q ≤ n) × (c.side ≡ side_of config sessions q)
      × ((c.rank).address ≡ (c.side).address)) cs

-- a candidate as its parts show it
abbrev pub shown_one : {R : Type 0} → (R → Route) → Contender R → Candidate
shown_one route c = record { route = route c.view.now; side = c.side; rank = c.rank }

-- the candidates as their parts show them
abbrev pub shown : {R : Type 0} → (R → Route) → Contenders R → List Candidate
shown route cs = map (shown_one route) cs.items.items

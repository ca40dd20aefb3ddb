-- The candidates that are gathered, the best of them, and what deciding leaves.
use Rattle.std.proofs.Common.{◌≡◌, ◌≤◌, ◌<◌, ◌-◌, ◌+◌, refl, sym, ◌∙◌, ap, subst, ℕ, Bool, true, false, List, [], ◌∷◌}
use Rattle.std.proofs.Common.{◌++◌, length, arith, get_or, Option, Some, None}
use Rattle.std.specs.Prelude.{IfSome, if◌then◌else◌}
use Rattle.std.specs.Option.{option_map}
use Rattle.std.specs.List.{slice_get, AllByRecursion}
use Rattle.std.specs.BTreeMap.{BTreeMap}
use Rattle.std.proofs.lemmas.List.{get_or_default}
use Rattle.std.proofs.lemmas.Option.{slice_get-get_or}
use Rattle.xb_words.specs.Table.{value_at, with_value, without}
use Rattle.xb_words.proofs.TableLemmas.{AllByRecursion-with_value, AllByRecursion-without}
use Rattle.xb_values.specs.Prefixes.{Prefix, prefix_cmp}
use Rattle.xb_domain.specs.declared.side.Side.{Side}
use Rattle.bgp_attr.specs.Routes.{Route}
use Rattle.bgp_fsm.specs.Sessions.{Owned}
use Rattle.xbgp_config.specs.Configs.{Config, IsConfig}
use Rattle.xbgp_manifest.specs.Manifests.{Manifest}
use Rattle.xbgp_points.specs.Engines.{Kept}
use Rattle.xbgp_points.specs.Points.{Engine}
use Rattle.spk_model.specs.declared.host.Setup.{Setup}
use Rattle.spk_model.specs.Choosing.{Candidate, Trace}
use Rattle.spk_model.specs.Sources.{side_of, local_route, is_network}
use Rattle.spk_model.specs.Tournaments.{choose}
use Rattle.spk_model.specs.Routing.{Chosen, Routing, Routed, Tables, no_tables, best_of, candidates, decide, decided}
use Rattle.spk_routes.specs.Candidates.{candidate_of, AreGood}
use Rattle.spk_routes.specs.Sound.{IsSound}
use Rattle.spk_routes.proofs.CandidatesLemmas.{with_one, found_more, one_more, none_good, own_good}
use Rattle.host_listed.specs.Deciding.{sent_in, candidates_to, candidates_in, winner_of, AreFound, IsWinner}
use Rattle.host_listed.specs.declared.routing.Core.{Core}
use Rattle.host_listed.specs.Meaning.{Does, IsReady, setup_of, routed}

-- before any peer
pub found_first : (config : Config) (sessions : List Owned) (tables : List Tables) (prefix : Prefix) (l : Bool)
    (found : List Candidate) → IsConfig config → IsSound (local_route config) → l ≡ is_network config prefix
    → found ≡ (if l then candidate_of config (side_of config sessions 0) (local_route config) ∷ [] else [])
    → AreFound config sessions tables prefix 0 found
found_first config sessions tables prefix true found kept own l_is is = record {
  all = is ∙ ap (λ (b : Bool). (if b then candidate_of config (side_of config sessions 0) (local_route config) ∷ [] else []) ++ []) l_is;
  good = subst (AreGood config sessions 0) (sym is) (own_good config sessions kept own);
}
found_first config sessions tables prefix false found kept own l_is is = record {
  all = is ∙ ap (λ (b : Bool). (if b then candidate_of config (side_of config sessions 0) (local_route config) ∷ [] else []) ++ []) l_is;
  good = subst (AreGood config sessions 0) (sym is) (none_good config sessions);
}

-- with one peer more
pub found_then : (config : Config) (sessions : List Owned) (tables : List Tables) (prefix : Prefix) (i : ℕ) (t : Tables)
    (found new : List Candidate) (o : Option Route) → IsConfig config → length tables ≡ length config.peers
    → i < length tables → t ≡ get_or tables i t → o ≡ value_at prefix_cmp t.adjin prefix → IfSome o IsSound
    → AreFound config sessions tables prefix i found
    → new ≡ with_one found (option_map (candidate_of config (side_of config sessions (i + 1))) o)
    → AreFound config sessions tables prefix (i + 1) new
found_then config sessions tables prefix i t found new o kept count inside t_is o_is sound so_far is =
    let next : i + 1 ≡ 1 + i = omega arith in
    let index : 1 + i - 1 ≡ i = omega arith in
    let there : o ≡ sent_in tables prefix (1 + i) =
    o_is
    ∙ ap (λ (x : Tables). value_at prefix_cmp x.adjin prefix) (t_is ∙ get_or_default tables i t no_tables inside)
    ∙ ap (λ (k : ℕ). value_at prefix_cmp (get_or tables k no_tables).adjin prefix) (sym index) in
    let with_next : new ≡ with_one found (option_map (candidate_of config (side_of config sessions (1 + i))) o) =
    is ∙ ap (λ (k : ℕ). with_one found (option_map (candidate_of config (side_of config sessions k)) o)) next in
    record {
      all = with_next
          ∙ ap (λ (cs : List Candidate). with_one cs (option_map (candidate_of config (side_of config sessions (1 + i))) o))
          so_far.all
          ∙ ap (λ (x : Option Route). with_one (candidates_to config sessions tables prefix i)
          (option_map (candidate_of config (side_of config sessions (1 + i))) x)) there
          ∙ sym (found_more config sessions (is_network config prefix) (sent_in tables prefix) i);
      good = subst (AreGood config sessions (i + 1)) (sym with_next)
          (one_more config sessions i found o kept (omega (arith, inside, count)) sound so_far.good);
    }

-- no candidate, no best route
pub none_wins : (config : Config) (e : Kept) (tables : List Tables) (sessions : List Owned) (prefix : Prefix)
    (found : List Candidate) → AreFound config sessions tables prefix (length tables) found → length found ≡ 0
    → IsWinner config e e tables sessions prefix None
unfolding choose
none_wins config e tables sessions prefix [] are none = record {
  best_is = ap (winner_of e.manifest e.local e.engine prefix) are.all;
  source = tt;
  engine = ap (λ (cs : List Candidate). (choose e.manifest e.local e.engine prefix cs).engine) are.all;
  manifest = refl;
  local = refl;
}
none_wins config e tables sessions prefix (c ∷ found) are none = absurd (omega (arith, none))

-- the candidate at the index of the choice wins
chosen_is : (m : Manifest) (l : Side) (e : Engine) (prefix : Prefix) (cs : List Candidate) (i : ℕ) (side : Side) (route : Route)
    → i ≡ (choose m l e prefix cs).index → i < length cs → IfSome (slice_get cs i) (λ c. side ≡ c.side)
    → IfSome (slice_get cs i) (λ c. route ≡ c.route)
    → Some (record { source = side.number; route = route }) ≡ winner_of m l e prefix cs
chosen_is m l e prefix [] i side route i_is inside side_is route_is = absurd (omega (arith, inside))
chosen_is m l e prefix (first ∷ others) i side route i_is inside side_is route_is =
    let cs : List Candidate = first ∷ others in
    let at : slice_get cs i ≡ Some (get_or cs i first) = slice_get-get_or cs i first inside in
    let s : side ≡ (get_or cs i first).side = subst (λ (o : Option Candidate). IfSome o (λ c. side ≡ c.side)) at side_is in
    let r : route ≡ (get_or cs i first).route = subst (λ (o : Option Candidate). IfSome o (λ c. route ≡ c.route)) at route_is in
    ap (λ (x : Side). Some (record { source = x.number; route = route })) s
    ∙ ap (λ (x : Route). Some (record { source = ((get_or cs i first).side).number; route = x })) r
    ∙ ap (λ (k : ℕ). Some (best_of (get_or cs k first))) i_is

number_within : (n : ℕ) (cs : List Candidate) (i : ℕ) (side : Side) → ((k : ℕ) (d : Candidate) → k < length cs → ((get_or cs k d).side).number ≤ n)
    → i < length cs → IfSome (slice_get cs i) (λ c. side ≡ c.side) → side.number ≤ n
number_within n [] i side all inside is = absurd (omega (arith, inside))
number_within n (first ∷ others) i side all inside is =
    let cs : List Candidate = first ∷ others in
    let s : side ≡ (get_or cs i first).side =
    subst (λ (o : Option Candidate). IfSome o (λ c. side ≡ c.side)) (slice_get-get_or cs i first inside) is in
    subst (λ (x : Side). x.number ≤ n) (sym s) (all i first inside)

pub one_wins : (config : Config) (old new : Kept) (tables : List Tables) (sessions : List Owned) (prefix : Prefix)
    (found : List Candidate) (i : ℕ) (side : Side) (number : ℕ) (route : Route) (b : Chosen)
    → AreFound config sessions tables prefix (length tables) found → length tables ≡ length config.peers
    → i ≡ (choose old.manifest old.local old.engine prefix found).index → i < length found
    → new.engine ≡ (choose old.manifest old.local old.engine prefix found).engine
    → new.manifest ≡ old.manifest → new.local ≡ old.local
    → IfSome (slice_get found i) (λ c. side ≡ c.side) → number ≡ side.number
    → IfSome (slice_get found i) (λ c. route ≡ c.route) → b ≡ record { source = number; route = route }
    → IsWinner config old new tables sessions prefix (Some b)
one_wins config old new tables sessions prefix found i side number route b are count i_is inside engine manifest local
    side_is number_is route_is b_is =
    let b_all : b ≡ record { source = side.number; route = route } =
    b_is ∙ ap (λ (n : ℕ). record { source = n; route = route }) number_is in
    let here : number ≤ length config.peers =
    subst (λ (n : ℕ). n ≤ length config.peers) (sym number_is)
    (subst (λ (n : ℕ). side.number ≤ n) count (number_within (length tables) found i side are.good.numbers inside side_is)) in
    record {
      best_is = ap Some b_all
          ∙ chosen_is old.manifest old.local old.engine prefix found i side route i_is inside side_is route_is
          ∙ ap (winner_of old.manifest old.local old.engine prefix) are.all;
      source = subst (λ (x : Chosen). x.source ≤ length config.peers) (sym b_is) here;
      engine = engine ∙ ap (λ (cs : List Candidate). (choose old.manifest old.local old.engine prefix cs).engine) are.all;
      manifest = manifest;
      local = local;
    }

-- a sound route is taken
pub sound_at : (cs : List Candidate) (i : ℕ) (route : Route) → ((k : ℕ) (d : Candidate) → k < length cs → IsSound (get_or cs k d).route)
    → i < length cs → IfSome (slice_get cs i) (λ c. route ≡ c.route) → IsSound route
sound_at [] i route all inside is = absurd (omega (arith, inside))
sound_at (first ∷ others) i route all inside is =
    let cs : List Candidate = first ∷ others in
    let r : route ≡ (get_or cs i first).route =
    subst (λ (o : Option Candidate). IfSome o (λ c. route ≡ c.route)) (slice_get-get_or cs i first inside) is in
    subst IsSound (sym r) (all i first inside)

-- the best routes with another best route of a prefix, or none
abbrev pub best_after : List (Prefix × Chosen) → Prefix → Option Chosen → List (Prefix × Chosen)
best_after best prefix None = without prefix_cmp best prefix
best_after best prefix (Some b) = with_value prefix_cmp best prefix b

decided_routing : (setup : Setup) (sessions : List Owned) (t : Routed) (prefix : Prefix) (cs : List Candidate)
    → (decided setup sessions t prefix cs).routing ≡ record {
      best = best_after (t.routing).best prefix
          (winner_of setup.manifest (setup.config).local (t.routing).engine prefix cs);
      engine = (choose setup.manifest (setup.config).local (t.routing).engine prefix cs).engine;
      tables = (t.routing).tables;
    }
unfolding choose
decided_routing setup sessions t prefix [] = refl
decided_routing setup sessions t prefix (first ∷ others) = refl

all_sources : (n : ℕ) (best : List (Prefix × Chosen)) (prefix : Prefix) (o : Option Chosen)
    → AllByRecursion (λ e. e.1.source ≤ n) best → IfSome o (λ b. b.source ≤ n)
    → AllByRecursion (λ e. e.1.source ≤ n) (best_after best prefix o)
all_sources n best prefix None all here = AllByRecursion-without prefix_cmp (λ e. e.1.source ≤ n) best prefix all
all_sources n best prefix (Some b) all here =
    AllByRecursion-with_value prefix_cmp (λ e. e.1.source ≤ n) best prefix b here (λ e q h. here) all

-- the engine and the best routes change when a prefix is decided
abbrev pub decided_core : Core → Kept → BTreeMap Prefix Chosen → Core
decided_core a e best = record a { engine = e; best = best }

pub decides : (a : Core) (e : Kept) (best : BTreeMap Prefix Chosen) (sessions : List Owned) (prefix : Prefix) (o : Option Chosen)
    → IsReady a → length sessions ≡ length a.config.peers
    → IsWinner a.config a.engine e a.peers.items sessions prefix o
    → best.entries ≡ best_after a.best.entries prefix o
    → Does (λ setup t. decide setup sessions t prefix) a (decided_core a e best)
unfolding decide
decides a e best sessions prefix o ready all wins entries =
    let cs : List Candidate = candidates_in a.config sessions a.peers.items prefix in
    let same : (trace : Trace) → candidates (setup_of a) sessions (routed trace a) prefix ≡ cs =
    λ trace. ap (candidates_to a.config sessions a.peers.items prefix) (all ∙ sym ready.count) in
    let from : Side → Routing = λ l. record {
      best = best_after a.best.entries prefix (winner_of a.engine.manifest l a.engine.engine prefix cs);
      engine = (choose a.engine.manifest l a.engine.engine prefix cs).engine;
      tables = a.peers.items;
    } in
    record {
      ready = record {
        few = ready.few;
        local = wins.local ∙ ready.local;
        own = ready.own;
        count = ready.count;
        sources = subst (AllByRecursion (λ e. e.1.source ≤ length a.config.peers)) (sym entries)
            (all_sources (length a.config.peers) a.best.entries prefix o ready.sources wins.source);
      };
      setup = ap (λ (m : Manifest). record { config = a.config; manifest = m }) wins.manifest;
      routing = λ trace.
          ap (λ (xs : List Candidate). (decided (setup_of a) sessions (routed trace a) prefix xs).routing) (same trace)
          ∙ decided_routing (setup_of a) sessions (routed trace a) prefix cs
          ∙ ap from (sym ready.local)
          ∙ ap (λ (b : List (Prefix × Chosen)). record {
            best = b;
            engine = (choose a.engine.manifest a.engine.local a.engine.engine prefix cs).engine;
            tables = a.peers.items;
          })
          (ap (best_after a.best.entries prefix) (sym wins.best_is) ∙ sym entries)
          ∙ ap (λ (x : Engine). record { best = best.entries; engine = x; tables = a.peers.items }) (sym wins.engine);
    }

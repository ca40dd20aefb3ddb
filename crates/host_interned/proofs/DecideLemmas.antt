-- The candidates that are gathered, the best of them, and what deciding leaves.
use Rattle.std.proofs.Common.{◌≡◌, ◌≤◌, ◌<◌, ◌+◌, refl, sym, ◌∙◌, ap, subst, ℕ, suc, Bool, true, false, List}
use Rattle.std.proofs.Common.{[], ◌∷◌, ◌++◌, length, arith, get_or, Option, Some, None}
use Rattle.std.specs.Prelude.{IfSome, IsSome, if◌then◌else◌}
use Rattle.std.specs.Option.{option_map}
use Rattle.std.specs.List.{slice_get, AllByRecursion}
use Rattle.std.specs.List.{All}
use Rattle.std.proofs.Math.Dec.{eqb-suc-zero}
use Rattle.std.proofs.lemmas.List.Elements.{All-push}
use Rattle.std.proofs.lemmas.Option.{slice_get-get_or}
use Rattle.xb_words.proofs.TableLemmas.{AllByRecursion-with_value, AllByRecursion-without}
use Rattle.xb_values.specs.Prefixes.{Prefix, prefix_cmp}
use Rattle.xb_domain.specs.declared.side.Side.{Side}
use Rattle.bgp_attr.specs.Routes.{Route}
use Rattle.bgp_fsm.specs.Sessions.{Owned}
use Rattle.xbgp_config.specs.Configs.{Config, IsConfig}
use Rattle.xbgp_manifest.specs.Manifests.{Manifest}
use Rattle.xbgp_points.specs.Engines.{Kept}
use Rattle.xbgp_points.specs.Points.{Engine}
use Rattle.spk_model.specs.declared.host.Setup.{Setup}
use Rattle.spk_model.specs.Choosing.{Candidate, Trace}
use Rattle.spk_model.specs.Sources.{side_of, local_route, is_network}
use Rattle.spk_model.specs.Tournaments.{choose}
use Rattle.spk_model.specs.Routing.{Chosen, Routing, Routed, Tables, best_of, candidates, decide, decided}
use Rattle.spk_routes.specs.Candidates.{candidate_of, AreGood}
use Rattle.spk_routes.specs.Sound.{IsSound}
use Rattle.spk_routes.proofs.CandidatesLemmas.{with_one, found_more, one_more, none_good, own_good}
use Rattle.host_interned.specs.Ribs.{RibView, Shows, route_from, with_best}
use Rattle.host_interned.specs.Deciding.{sent_in, best_if, candidates_to, candidates_in, winner_of, AreFound, IsWinner}
use Rattle.host_interned.specs.declared.routing.Core.{Core}
use Rattle.host_interned.specs.Meaning.{Does, IsReady, setup_of, routed}
use Rattle.host_interned.proofs.ShownLemmas.{changed_core, ready_shown, routing_shown}

-- a candidate has the route that its source has
abbrev pub OfSource : Config → List Tables → Prefix → Candidate → Type 0
OfSource config tables prefix c =
    route_from (local_route config) tables (c.side).number prefix ≡ Some c.route

-- before any peer
pub found_first : (config : Config) (sessions : List Owned) (tables : List Tables) (prefix : Prefix) (l : Bool)
    (found : List Candidate) → IsConfig config → IsSound (local_route config) → l ≡ is_network config prefix
    → found ≡ (if l then candidate_of config (side_of config sessions 0) (local_route config) ∷ [] else [])
    → AreFound config sessions tables prefix 0 found
found_first config sessions tables prefix true found kept own l_is is = record {
  all = is ∙ ap (λ (b : Bool).
      (if b then candidate_of config (side_of config sessions 0) (local_route config) ∷ [] else []) ++ []) l_is;
  good = subst (AreGood config sessions 0) (sym is) (own_good config sessions kept own);
  sources = subst (All (OfSource config tables prefix)) (sym is)
      (All-push (OfSource config tables prefix) []
      (candidate_of config (side_of config sessions 0) (local_route config))
      (λ k d inside. absurd (omega (arith, inside)))
      (ap (λ (n : ℕ). route_from (local_route config) tables n prefix) (kept.speaker.0)));
}
found_first config sessions tables prefix false found kept own l_is is = record {
  all = is ∙ ap (λ (b : Bool).
      (if b then candidate_of config (side_of config sessions 0) (local_route config) ∷ [] else []) ++ []) l_is;
  good = subst (AreGood config sessions 0) (sym is) (none_good config sessions);
  sources = subst (All (OfSource config tables prefix)) (sym is) (λ k d inside. absurd (omega (arith, inside)));
}

number_suc : (config : Config) (sessions : List Owned) (p : ℕ) → (side_of config sessions (suc p)).number ≡ suc p
number_suc config sessions p = rw (eqb-suc-zero p, side_of) refl

-- a peer's number as a party
number_peer : (config : Config) (sessions : List Owned) (n : ℕ) → (side_of config sessions (1 + n)).number ≡ 1 + n
number_peer config sessions n =
    let e : suc n ≡ 1 + n = omega arith in
    subst (λ (p : ℕ). (side_of config sessions p).number ≡ p) e (number_suc config sessions n)

from_suc : (own : Route) (tables : List Tables) (prefix : Prefix) (p : ℕ)
    → route_from own tables (suc p) prefix ≡ sent_in tables prefix (suc p)
from_suc own tables prefix p =
    ap (λ (b : Bool). if b then Some own else sent_in tables prefix (suc p)) (eqb-suc-zero p)

-- what the source of a peer's number has is what it sent
from_peer : (own : Route) (tables : List Tables) (prefix : Prefix) (n : ℕ)
    → route_from own tables (1 + n) prefix ≡ sent_in tables prefix (1 + n)
from_peer own tables prefix n =
    let e : suc n ≡ 1 + n = omega arith in
    subst (λ (p : ℕ). route_from own tables p prefix ≡ sent_in tables prefix p) e (from_suc own tables prefix n)

sources_more : (config : Config) (sessions : List Owned) (tables : List Tables) (prefix : Prefix) (n : ℕ)
    (cs : List Candidate) (o : Option Route) → o ≡ sent_in tables prefix (1 + n)
    → All (OfSource config tables prefix) cs
    → All (OfSource config tables prefix)
    (with_one cs (option_map (candidate_of config (side_of config sessions (1 + n))) o))
sources_more config sessions tables prefix n cs None is all = all
sources_more config sessions tables prefix n cs (Some r) is all =
    All-push (OfSource config tables prefix) cs (candidate_of config (side_of config sessions (1 + n)) r) all
    (ap (λ (k : ℕ). route_from (local_route config) tables k prefix) (number_peer config sessions n)
    ∙ from_peer (local_route config) tables prefix n ∙ sym is)

-- with one peer more
pub found_then : (config : Config) (sessions : List Owned) (tables : List Tables) (prefix : Prefix) (i : ℕ)
    (found new : List Candidate) (o : Option Route) → IsConfig config → length tables ≡ length config.peers
    → i < length tables → o ≡ sent_in tables prefix (i + 1) → IfSome o IsSound
    → AreFound config sessions tables prefix i found
    → new ≡ with_one found (option_map (candidate_of config (side_of config sessions (i + 1))) o)
    → AreFound config sessions tables prefix (i + 1) new
found_then config sessions tables prefix i found new o kept count inside o_is sound so_far is =
    let next : i + 1 ≡ 1 + i = omega arith in
    let there : o ≡ sent_in tables prefix (1 + i) = o_is ∙ ap (sent_in tables prefix) next in
    let with_next : new ≡ with_one found (option_map (candidate_of config (side_of config sessions (1 + i))) o) =
    is ∙ ap (λ (k : ℕ). with_one found (option_map (candidate_of config (side_of config sessions k)) o)) next in
    record {
      all = with_next
          ∙ ap (λ (cs : List Candidate). with_one cs
          (option_map (candidate_of config (side_of config sessions (1 + i))) o))
          so_far.all
          ∙ ap (λ (x : Option Route). with_one (candidates_to config sessions tables prefix i)
          (option_map (candidate_of config (side_of config sessions (1 + i))) x)) there
          ∙ sym (found_more config sessions (is_network config prefix) (sent_in tables prefix) i);
      good = subst (AreGood config sessions (i + 1)) (sym with_next)
          (one_more config sessions i found o kept (omega (arith, inside, count)) sound so_far.good);
      sources = subst (All (OfSource config tables prefix)) (sym with_next)
          (sources_more config sessions tables prefix i found o there so_far.sources);
    }

-- no candidate, no best route
pub none_wins : (config : Config) (e : Kept) (tables : List Tables) (sessions : List Owned) (prefix : Prefix)
    (found : List Candidate) → AreFound config sessions tables prefix (length tables) found → length found ≡ 0
    → IsWinner config e e tables sessions prefix None
unfolding choose
none_wins config e tables sessions prefix [] are none = record {
  best_is = ap (winner_of e.manifest e.local e.engine prefix) are.all;
  known = tt;
  within = tt;
  engine = ap (λ (cs : List Candidate). (choose e.manifest e.local e.engine prefix cs).engine) are.all;
  manifest = refl;
  local = refl;
}
none_wins config e tables sessions prefix (c ∷ found) are none = absurd (omega (arith, none))

-- the candidate at the index of the choice wins
chosen_is : (m : Manifest) (l : Side) (e : Engine) (prefix : Prefix) (cs : List Candidate) (i : ℕ) (side : Side)
    (route : Route)
    → i ≡ (choose m l e prefix cs).index → i < length cs → IfSome (slice_get cs i) (λ c. side ≡ c.side)
    → IfSome (slice_get cs i) (λ c. route ≡ c.route)
    → Some (record { source = side.number; route = route }) ≡ winner_of m l e prefix cs
chosen_is m l e prefix [] i side route i_is inside side_is route_is = absurd (omega (arith, inside))
chosen_is m l e prefix (first ∷ others) i side route i_is inside side_is route_is =
    let cs : List Candidate = first ∷ others in
    let at : slice_get cs i ≡ Some (get_or cs i first) = slice_get-get_or cs i first inside in
    let s : side ≡ (get_or cs i first).side =
    subst (λ (o : Option Candidate). IfSome o (λ c. side ≡ c.side)) at side_is in
    let r : route ≡ (get_or cs i first).route =
    subst (λ (o : Option Candidate). IfSome o (λ c. route ≡ c.route)) at route_is in
    ap (λ (x : Side). Some (record { source = x.number; route = route })) s
    ∙ ap (λ (x : Route). Some (record { source = ((get_or cs i first).side).number; route = x })) r
    ∙ ap (λ (k : ℕ). Some (best_of (get_or cs k first))) i_is

number_within : (n : ℕ) (cs : List Candidate) (i : ℕ) (side : Side)
    → ((k : ℕ) (d : Candidate) → k < length cs → ((get_or cs k d).side).number ≤ n)
    → i < length cs → IfSome (slice_get cs i) (λ c. side ≡ c.side) → side.number ≤ n
number_within n [] i side all inside is = absurd (omega (arith, inside))
number_within n (first ∷ others) i side all inside is =
    let cs : List Candidate = first ∷ others in
    let s : side ≡ (get_or cs i first).side =
    subst (λ (o : Option Candidate). IfSome o (λ c. side ≡ c.side)) (slice_get-get_or cs i first inside) is in
    subst (λ (x : Side). x.number ≤ n) (sym s) (all i first inside)

-- what the source of the candidate at an index has
source_has : (config : Config) (tables : List Tables) (prefix : Prefix) (cs : List Candidate) (i : ℕ) (side : Side)
    → All (OfSource config tables prefix) cs → i < length cs → IfSome (slice_get cs i) (λ c. side ≡ c.side)
    → (route : Route) × (route_from (local_route config) tables side.number prefix ≡ Some route)
    × IfSome (slice_get cs i) (λ c. route ≡ c.route)
source_has config tables prefix [] i side all inside is = absurd (omega (arith, inside))
source_has config tables prefix (first ∷ others) i side all inside is =
    let cs : List Candidate = first ∷ others in
    let there : slice_get cs i ≡ Some (get_or cs i first) = slice_get-get_or cs i first inside in
    let s : side ≡ (get_or cs i first).side =
    subst (λ (o : Option Candidate). IfSome o (λ c. side ≡ c.side)) there is in (
      (get_or cs i first).route,
      ap (λ (x : Side). route_from (local_route config) tables x.number prefix) s ∙ all i first inside,
      subst (λ (o : Option Candidate). IfSome o (λ c. (get_or cs i first).route ≡ c.route)) (sym there) refl,
    )

is_known : (o : Option Route) (route : Route) → o ≡ Some route → IsSome o
is_known o route is = subst IsSome (sym is) refl

pub one_wins : (config : Config) (old new : Kept) (tables : List Tables) (sessions : List Owned) (prefix : Prefix)
    (found : List Candidate) (i : ℕ) (side : Side) (number : ℕ)
    → AreFound config sessions tables prefix (length tables) found → length tables ≡ length config.peers
    → i ≡ (choose old.manifest old.local old.engine prefix found).index → i < length found
    → new.engine ≡ (choose old.manifest old.local old.engine prefix found).engine
    → new.manifest ≡ old.manifest → new.local ≡ old.local
    → IfSome (slice_get found i) (λ c. side ≡ c.side) → number ≡ side.number
    → IsWinner config old new tables sessions prefix (Some number)
one_wins config old new tables sessions prefix found i side number are count i_is inside engine manifest local
    side_is number_is =
    let has = source_has config tables prefix found i side are.sources inside side_is in
    let here : route_from (local_route config) tables number prefix ≡ Some has.0 =
    ap (λ (n : ℕ). route_from (local_route config) tables n prefix) number_is ∙ has.1 in
    record {
      best_is = ap (option_map (λ (r : Route). record { source = number; route = r })) here
          ∙ ap (λ (n : ℕ). Some (record { source = n; route = has.0 })) number_is
          ∙ chosen_is old.manifest old.local old.engine prefix found i side has.0 i_is inside side_is has.2
          ∙ ap (winner_of old.manifest old.local old.engine prefix) are.all;
      known = is_known (route_from (local_route config) tables number prefix) has.0 here;
      within = subst (λ (n : ℕ). n ≤ length config.peers) (sym number_is)
          (subst (λ (n : ℕ). side.number ≤ n) count
          (number_within (length tables) found i side are.good.numbers inside side_is));
      engine = engine ∙ ap (λ (cs : List Candidate). (choose old.manifest old.local old.engine prefix cs).engine)
          are.all;
      manifest = manifest;
      local = local;
    }

decided_routing : (setup : Setup) (sessions : List Owned) (t : Routed) (prefix : Prefix) (cs : List Candidate)
    → (decided setup sessions t prefix cs).routing ≡ record {
      best = with_best (t.routing).best prefix
          (winner_of setup.manifest (setup.config).local (t.routing).engine prefix cs);
      engine = (choose setup.manifest (setup.config).local (t.routing).engine prefix cs).engine;
      tables = (t.routing).tables;
    }
unfolding choose
decided_routing setup sessions t prefix [] = refl
decided_routing setup sessions t prefix (first ∷ others) = refl

all_sources : (n : ℕ) (best : List (Prefix × Chosen)) (prefix : Prefix) (o : Option Chosen)
    → AllByRecursion (λ e. e.1.source ≤ n) best → IfSome o (λ b. b.source ≤ n)
    → AllByRecursion (λ e. e.1.source ≤ n) (with_best best prefix o)
all_sources n best prefix None all here = AllByRecursion-without prefix_cmp (λ e. e.1.source ≤ n) best prefix all
all_sources n best prefix (Some b) all here =
    AllByRecursion-with_value prefix_cmp (λ e. e.1.source ≤ n) best prefix b here (λ e q h. here) all

source_mapped : (n s : ℕ) (o : Option Route) → s ≤ n
    → IfSome (option_map (λ (r : Route). record { source = s; route = r }) o) (λ (b : Chosen). b.source ≤ n)
source_mapped n s None within = tt
source_mapped n s (Some r) within = within

-- a source's best route is a source's
source_of : (n : ℕ) (own : Route) (tables : List Tables) (o : Option ℕ) (prefix : Prefix) → IfSome o (λ s. s ≤ n)
    → IfSome (best_if own tables o prefix) (λ b. b.source ≤ n)
source_of n own tables None prefix within = tt
source_of n own tables (Some s) prefix within = source_mapped n s (route_from own tables s prefix) within

-- the engine and the best routes change when a prefix is decided
abbrev pub decided_core : Core → Kept → RibView → Core
decided_core a e r = changed_core a e r a.received a.route a.exporter

pub decides : (a : Core) (e : Kept) (r : RibView) (sessions : List Owned) (prefix : Prefix) (o : Option ℕ) → IsReady a
    → length sessions ≡ length a.config.peers → IsWinner a.config a.engine e a.rib.tables sessions prefix o
    → Shows a.rib.own (with_best a.rib.best prefix (best_if a.rib.own a.rib.tables o prefix)) a.rib.tables r
    → Does (λ setup t. decide setup sessions t prefix) a (decided_core a e r)
unfolding decide
decides a e r sessions prefix o ready all wins shows =
    let cs : List Candidate = candidates_in a.config sessions a.rib.tables prefix in
    let n : ℕ = length a.config.peers in
    let same : (trace : Trace) → candidates (setup_of a) sessions (routed trace a) prefix ≡ cs =
    λ trace. ap (candidates_to a.config sessions a.rib.tables prefix) (all ∙ sym ready.count) in
    let from : Side → Routing = λ l. record {
      best = with_best a.rib.best prefix (winner_of a.engine.manifest l a.engine.engine prefix cs);
      engine = (choose a.engine.manifest l a.engine.engine prefix cs).engine;
      tables = a.rib.tables;
    } in
    let won : best_if a.rib.own a.rib.tables o prefix
    ≡ winner_of a.engine.manifest a.engine.local a.engine.engine prefix cs =
    ap (λ (own : Route). best_if own a.rib.tables o prefix) ready.own ∙ wins.best_is in
    record {
      ready = ready_shown a e r a.received a.route a.exporter
          (with_best a.rib.best prefix (best_if a.rib.own a.rib.tables o prefix)) a.rib.tables ready wins.local shows
          refl
          (all_sources n a.rib.best prefix (best_if a.rib.own a.rib.tables o prefix) ready.sources
          (source_of n a.rib.own a.rib.tables o prefix wins.within));
      setup = ap (λ (m : Manifest). record { config = a.config; manifest = m }) wins.manifest;
      routing = λ trace.
          ap (λ (xs : List Candidate). (decided (setup_of a) sessions (routed trace a) prefix xs).routing) (same trace)
          ∙ decided_routing (setup_of a) sessions (routed trace a) prefix cs
          ∙ ap from (sym ready.local)
          ∙ ap (λ (b : Option Chosen). record {
            best = with_best a.rib.best prefix b;
            engine = (choose a.engine.manifest a.engine.local a.engine.engine prefix cs).engine;
            tables = a.rib.tables;
          })
          (sym won)
          ∙ ap (λ (x : Engine). record {
            best = with_best a.rib.best prefix (best_if a.rib.own a.rib.tables o prefix);
            engine = x;
            tables = a.rib.tables;
          })
          (sym wins.engine)
          ∙ routing_shown e.engine a.rib.own (with_best a.rib.best prefix (best_if a.rib.own a.rib.tables o prefix))
          a.rib.tables r shows;
    }

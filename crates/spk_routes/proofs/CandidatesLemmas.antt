-- What the candidates of a prefix are: they are few, their addresses differ, and their routes are sound.
use Rattle.std.proofs.Common.{◌≡◌, ◌≢◌, ◌≤◌, ◌<◌, ◌∙◌, ◌-◌, ◌+◌, refl, sym, ap, subst, ℕ, zero, suc, Bool}
use Rattle.std.proofs.Common.{List, [], ◌∷◌, ◌++◌, length, arith, Option, Some, None}
use Rattle.std.specs.Prelude.{IfSome, if◌then◌else◌, filter_map}
use Rattle.std.specs.Option.{option_map}
use Rattle.std.specs.List.{range_with_len, cons_option}
use Rattle.std.proofs.Math.Dec.{eqb-suc-zero}
use Rattle.std.proofs.lemmas.List.{append_assoc, length_push}
use Rattle.std.proofs.lemmas.List.Elements.{All-push, filter_map-append}
use Rattle.std.proofs.lemmas.List.Quantifiers.{all_pairs_push}
use Rattle.std.proofs.lemmas.Grind.{common_steps}
use Rattle.bgp_attr.specs.Routes.{Route}
use Rattle.bgp_fsm.specs.Sessions.{Owned}
use Rattle.xb_domain.specs.declared.side.Side.{Side}
use Rattle.xbgp_config.specs.Configs.{Config, IsConfig}
use Rattle.spk_model.specs.Choosing.{Candidate}
use Rattle.spk_model.specs.Sources.{side_of, entry_of, no_entry, local_route}
use Rattle.spk_routes.specs.Candidates.{candidate_of, found_in, AreGood}
use Rattle.spk_routes.specs.Sound.{IsSound}
use Rattle.spk_routes.proofs.RangeLemmas.{range_with_len-more}

-- the candidate of a peer, if it sent a route
abbrev pub one_of : Config → List Owned → (ℕ → Option Route) → ℕ → Option Candidate
one_of config sessions sent p = option_map (candidate_of config (side_of config sessions p)) (sent p)

-- with one candidate more, if there is one
abbrev pub with_one : List Candidate → Option Candidate → List Candidate
with_one cs None = cs
with_one cs (Some c) = cs ++ c ∷ []

cons_none : (cs : List Candidate) (o : Option Candidate) → cs ++ cons_option o [] ≡ with_one cs o
cons_none cs None = grind (arith, common_steps)
cons_none cs (Some c) = refl

-- the candidates with one peer more
pub found_more : (config : Config) (sessions : List Owned) (l : Bool) (sent : ℕ → Option Route) (n : ℕ)
    → found_in config sessions l sent (n + 1) ≡ with_one (found_in config sessions l sent n) (one_of config sessions sent (1 + n))
found_more config sessions l sent n =
    let h : ℕ → Option Candidate = one_of config sessions sent in
    let own : List Candidate = if l then candidate_of config (side_of config sessions 0) (local_route config) ∷ [] else [] in
    ap (λ (ps : List ℕ). own ++ filter_map h ps) (range_with_len-more 1 n)
    ∙ ap (λ (cs : List Candidate). own ++ cs) (filter_map-append h (range_with_len 1 n) ((1 + n) ∷ []))
    ∙ sym (append_assoc own (filter_map h (range_with_len 1 n)) (cons_option (h (1 + n)) []))
    ∙ cons_none (own ++ filter_map h (range_with_len 1 n)) (h (1 + n))

-- the address of a party
abbrev pub address_of : Config → List Owned → ℕ → ℕ
address_of config sessions p = (side_of config sessions p).address

address_own : (config : Config) (sessions : List Owned) → address_of config sessions 0 ≡ (config.local).address
address_own config sessions = refl

address_peer : (config : Config) (sessions : List Owned) (p : ℕ)
    → address_of config sessions (suc p) ≡ (entry_of config (suc p)).address
address_peer config sessions p = rw (eqb-suc-zero p, address_of, side_of) refl

number_suc : (config : Config) (sessions : List Owned) (p : ℕ) → (side_of config sessions (suc p)).number ≡ suc p
number_suc config sessions p = rw (eqb-suc-zero p, side_of) refl

-- a peer's number as a party
number_peer : (config : Config) (sessions : List Owned) (n : ℕ) → (side_of config sessions (1 + n)).number ≡ 1 + n
number_peer config sessions n =
    let e : suc n ≡ 1 + n = omega arith in
    subst (λ (p : ℕ). (side_of config sessions p).number ≡ p) e (number_suc config sessions n)

-- parties with different numbers have different addresses
addresses_differ : (config : Config) (sessions : List Owned) (q p : ℕ) → IsConfig config → q < p → p ≤ length config.peers
    → address_of config sessions q ≢ address_of config sessions p
addresses_differ config sessions q zero is below within same = absurd (omega (arith, below))
addresses_differ config sessions zero (suc p) is below within same =
    (is.peers (suc p - 1) no_entry (omega (arith, within))).2
    (sym (sym (address_own config sessions) ∙ same ∙ address_peer config sessions p))
addresses_differ config sessions (suc q) (suc p) is below within same =
    is.peers_differ (suc q - 1) (suc p - 1) no_entry (omega (arith, below)) (omega (arith, within))
    (sym (address_peer config sessions q) ∙ same ∙ address_peer config sessions p)

-- a candidate is of one of the first parties
abbrev OfSide : Config → List Owned → ℕ → Candidate → Type 0
OfSide config sessions n c =
    (q : ℕ) × (q ≤ n) × (c.side ≡ side_of config sessions q) × ((c.rank).address ≡ (c.side).address)

-- they stay good
pub one_more : (config : Config) (sessions : List Owned) (n : ℕ) (cs : List Candidate) (o : Option Route)
    → IsConfig config → 1 + n ≤ length config.peers → IfSome o IsSound → AreGood config sessions n cs
    → AreGood config sessions (n + 1) (with_one cs (option_map (candidate_of config (side_of config sessions (1 + n))) o))
one_more config sessions n cs None is most sound good = record {
  few = omega (arith, good.few);
  sound = good.sound;
  apart = good.apart;
  numbers = λ i d inside. let b = good.numbers i d inside in omega (arith, b);
  sides = λ i d inside. let w = good.sides i d inside in (w.0, omega (arith, w.1), w.2, w.3);
}
one_more config sessions n cs (Some r) is most sound good =
    let c : Candidate = candidate_of config (side_of config sessions (1 + n)) r in
    record {
      few = omega (arith, good.few, length_push cs c);
      sound = All-push (λ x. IsSound x.route) cs c good.sound sound;
      apart = all_pairs_push (λ a b. (a.rank).address ≢ (b.rank).address) cs c good.apart
          (λ k d inside same. let w = good.sides k d inside in
          addresses_differ config sessions w.0 (1 + n) is (omega (arith, w.1)) most
          (sym (w.3 ∙ ap (λ (s : Side). s.address) w.2) ∙ same));
      numbers = All-push (λ x. (x.side).number ≤ n + 1) cs c
          (λ i d inside. let b = good.numbers i d inside in omega (arith, b))
          (omega (arith, number_peer config sessions n));
      sides = All-push (OfSide config sessions (n + 1)) cs c
          (λ i d inside. let w = good.sides i d inside in (w.0, omega (arith, w.1), w.2, w.3))
          (1 + n, omega arith, refl, refl);
    }

-- no candidates
pub none_good : (config : Config) (sessions : List Owned) → AreGood config sessions 0 []
none_good config sessions = record {
  few = omega arith;
  sound = λ i d inside. absurd (omega (arith, inside));
  apart = λ i j d below inside. absurd (omega (arith, inside));
  numbers = λ i d inside. absurd (omega (arith, inside));
  sides = λ i d inside. absurd (omega (arith, inside));
}

-- the route of a local network alone
pub own_good : (config : Config) (sessions : List Owned) → IsConfig config → IsSound (local_route config)
    → AreGood config sessions 0 (candidate_of config (side_of config sessions 0) (local_route config) ∷ [])
own_good config sessions is own =
    let c : Candidate = candidate_of config (side_of config sessions 0) (local_route config) in
    let none : AreGood config sessions 0 [] = none_good config sessions in
    record {
      few = omega arith;
      sound = All-push (λ x. IsSound x.route) [] c none.sound own;
      apart = all_pairs_push (λ a b. (a.rank).address ≢ (b.rank).address) [] c none.apart
          (λ k d inside. absurd (omega (arith, inside)));
      numbers = All-push (λ x. (x.side).number ≤ 0) [] c none.numbers (omega (arith, is.speaker.0));
      sides = All-push (OfSide config sessions 0) [] c none.sides (0, omega arith, refl, refl);
    }

-- A rib without best routes, whose peers sent nothing.
use Rattle.std.proofs.Common.{◌≡◌, refl, sym, ◌∙◌, ap, subst, ℕ, suc, zero, List, [], ◌∷◌, map, replicate}
use Rattle.std.proofs.Common.{arith}
use Rattle.std.specs.List.{sum_by}
use Rattle.std.specs.List.Sorted.{IsStrictlySortedBy}
use Rattle.std.proofs.lemmas.List.Sums.{sum_by-cons}
use Rattle.xb_words.specs.Table.{IsRising}
use Rattle.xb_values.specs.Prefixes.{Prefix, prefix_cmp}
use Rattle.bgp_attr.specs.Routes.{Route}
use Rattle.spk_model.specs.Routing.{Tables, no_tables}
use Rattle.spk_routes.specs.Sound.{IsSound}
use Rattle.attr_intern.specs.Pools.{Records, interned, ArePooled}
use Rattle.attr_intern.proofs.PoolLemmas.{route_at-interned}
use Rattle.host_interned.specs.declared.chosen.Chosen.{Chosen}
use Rattle.host_interned.specs.declared.tables.PeerTables.{PeerTables}
use Rattle.host_interned.specs.Ribs.{rib_of, route_or, tables_by, times_sent, IsKept}
use Rattle.host_interned.specs.Ribs.{Shows}
use Rattle.host_interned.proofs.OwnerLemmas.{owned_interned}
use Rattle.host_interned.proofs.HeldLemmas.{sound_interned}

-- the tables of a peer that sent nothing and is advertised nothing, by ids
abbrev pub none_sent : PeerTables
none_sent = record { sent = []; out = record { adv = []; told = [] } }

none_held : (k n : ℕ) → sum_by (times_sent k) (replicate n none_sent) ≡ 0
none_held k zero = refl
none_held k (suc n) =
    let first = sum_by-cons (times_sent k) none_sent (replicate n none_sent) in
    let rest = none_held k n in
    omega (arith, first, rest)

none_shown : (records : Records) (n : ℕ) → map (tables_by records) (replicate n none_sent) ≡ replicate n no_tables
none_shown records zero = refl
none_shown records (suc n) = ap (λ (l : List Tables). no_tables ∷ l) (none_shown records n)

none_rise : IsRising {X = Chosen} prefix_cmp []
unfolding IsStrictlySortedBy
none_rise = tt

abbrev Fresh : Records → ℕ → Route → ℕ → Type 0
Fresh records id route n =
    IsKept records id [] (replicate n none_sent)
    × Shows route [] (replicate n no_tables) (rib_of records id [] (replicate n none_sent))

fresh_interned : (id : ℕ) (route : Route) (n : ℕ) → IsSound route → ArePooled (interned [] id route)
    → Fresh (interned [] id route) id route n
fresh_interned id route n is pooled = (
  record {
    owned = λ k fewer.
        let few = owned_interned [] id route (λ _. 0) (λ j less. omega (arith)) k fewer in
        let none = none_held k n in
        omega (arith, few, none);
    sound = sound_interned [] id route (λ k o there. absurd (cc there)) is;
    rising = none_rise;
    pooled = pooled;
  },
  record {
    own_is = ap route_or (route_at-interned [] id route);
    best_is = refl;
    tables_are = none_shown (interned [] id route) n;
  },
)

-- it is made
pub fresh : (none records : Records) (id : ℕ) (route : Route) (n : ℕ) (cs : List (Prefix × Chosen))
    (ps : List PeerTables) → IsSound route → none ≡ [] → records ≡ interned none id route → ArePooled records → cs ≡ []
    → ps ≡ replicate n none_sent
    → IsKept records id cs ps × Shows route [] (replicate n no_tables) (rib_of records id cs ps)
fresh none records id route n cs ps is none_is records_is pooled cs_is ps_is =
    let made : interned [] id route ≡ records =
    sym (records_is ∙ ap (λ (r : Records). interned r id route) none_is) in
    subst (λ (p : List PeerTables). IsKept records id cs p
    × Shows route [] (replicate n no_tables) (rib_of records id cs p)) (sym ps_is)
    (subst (λ (l : List (Prefix × Chosen)). IsKept records id l (replicate n none_sent)
    × Shows route [] (replicate n no_tables) (rib_of records id l (replicate n none_sent))) (sym cs_is)
    (subst (λ (r : Records). Fresh r id route n) made
    (fresh_interned id route n is (subst ArePooled (sym made) pooled))))

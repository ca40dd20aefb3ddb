-- What a rib keeps and shows once its tables change.
use Rattle.std.proofs.Common.{◌≡◌, ◌≢◌, ◌≤◌, ◌<◌, ◌+◌, ◌-◌, refl, sym, ◌∙◌, ap, subst, ℕ, List, [], ◌∷◌, map}
use Rattle.std.proofs.Common.{arith, inl, inr, Option, Some, None, get_or, set, length}
use Rattle.std.specs.Prelude.{Result, Ok, Err, IfSome, IsSome, OnOk, OnErr}
use Rattle.std.specs.Option.{option_map}
use Rattle.std.specs.List.{slice_index_or, AllByRecursion}
use Rattle.std.specs.declared.alloc.AllocError.{AllocError}
use Rattle.std.proofs.lemmas.Bool.Decides.{eqb_tells}
use Rattle.std.proofs.lemmas.List.{get_or-map, get_or-set_same, length-map, map-set, set-get_or}
use Rattle.xb_words.specs.Table.{value_at, with_value, without, IsRising}
use Rattle.xb_values.specs.Prefixes.{Prefix, Sections, prefix_cmp}
use Rattle.bgp_attr.specs.Routes.{Route}
use Rattle.xbgp_view.specs.Views.{Routes}
use Rattle.spk_model.specs.Routing.{Tables, no_tables}
use Rattle.spk_model.specs.Routing.{Chosen as Best}
use Rattle.spk_routes.specs.Sound.{IsSound}
use Rattle.attr_intern.specs.Pools.{Records, Owned, interned, record_at, released, route_at, ArePooled}
use Rattle.out_grouped.specs.Told.{Told}
use Rattle.out_grouped.proofs.SlotLemmas.{with_value-same}
use Rattle.attr_intern.proofs.PoolLemmas.{route_at-interned}
use Rattle.host_interned.specs.declared.chosen.Chosen.{Chosen}
use Rattle.host_interned.specs.declared.tables.PeerTables.{PeerTables}
use Rattle.host_interned.specs.Ribs.{best_by, best_from, given_up, meant, rib_of, route_from, route_or, routes_by}
use Rattle.host_interned.specs.Ribs.{same_id, tables_by, tables_in, times_held, times_sent, with_best, with_peer}
use Rattle.host_interned.specs.Ribs.{living_by, living_of, sources_by, sources_of, with_sent, AreOwned, AreSound}
use Rattle.host_interned.specs.Ribs.{IsKept, RibView, Shows}
use Rattle.host_interned.proofs.MappedLemmas.{mapped-with_value, mapped-without, rising-mapped, value_at-mapped}
use Rattle.host_interned.proofs.OwnerLemmas.{lives, owned_interned}
use Rattle.host_interned.proofs.RibLemmas.{shows_same}
use Rattle.host_interned.proofs.HeldLemmas.{gives_up, held-sent, held-set, held-with_chosen, of_value}
use Rattle.host_interned.proofs.HeldLemmas.{held-without_chosen, living_means, route_at-alive, sent_live, sent_lives}
use Rattle.host_interned.proofs.HeldLemmas.{sound_interned, sum-with_value, sum-without, Changed}
use Rattle.xb_values.proofs.PrefixLemmas.{prefix_total}

-- the same rib shows what equals what it shows
reshown : (own : Route) (best best' : List (Prefix × Best)) (tables tables' : List Tables) (r : RibView)
    → Shows own best tables r → best ≡ best' → tables ≡ tables' → Shows own best' tables' r
reshown own best best' tables tables' r shows b t =
    record { own_is = shows.own_is; best_is = shows.best_is ∙ b; tables_are = shows.tables_are ∙ t }

-- a best route by its id
abbrev pub best_of_id : Records → Chosen → Best
best_of_id records c = record { source = c.source; route = meant records c.«record» }

with_best_route : (records : Records) (cs : List (Prefix × Chosen)) (prefix : Prefix) (c : Chosen)
    → best_by records (with_value prefix_cmp cs prefix c)
    ≡ with_value prefix_cmp (best_by records cs) prefix (best_of_id records c)
with_best_route records cs prefix c = mapped-with_value prefix_cmp (best_of_id records) cs prefix c

without_best_route : (records : Records) (cs : List (Prefix × Chosen)) (prefix : Prefix)
    → best_by records (without prefix_cmp cs prefix) ≡ without prefix_cmp (best_by records cs) prefix
without_best_route records cs prefix = mapped-without prefix_cmp (best_of_id records) cs prefix

-- the sources and the routes of best routes, by their ids
pub sources_same : (records : Records) (cs : List (Prefix × Chosen)) → sources_by cs ≡ sources_of (best_by records cs)
sources_same records [] = refl
sources_same records (e ∷ es) =
    ap (λ (l : List (Prefix × ℕ)). (e.0, (e.1).source) ∷ l) (sources_same records es)

pub living_same : (records : Records) (cs : List (Prefix × Chosen))
    → AllByRecursion (λ e. IsSome (record_at records (e.1).«record»)) cs
    → living_by records cs ≡ living_of (best_by records cs)
living_same records [] all = refl
living_same records (e ∷ es) all =
    ap (λ (x : Option Route). (e.0, x) ∷ living_by records es) (living_means (record_at records (e.1).«record») all.0)
    ∙ ap (λ (l : List (Prefix × Option Route)). (e.0, Some (meant records (e.1).«record»)) ∷ l)
    (living_same records es all.1)

-- ---- the tables of a peer

module _ (records : Records) (own : ℕ) (cs : List (Prefix × Chosen)) (ps : List PeerTables) (v : RibView) (p : ℕ)
    (t : PeerTables) (is : rib_of records own cs ps ≡ v) (least : 1 ≤ p) (most : p ≤ length v.tables)
    (at : t ≡ get_or ps (p - 1) t) where
  -- a peer's number is that of its tables
  pub peer_inside : p - 1 < length ps
  peer_inside =
      let n : length ps ≡ length v.tables =
      sym (length-map ps (tables_by records)) ∙ ap (λ (x : RibView). length x.tables) is in
      omega (arith, least, most, n)

  -- they are those that are seen
  pub peer_seen : tables_in v p ≡ tables_by records t
  peer_seen =
      sym (ap (λ (x : RibView). tables_in x p) is)
      ∙ get_or-map (tables_by records) ps (p - 1) t no_tables peer_inside
      ∙ sym (ap (tables_by records) at)

  -- a route that a peer sent
  pub sent_seen : (prefix : Prefix)
      → value_at prefix_cmp (tables_in v p).adjin prefix
      ≡ option_map (meant records) (value_at prefix_cmp t.sent prefix)
  sent_seen prefix =
      ap (λ (x : Tables). value_at prefix_cmp x.adjin prefix) peer_seen
      ∙ value_at-mapped prefix_cmp (meant records) t.sent prefix

  -- what it is advertised and was told changes
  pub out_kept : (out : Told) → IsKept records own cs ps
      → IsKept records own cs (set ps (p - 1) (record { sent = t.sent; out = out }))
  out_kept out kept = record {
    owned = λ id fewer.
        let few = kept.owned id fewer in
        let n = held-set own cs ps (p - 1) t peer_inside at (record { sent = t.sent; out = out }) id in
        omega (arith, few, n);
    sound = kept.sound;
    rising = kept.rising;
    pooled = kept.pooled;
  }

  pub out_shows : (out : Told) (tables : Tables) → tables_by records (record { sent = t.sent; out = out }) ≡ tables
      → Shows v.own v.best (with_peer v p tables)
      (rib_of records own cs (set ps (p - 1) (record { sent = t.sent; out = out })))
  out_shows out tables same =
      subst (λ (x : RibView). Shows x.own x.best (with_peer x p tables)
      (rib_of records own cs (set ps (p - 1) (record { sent = t.sent; out = out })))) is
      (record {
        own_is = refl;
        best_is = refl;
        tables_are = map-set (tables_by records) ps (p - 1) (record { sent = t.sent; out = out })
            ∙ ap (set (map (tables_by records) ps) (p - 1)) same;
      })

  -- an advertised section is written or removed, or messages tell
  pub adv_same : (out : Told) (f : Sections → Sections) → out ≡ record (t.out) { adv = f (t.out).adv }
      → tables_by records (record { sent = t.sent; out = out })
      ≡ record (tables_in v p) { adv = f (tables_in v p).adv }
  adv_same out f out_is =
      ap (λ (o : Told). tables_by records (record { sent = t.sent; out = o })) out_is
      ∙ sym (ap (λ (x : Tables). record x { adv = f x.adv }) peer_seen)

  pub told_same : (out : Told) (f : Sections → Sections → Sections)
      → out ≡ record (t.out) { told = f (t.out).adv (t.out).told }
      → tables_by records (record { sent = t.sent; out = out })
      ≡ record (tables_in v p) { told = f (tables_in v p).adv (tables_in v p).told }
  told_same out f out_is =
      ap (λ (o : Told). tables_by records (record { sent = t.sent; out = o })) out_is
      ∙ sym (ap (λ (x : Tables). record x { told = f x.adv x.told }) peer_seen)

  -- the tables that were written are those of the peer
  pub peer_written : (new : PeerTables)
      → tables_in (rib_of records own cs (set ps (p - 1) new)) p ≡ tables_by records new
  peer_written new =
      ap (λ (l : List Tables). get_or l (p - 1) no_tables) (map-set (tables_by records) ps (p - 1) new)
      ∙ get_or-set_same (map (tables_by records) ps) (p - 1) (tables_by records new) no_tables
      (let n = length-map ps (tables_by records) in let inside = peer_inside in omega (arith, n, inside))

-- ---- an id is interned that isn't written yet

-- what holds of the records then
pub record Opened (old new : Records) (own : ℕ) (cs : List (Prefix × Chosen)) (ps : List PeerTables) (id : ℕ)
    (route : Route) : Type 0 where
  pub owned : AreOwned new (λ k. times_held k own cs ps + same_id k id)
  pub sound : AreSound new
  pub shows : Shows (meant old own) (best_by old cs) (map (tables_by old) ps) (rib_of new own cs ps)
  pub means : route_at new id ≡ Some route

module _ (old : Records) (own : ℕ) (cs : List (Prefix × Chosen)) (ps : List PeerTables) (kept : IsKept old own cs ps)
    (id : ℕ) where
  opens_interned : (route : Route) → IfSome (route_at old id) (λ r. r ≡ route) → IsSound route
      → Opened old (interned old id route) own cs ps id route
  opens_interned route means is = record {
    owned = owned_interned old id route (λ k. times_held k own cs ps) kept.owned;
    sound = sound_interned old id route kept.sound is;
    shows = shows_same old (interned old id route) own cs ps
        (λ k least. route_at-alive old id route means k
        (lives old (λ k. times_held k own cs ps) k kept.owned least));
    means = route_at-interned old id route;
  }

  -- a route comes in
  pub opens : (new : Records) (route : Route) → IfSome (route_at old id) (λ r. r ≡ route) → IsSound route
      → new ≡ interned old id route → Opened old new own cs ps id route
  opens new route means is new_is =
      subst (λ (r : Records). Opened old r own cs ps id route) (sym new_is) (opens_interned route means is)

  shares_at : (new : Records) (x : Option Owned) → record_at old id ≡ x → IsSome x
      → ((o : Owned) → record_at old id ≡ Some o → new ≡ interned old id o.route)
      → Opened old new own cs ps id (meant old id)
  shares_at new None is alive owner = absurd (cc alive)
  shares_at new (Some o) is alive owner =
      let route : route_at old id ≡ Some o.route = ap (option_map (λ (w : Owned). w.route)) is in
      let means : IfSome (route_at old id) (λ r. r ≡ o.route) =
      subst (λ (x : Option Route). IfSome x (λ r. r ≡ o.route)) (sym route) refl in
      subst (λ (r : Route). Opened old new own cs ps id r) (sym (ap route_or route))
      (opens new o.route means (kept.sound id o is) (owner o is))

  -- a record gets one more owner
  pub shares : (new : Records) → IsSome (record_at old id)
      → ((o : Owned) → record_at old id ≡ Some o → new ≡ interned old id o.route)
      → Opened old new own cs ps id (meant old id)
  shares new alive owner = shares_at new (record_at old id) refl alive owner

-- ---- and then written

-- what a rib keeps and shows
pub record Written (own : Route) (best : List (Prefix × Best)) (tables : List Tables) (records : Records) (id : ℕ)
    (cs : List (Prefix × Chosen)) (ps : List PeerTables) : Type 0 where
  pub kept : IsKept records id cs ps
  pub shows : Shows own best tables (rib_of records id cs ps)

-- records that changed, with the tables that hold their ids
written : (old new : Records) (own : ℕ) (cs : List (Prefix × Chosen)) (ps : List PeerTables)
    → Changed old new (λ k. times_held k own cs ps) → IsRising prefix_cmp cs → ArePooled new
    → Written (meant old own) (best_by old cs) (map (tables_by old) ps) new own cs ps
written old new own cs ps changed rising pooled = record {
  kept = record { owned = changed.owned; sound = changed.sound; rising = rising; pooled = pooled };
  shows = shows_same old new own cs ps changed.keeps;
}

rewritten : (own own' : Route) (best best' : List (Prefix × Best)) (tables tables' : List Tables) (records : Records)
    (id : ℕ) (cs : List (Prefix × Chosen)) (ps : List PeerTables) → Written own best tables records id cs ps
    → own ≡ own' → best ≡ best' → tables ≡ tables' → Written own' best' tables' records id cs ps
rewritten own own' best best' tables tables' records id cs ps w o b t = record {
  kept = w.kept;
  shows = record {
    own_is = (w.shows).own_is ∙ o;
    best_is = (w.shows).best_is ∙ b;
    tables_are = (w.shows).tables_are ∙ t;
  };
}

-- a best route is removed
pub removed_best : (old new : Records) (own : ℕ) (cs after : List (Prefix × Chosen)) (ps : List PeerTables)
    (prefix : Prefix) → IsKept old own cs ps → after ≡ without prefix_cmp cs prefix
    → new ≡ given_up old (option_map (λ c. c.«record») (value_at prefix_cmp cs prefix)) → IsRising prefix_cmp after
    → ArePooled new
    → Written (meant old own) (without prefix_cmp (best_by old cs) prefix) (map (tables_by old) ps) new own after ps
removed_best old new own cs after ps prefix kept after_is new_is rising pooled =
    let o : Option ℕ = option_map (λ c. c.«record») (value_at prefix_cmp cs prefix) in
    let changed : Changed old (given_up old o) (λ k. times_held k own after ps) =
    gives_up old o (λ k. times_held k own cs ps) (λ k. times_held k own after ps) kept.pooled kept.owned kept.sound
    (λ k. ap (λ (l : List (Prefix × Chosen)). times_held k own l ps + of_value (same_id k) o) after_is
    ∙ held-without_chosen own cs ps prefix k) in
    rewritten (meant old own) (meant old own) (best_by old after) (without prefix_cmp (best_by old cs) prefix)
    (map (tables_by old) ps) (map (tables_by old) ps) new own after ps
    (written old new own after ps
    (subst (λ (r : Records). Changed old r (λ k. times_held k own after ps)) (sym new_is) changed) rising pooled)
    refl (ap (best_by old) after_is ∙ without_best_route old cs prefix) refl

-- the id that was interned is given up again
given_back : (old new last : Records) (own : ℕ) (cs : List (Prefix × Chosen)) (ps : List PeerTables) (id : ℕ)
    (route : Route) → Opened old new own cs ps id route → ArePooled new → last ≡ released new id
    → IsRising prefix_cmp cs → ArePooled last
    → Written (meant old own) (best_by old cs) (map (tables_by old) ps) last own cs ps
given_back old new last own cs ps id route opened pooled last_is rising pooled_last =
    let changed : Changed new (released new id) (λ k. times_held k own cs ps) =
    gives_up new (Some id) (λ k. times_held k own cs ps + same_id k id) (λ k. times_held k own cs ps) pooled
    opened.owned opened.sound (λ k. refl) in
    rewritten (meant new own) (meant old own) (best_by new cs) (best_by old cs) (map (tables_by new) ps)
    (map (tables_by old) ps) last own cs ps
    (written new last own cs ps
    (subst (λ (r : Records). Changed new r (λ k. times_held k own cs ps)) (sym last_is) changed) rising pooled_last)
    (opened.shows).own_is (opened.shows).best_is (opened.shows).tables_are

-- or it becomes the best route of a prefix
chosen_best : (old new last : Records) (own : ℕ) (cs after : List (Prefix × Chosen)) (ps : List PeerTables) (c : Chosen)
    (route : Route) (prefix : Prefix) → Opened old new own cs ps c.«record» route → ArePooled new
    → after ≡ with_value prefix_cmp cs prefix c
    → last ≡ given_up new (option_map (λ x. x.«record») (value_at prefix_cmp cs prefix))
    → IsRising prefix_cmp after → ArePooled last
    → Written (meant old own)
    (with_value prefix_cmp (best_by old cs) prefix (record { source = c.source; route = route }))
    (map (tables_by old) ps) last own after ps
chosen_best old new last own cs after ps c route prefix opened pooled after_is last_is rising pooled_last =
    let o : Option ℕ = option_map (λ x. x.«record») (value_at prefix_cmp cs prefix) in
    let changed : Changed new (given_up new o) (λ k. times_held k own after ps) =
    gives_up new o (λ k. times_held k own cs ps + same_id k c.«record») (λ k. times_held k own after ps) pooled
    opened.owned opened.sound
    (λ k. ap (λ (l : List (Prefix × Chosen)). times_held k own l ps + of_value (same_id k) o) after_is
    ∙ held-with_chosen own cs ps prefix c k (subst (IsRising prefix_cmp) after_is rising)) in
    rewritten (meant new own) (meant old own) (best_by new after)
    (with_value prefix_cmp (best_by old cs) prefix (record { source = c.source; route = route }))
    (map (tables_by new) ps) (map (tables_by old) ps) last own after ps
    (written new last own after ps
    (subst (λ (r : Records). Changed new r (λ k. times_held k own after ps)) (sym last_is) changed) rising pooled_last)
    (opened.shows).own_is
    (ap (best_by new) after_is
    ∙ with_best_route new cs prefix c
    ∙ ap (λ (b : List (Prefix × Best)). with_value prefix_cmp b prefix (best_of_id new c)) (opened.shows).best_is
    ∙ ap (λ (r : Option Route). with_value prefix_cmp (best_by old cs) prefix
    (record { source = c.source; route = route_or r })) opened.means)
    (opened.shows).tables_are

-- either of both, by the result
pub record Puts (result : Result (Unit {0}) AllocError) (own : Route) (best best' : List (Prefix × Best))
    (tables tables' : List Tables) (records : Records) (id : ℕ) (cs : List (Prefix × Chosen)) (ps : List PeerTables)
    : Type 0 where
  pub kept : IsKept records id cs ps
  pub ok : OnOk result (Shows own best' tables' (rib_of records id cs ps))
  pub err : OnErr result (Shows own best tables (rib_of records id cs ps))

pub puts_best : (result : Result (Unit {0}) AllocError) (old new last : Records) (own : ℕ)
    (cs after : List (Prefix × Chosen)) (ps : List PeerTables) (c : Chosen) (route : Route) (prefix : Prefix)
    → Opened old new own cs ps c.«record» route → ArePooled new
    → OnOk result (after ≡ with_value prefix_cmp cs prefix c)
    → OnOk result (last ≡ given_up new (option_map (λ x. x.«record») (value_at prefix_cmp cs prefix)))
    → OnErr result (after ≡ cs) → OnErr result (last ≡ released new c.«record»)
    → IsRising prefix_cmp after → ArePooled last
    → Puts result (meant old own) (best_by old cs)
    (with_value prefix_cmp (best_by old cs) prefix (record { source = c.source; route = route }))
    (map (tables_by old) ps) (map (tables_by old) ps) last own after ps
puts_best (Ok u) old new last own cs after ps c route prefix opened pooled ok ok_records err err_records rising p =
    let w = chosen_best old new last own cs after ps c route prefix opened pooled ok ok_records rising p in
    record { kept = w.kept; ok = w.shows; err = tt }
puts_best (Err e) old new last own cs after ps c route prefix opened pooled ok ok_records err err_records rising p =
    let w = given_back old new last own cs ps c.«record» route opened pooled err_records
    (subst (IsRising prefix_cmp) err rising) p in
    subst (λ (l : List (Prefix × Chosen)). Puts (Err e) (meant old own) (best_by old cs)
    (with_value prefix_cmp (best_by old cs) prefix (record { source = c.source; route = route }))
    (map (tables_by old) ps) (map (tables_by old) ps) last own l ps) (sym err)
    (record { kept = w.kept; ok = tt; err = w.shows })

-- ---- a route that a peer sent

-- the tables of a peer with other ids
abbrev pub sending : PeerTables → List (Prefix × ℕ) → PeerTables
sending t sent = record t { sent = sent }

module _ (old : Records) (own : ℕ) (cs : List (Prefix × Chosen)) (ps : List PeerTables) (i : ℕ) (t : PeerTables)
    (inside : i < length ps) (at : t ≡ get_or ps i t) where
  peer_shown : get_or (map (tables_by old) ps) i no_tables ≡ tables_by old t
  peer_shown = get_or-map (tables_by old) ps i t no_tables inside ∙ sym (ap (tables_by old) at)

  -- the tables that are shown with other routes of the peer
  abbrev pub with_routes : (Routes → Routes) → List Tables
  with_routes f =
      let shown = get_or (map (tables_by old) ps) i no_tables in
      set (map (tables_by old) ps) i (record shown { adjin = f shown.adjin })

  routes_set : (sent : List (Prefix × ℕ)) (f : Routes → Routes) → routes_by old sent ≡ f (routes_by old t.sent)
      → map (tables_by old) (set ps i (sending t sent)) ≡ with_routes f
  routes_set sent f same =
      map-set (tables_by old) ps i (sending t sent)
      ∙ ap (λ (r : Routes). set (map (tables_by old) ps) i (record (tables_by old t) { adjin = r })) same
      ∙ sym (ap (λ (x : Tables). set (map (tables_by old) ps) i (record x { adjin = f x.adjin })) peer_shown)

  removed_count : (sent : List (Prefix × ℕ)) (prefix : Prefix) (k : ℕ) → sent ≡ without prefix_cmp t.sent prefix
      → times_held k own cs (set ps i (sending t sent)) + of_value (same_id k) (value_at prefix_cmp t.sent prefix)
      ≡ times_held k own cs ps
  removed_count sent prefix k is =
      let n = held-set own cs ps i t inside at (sending t sent) k in
      let e : times_sent k (sending t sent) ≡ times_sent k (sending t (without prefix_cmp t.sent prefix)) =
      ap (λ (l : List (Prefix × ℕ)). times_sent k (sending t l)) is in
      let s = sum-without prefix_cmp prefix_total (same_id k) t.sent prefix in
      omega (arith, n, e, s)

  -- it is removed
  pub removed_route : (new : Records) (sent : List (Prefix × ℕ)) (prefix : Prefix) → IsKept old own cs ps
      → sent ≡ without prefix_cmp t.sent prefix → new ≡ given_up old (value_at prefix_cmp t.sent prefix)
      → ArePooled new
      → Written (meant old own) (best_by old cs) (with_routes (λ r. without prefix_cmp r prefix)) new own cs
      (set ps i (sending t sent))
  removed_route new sent prefix kept sent_is new_is pooled =
      let o : Option ℕ = value_at prefix_cmp t.sent prefix in
      let after : List PeerTables = set ps i (sending t sent) in
      let changed : Changed old (given_up old o) (λ k. times_held k own cs after) =
      gives_up old o (λ k. times_held k own cs ps) (λ k. times_held k own cs after) kept.pooled kept.owned kept.sound
      (λ k. removed_count sent prefix k sent_is) in
      rewritten (meant old own) (meant old own) (best_by old cs) (best_by old cs) (map (tables_by old) after)
      (with_routes (λ r. without prefix_cmp r prefix)) new own cs after
      (written old new own cs after
      (subst (λ (r : Records). Changed old r (λ k. times_held k own cs after)) (sym new_is) changed) kept.rising pooled)
      refl refl
      (routes_set sent (λ r. without prefix_cmp r prefix)
      (ap (routes_by old) sent_is ∙ mapped-without prefix_cmp (meant old) t.sent prefix))

  put_count : (id : ℕ) (sent : List (Prefix × ℕ)) (prefix : Prefix) (k : ℕ)
      → sent ≡ with_value prefix_cmp t.sent prefix id → IsRising prefix_cmp sent
      → times_held k own cs (set ps i (sending t sent)) + of_value (same_id k) (value_at prefix_cmp t.sent prefix)
      ≡ times_held k own cs ps + same_id k id
  put_count id sent prefix k is rising =
      let n = held-set own cs ps i t inside at (sending t sent) k in
      let e : times_sent k (sending t sent) ≡ times_sent k (sending t (with_value prefix_cmp t.sent prefix id)) =
      ap (λ (l : List (Prefix × ℕ)). times_sent k (sending t l)) is in
      let s = sum-with_value prefix_cmp prefix_total (same_id k) t.sent prefix id
      (subst (IsRising prefix_cmp) is rising) in
      omega (arith, n, e, s)

-- it is written
module _ (old new last : Records) (own : ℕ) (cs : List (Prefix × Chosen)) (ps : List PeerTables) (i : ℕ)
    (t : PeerTables) (inside : i < length ps) (at : t ≡ get_or ps i t) (id : ℕ) (route : Route)
    (opened : Opened old new own cs ps id route) where
  -- the tables that it is written to
  abbrev pub with_route : Prefix → List Tables
  with_route prefix = with_routes old own cs ps i t inside at (λ r. with_value prefix_cmp r prefix route)

  means_route : meant new id ≡ route
  means_route = ap route_or opened.means

  put_shown : (sent : List (Prefix × ℕ)) (prefix : Prefix) → sent ≡ with_value prefix_cmp t.sent prefix id
      → map (tables_by new) (set ps i (sending t sent)) ≡ with_route prefix
  put_shown sent prefix is =
      routes_set new own cs ps i t inside at sent (λ r. with_value prefix_cmp r prefix (meant new id))
      (ap (routes_by new) is ∙ mapped-with_value prefix_cmp (meant new) t.sent prefix id)
      ∙ ap (λ (x : Route). with_routes new own cs ps i t inside at (λ r. with_value prefix_cmp r prefix x)) means_route
      ∙ ap (λ (l : List Tables). set l i
      (record (get_or l i no_tables) { adjin = with_value prefix_cmp (get_or l i no_tables).adjin prefix route }))
      (opened.shows).tables_are

  put_route : (sent : List (Prefix × ℕ)) (prefix : Prefix) → ArePooled new → IsRising prefix_cmp cs
      → sent ≡ with_value prefix_cmp t.sent prefix id → last ≡ given_up new (value_at prefix_cmp t.sent prefix)
      → IsRising prefix_cmp sent → ArePooled last
      → Written (meant old own) (best_by old cs) (with_route prefix) last own cs (set ps i (sending t sent))
  put_route sent prefix pooled rising_cs sent_is last_is rising pooled_last =
      let o : Option ℕ = value_at prefix_cmp t.sent prefix in
      let after : List PeerTables = set ps i (sending t sent) in
      let changed : Changed new (given_up new o) (λ k. times_held k own cs after) =
      gives_up new o (λ k. times_held k own cs ps + same_id k id) (λ k. times_held k own cs after) pooled opened.owned
      opened.sound (λ k. put_count new own cs ps i t inside at id sent prefix k sent_is rising) in
      rewritten (meant new own) (meant old own) (best_by new cs) (best_by old cs) (map (tables_by new) after)
      (with_route prefix) last own cs after
      (written new last own cs after
      (subst (λ (r : Records). Changed new r (λ k. times_held k own cs after)) (sym last_is) changed) rising_cs
      pooled_last)
      (opened.shows).own_is (opened.shows).best_is (put_shown sent prefix sent_is)

  -- or given up, by the result
  pub puts_route : (result : Result (Unit {0}) AllocError) (sent : List (Prefix × ℕ)) (prefix : Prefix) → ArePooled new
      → IsRising prefix_cmp cs → OnOk result (sent ≡ with_value prefix_cmp t.sent prefix id)
      → OnOk result (last ≡ given_up new (value_at prefix_cmp t.sent prefix)) → OnErr result (sent ≡ t.sent)
      → OnErr result (last ≡ released new id) → IsRising prefix_cmp sent → ArePooled last
      → Puts result (meant old own) (best_by old cs) (best_by old cs) (map (tables_by old) ps) (with_route prefix) last
      own cs (set ps i (sending t sent))
  puts_route (Ok u) sent prefix pooled rising_cs ok ok_records err err_records rising pooled_last =
      let w = put_route sent prefix pooled rising_cs ok ok_records rising pooled_last in
      record { kept = w.kept; ok = w.shows; err = tt }
  puts_route (Err e) sent prefix pooled rising_cs ok ok_records err err_records rising pooled_last =
      let w = given_back old new last own cs ps id route opened pooled err_records rising_cs pooled_last in
      let same : set ps i (sending t sent) ≡ ps =
      ap (λ (l : List (Prefix × ℕ)). set ps i (sending t l)) err
      ∙ ap (set ps i) at
      ∙ set-get_or ps i t in
      subst (λ (l : List PeerTables). Puts (Err e) (meant old own) (best_by old cs) (best_by old cs)
      (map (tables_by old) ps) (with_route prefix) last own cs l) (sym same)
      (record { kept = w.kept; ok = tt; err = w.shows })

-- ---- the route of a source

-- the source of a peer's number has what the peer sent
pub from_sent : (own : Route) (tables : List Tables) (source : ℕ) (prefix : Prefix) → source ≢ 0
    → route_from own tables source prefix
    ≡ value_at prefix_cmp (slice_index_or tables (source - 1) no_tables).adjin prefix
from_sent own tables source prefix apart = elim (eqb_tells source 0) [
  | inl here ↦ absurd (apart here.1)
  | inr there ↦ rw there.0 refl
]

-- what an id means, if there is one that lives
pub living_option : (records : Records) (o : Option ℕ) → IfSome o (λ id. IsSome (record_at records id))
    → option_map (route_at records) o ≡ option_map (λ r. Some r) (option_map (meant records) o)
living_option records None alive = refl
living_option records (Some id) alive =
    ap (λ (x : Option Route). Some x) (living_means (record_at records id) alive)

-- an id that is found lives
pub if_lives : (records : Records) (ids : List (Prefix × ℕ)) (prefix : Prefix) (o : Option ℕ)
    → AllByRecursion (λ e. IsSome (record_at records e.1)) ids → value_at prefix_cmp ids prefix ≡ o
    → IfSome o (λ id. IsSome (record_at records id))
if_lives records ids prefix None all is = tt
if_lives records ids prefix (Some id) all is = sent_lives records ids prefix id all is

-- a source's route is there, and its id means it
pub found_route : (x : Option Route) (y : Option Route) → Some y ≡ option_map (λ r. Some r) x
    → (route : Route) × (x ≡ Some route) × (y ≡ Some route)
found_route None y is = absurd (cc is)
found_route (Some route) y is = (route, refl, cc is)

pub is_living : (x : Option Owned) (route : Route) → option_map (λ o. o.route) x ≡ Some route → IsSome x
is_living None route is = absurd (cc is)
is_living (Some o) route is = refl

-- it becomes best
pub best_is_from : (own : Route) (best : List (Prefix × Best)) (tables : List Tables) (source : ℕ) (prefix : Prefix)
    (route : Route) → route_from own tables source prefix ≡ Some route
    → with_value prefix_cmp best prefix (record { source = source; route = route })
    ≡ with_best best prefix (best_from own tables source prefix)
best_is_from own best tables source prefix route is =
    sym (ap (λ (x : Option Route). with_best best prefix
    (option_map (λ r. record { source = source; route = r }) x)) is)

-- ---- by what is seen of the rib

module _ (rs : Records) (own : ℕ) (cs : List (Prefix × Chosen)) (ps : List PeerTables) (v : RibView)
    (is : rib_of rs own cs ps ≡ v) (kept : IsKept rs own cs ps) where
  module _ (source : ℕ) (prefix : Prefix) (id : ℕ)
      (found : Some (route_at v.records id) ≡ option_map (λ r. Some r) (route_from v.own v.tables source prefix)) where
    source_route : (route : Route) × (route_from v.own v.tables source prefix ≡ Some route)
        × (route_at rs id ≡ Some route)
    source_route =
        let w = found_route (route_from v.own v.tables source prefix) (route_at v.records id) found in
        (w.0, w.1, ap (λ (x : RibView). route_at x.records id) is ∙ w.2)

    -- the id of a source's route lives
    pub source_lives : IsSome (record_at rs id)
    source_lives = is_living (record_at rs id) source_route.0 source_route.2

    source_means : route_from v.own v.tables source prefix ≡ Some (meant rs id)
    source_means =
        source_route.1 ∙ ap (λ (x : Option Route). Some (route_or x)) (sym source_route.2)

    -- a source's route that is best already stays best
    pub stays_best : value_at prefix_cmp v.chosen prefix ≡ Some (record { source = source; «record» = id })
        → Shows v.own (with_best v.best prefix (best_from v.own v.tables source prefix)) v.tables v
    stays_best there =
        let best : Best = record { source = source; route = meant rs id } in
        let here : value_at prefix_cmp cs prefix ≡ Some (record { source = source; «record» = id }) =
        ap (λ (x : RibView). value_at prefix_cmp x.chosen prefix) is ∙ there in
        let same : with_value prefix_cmp (best_by rs cs) prefix best ≡ best_by rs cs =
        with_value-same (best_by rs cs) prefix best (rising-mapped prefix_cmp (best_of_id rs) cs kept.rising)
        (value_at-mapped prefix_cmp (best_of_id rs) cs prefix ∙ ap (option_map (best_of_id rs)) here) in
        record {
          own_is = refl;
          best_is = sym (subst (λ (x : RibView). with_value prefix_cmp x.best prefix best ≡ x.best) is same)
              ∙ best_is_from v.own v.best v.tables source prefix (meant rs id) source_means;
          tables_are = refl;
        }

    -- a source's route becomes best, by the result
    pub sets_best : (result : Result (Unit {0}) AllocError) (new last : Records) (after : List (Prefix × Chosen))
        → ((o : Owned) → record_at rs id ≡ Some o → new ≡ interned rs id o.route) → ArePooled new
        → OnOk result (after ≡ with_value prefix_cmp cs prefix (record { source = source; «record» = id }))
        → OnOk result (last ≡ given_up new (option_map (λ x. x.«record») (value_at prefix_cmp cs prefix)))
        → OnErr result (after ≡ cs) → OnErr result (last ≡ released new id) → IsRising prefix_cmp after
        → ArePooled last
        → Puts result v.own v.best (with_best v.best prefix (best_from v.own v.tables source prefix)) v.tables v.tables
        last own after ps
    sets_best result new last after owner pooled ok ok_records err err_records rising pooled_last =
        let puts = puts_best result rs new last own cs after ps (record { source = source; «record» = id })
        (meant rs id) prefix (shares rs own cs ps kept id new source_lives owner) pooled ok ok_records err err_records
        rising
        pooled_last in
        subst (λ (b : List (Prefix × Best)). Puts result v.own v.best b v.tables v.tables last own after ps)
        (best_is_from v.own v.best v.tables source prefix (meant rs id) source_means)
        (subst (λ (x : RibView). Puts result x.own x.best
        (with_value prefix_cmp x.best prefix (record { source = source; route = meant rs id })) x.tables x.tables
        last own after ps) is puts)

  module _ (p : ℕ) (t : PeerTables) (least : 1 ≤ p) (most : p ≤ length v.tables) (at : t ≡ get_or ps (p - 1) t)
      (prefix : Prefix) where
    inside : p - 1 < length ps
    inside = peer_inside rs own cs ps v p t is least most at

    -- the ids of a peer live
    pub peer_lives : AllByRecursion (λ e. IsSome (record_at rs e.1)) t.sent
    peer_lives =
        sent_live rs (λ k. times_held k own cs ps) t kept.owned (held-sent own cs ps (p - 1) t inside at)

    -- the id of what a peer sent
    pub peer_id : p ≢ 0 → (found : Option ℕ) → found ≡ value_at prefix_cmp t.sent prefix
        → option_map (λ id. route_at v.records id) found
        ≡ option_map (λ r. Some r) (route_from v.own v.tables p prefix)
    peer_id apart found found_is =
        let o : Option ℕ = value_at prefix_cmp t.sent prefix in
        sym (ap (λ (x : RibView). option_map (λ id. route_at x.records id) found) is)
        ∙ ap (option_map (λ id. route_at rs id)) found_is
        ∙ living_option rs o (if_lives rs t.sent prefix o peer_lives refl)
        ∙ ap (option_map (λ r. Some r))
        (sym (from_sent v.own v.tables p prefix apart ∙ sent_seen rs own cs ps v p t is least most at prefix))

    -- a route that a peer sent is removed
    pub removes_sent : (new : Records) (sent : List (Prefix × ℕ)) → sent ≡ without prefix_cmp t.sent prefix
        → new ≡ given_up rs (value_at prefix_cmp t.sent prefix) → ArePooled new
        → Written v.own v.best (with_sent v p (without prefix_cmp (tables_in v p).adjin prefix)) new own cs
        (set ps (p - 1) (sending t sent))
    removes_sent new sent sent_is new_is pooled =
        subst (λ (x : RibView). Written x.own x.best
        (with_sent x p (without prefix_cmp (tables_in x p).adjin prefix)) new own cs
        (set ps (p - 1) (sending t sent))) is
        (removed_route rs own cs ps (p - 1) t inside at new sent prefix kept sent_is new_is pooled)

    module _ (id : ℕ) (route : Route) (means : IfSome (route_at rs id) (λ r. r ≡ route)) (sound : IsSound route)
        (new : Records) (new_is : new ≡ interned rs id route) where
      opened : Opened rs new own cs ps id route
      opened = opens rs own cs ps kept id new route means sound new_is

      -- the new id and those of the peer live
      pub new_lives : IsSome (record_at new id)
      new_lives = is_living (record_at new id) route opened.means

      pub peer_lives_still : AllByRecursion (λ e. IsSome (record_at new e.1)) t.sent
      peer_lives_still =
          sent_live new (λ k. times_held k own cs ps + same_id k id) t opened.owned
          (λ k. let n = held-sent own cs ps (p - 1) t inside at k in omega (arith, n))

      -- a route comes in, by the result
      pub puts_sent : (result : Result (Unit {0}) AllocError) (last : Records) (sent : List (Prefix × ℕ))
          → ArePooled new → OnOk result (sent ≡ with_value prefix_cmp t.sent prefix id)
          → OnOk result (last ≡ given_up new (value_at prefix_cmp t.sent prefix)) → OnErr result (sent ≡ t.sent)
          → OnErr result (last ≡ released new id) → IsRising prefix_cmp sent → ArePooled last
          → Puts result v.own v.best v.best v.tables
          (with_sent v p (with_value prefix_cmp (tables_in v p).adjin prefix route)) last own cs
          (set ps (p - 1) (sending t sent))
      puts_sent result last sent pooled ok ok_records err err_records rising pooled_last =
          subst (λ (x : RibView). Puts result x.own x.best x.best x.tables
          (with_sent x p (with_value prefix_cmp (tables_in x p).adjin prefix route)) last own cs
          (set ps (p - 1) (sending t sent))) is
          (puts_route rs new last own cs ps (p - 1) t inside at id route opened result sent prefix pooled kept.rising ok
          ok_records err err_records rising pooled_last)

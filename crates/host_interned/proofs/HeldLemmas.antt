-- How often the ids of a rib are held once a table changes, and what holds of the records when an owner gives up.
use Rattle.std.proofs.Common.{◌≡◌, ◌≤◌, ◌<◌, ◌+◌, ◌-◌, refl, sym, ◌∙◌, ap, subst, ℕ, List, [], ◌∷◌, arith}
use Rattle.std.proofs.Common.{inl, inr, Option, Some, None, get_or, set, length}
use Rattle.std.specs.Prelude.{IfSome, IsSome}
use Rattle.std.specs.Cmp.{IsTotalOrder}
use Rattle.std.specs.Option.{option_map}
use Rattle.std.specs.List.{sum_by, AllByRecursion}
use Rattle.std.specs.Map.{values_of}
use Rattle.std.specs.declared.cmp.Ordering.{Ordering}
use Rattle.std.proofs.lemmas.Bool.Decides.{eqb_tells}
use Rattle.std.proofs.lemmas.List.Sums.{sum_by-cons, sum_by-set, get_or-le-sum_by}
use Rattle.xb_words.specs.Table.{value_at, with_value, without, IsRising}
use Rattle.xb_words.proofs.TableLemmas.{value_at-some}
use Rattle.xb_words.proofs.TableSplitLemmas.{value_at-above, IsRising-head, IsRising-tail}
use Rattle.xb_values.specs.Prefixes.{Prefix, prefix_cmp}
use Rattle.xb_values.proofs.PrefixLemmas.{prefix_total}
use Rattle.bgp_attr.specs.Routes.{Route}
use Rattle.spk_routes.specs.Sound.{IsSound}
use Rattle.attr_intern.specs.Pools.{Records, Owned, interned, most_owners, one_fewer, owners_at, record_at, released}
use Rattle.attr_intern.specs.Pools.{route_at, ArePooled}
use Rattle.attr_intern.proofs.LookupLemmas.{by_ordering}
use Rattle.attr_intern.proofs.PoolLemmas.{one_fewer-most, one_fewer-one, one_fewer-more, route_at-interned}
use Rattle.host_interned.specs.declared.chosen.Chosen.{Chosen}
use Rattle.host_interned.specs.declared.tables.PeerTables.{PeerTables}
use Rattle.host_interned.specs.Ribs.{given_up, route_or, same_id, times_chosen, times_held, times_sent}
use Rattle.host_interned.specs.Ribs.{AreOwned, AreSound}
use Rattle.host_interned.proofs.OwnerLemmas.{lives, one_owner_more, owned_released, record_at-interned}
use Rattle.host_interned.proofs.OwnerLemmas.{record_at-interned-other, record_at-released-other, record_at-with_record}
use Rattle.host_interned.proofs.OwnerLemmas.{route_at-released}
use Rattle.host_interned.proofs.RibLemmas.{held_each, same_self, KeepsMeaning}

-- ---- how often ids are held

-- what a value that may be absent counts for
abbrev pub of_value : {X : Type 0} → (X → ℕ) → Option X → ℕ
of_value f None = 0
of_value f (Some x) = f x

module _ {K X : Type 0} (c : K → K → Ordering) (o : IsTotalOrder c) (f : X → ℕ) where
  -- a write counts the new value, and the old one no more
  pub sum-with_value : (es : List (K × X)) (k : K) (v : X) → IsRising c (with_value c es k v)
      → sum_by f (values_of (with_value c es k v)) + of_value f (value_at c es k) ≡ sum_by f (values_of es) + f v
  sum-with_value [] k v rising = omega (arith)
  sum-with_value (e ∷ es) k v rising = by_ordering (c k e.0)
      (λ l.
      let above = IsRising-head c o (k, v) (e ∷ es) (rw l at rising) in
      let none : value_at c es k ≡ None = value_at-above c o k es above.1 in
      let first = sum_by-cons f v (values_of (e ∷ es)) in
      rw (l, none) (omega (arith, first)))
      (λ q.
      let old = sum_by-cons f e.1 (values_of es) in
      let new = sum_by-cons f v (values_of es) in
      rw q (omega (arith, old, new)))
      (λ g.
      let rest = sum-with_value es k v (IsRising-tail c o e (with_value c es k v) (rw g at rising)) in
      let old = sum_by-cons f e.1 (values_of es) in
      let new = sum_by-cons f e.1 (values_of (with_value c es k v)) in
      rw g (omega (arith, rest, old, new)))

  -- a removal counts the old value no more
  pub sum-without : (es : List (K × X)) (k : K)
      → sum_by f (values_of (without c es k)) + of_value f (value_at c es k) ≡ sum_by f (values_of es)
  sum-without [] k = omega (arith)
  sum-without (e ∷ es) k =
      let kept : sum_by f (values_of (e ∷ without c es k)) + of_value f (value_at c es k)
      ≡ sum_by f (values_of (e ∷ es)) =
      let rest = sum-without es k in
      let old = sum_by-cons f e.1 (values_of es) in
      let new = sum_by-cons f e.1 (values_of (without c es k)) in
      omega (arith, rest, old, new) in
      by_ordering (c k e.0)
      (λ l. rw l kept)
      (λ q. let old = sum_by-cons f e.1 (values_of es) in rw q (omega (arith, old)))
      (λ g. rw g kept)

of_value-record : (k : ℕ) (o : Option Chosen)
    → of_value (same_id k) (option_map (λ c. c.«record») o) ≡ of_value (λ c. same_id k c.«record») o
of_value-record k None = refl
of_value-record k (Some c) = refl

module _ (own : ℕ) (cs : List (Prefix × Chosen)) (ps : List PeerTables) where
  -- a best route is written
  pub held-with_chosen : (prefix : Prefix) (c : Chosen) (k : ℕ)
      → IsRising prefix_cmp (with_value prefix_cmp cs prefix c)
      → times_held k own (with_value prefix_cmp cs prefix c) ps
      + of_value (same_id k) (option_map (λ c. c.«record») (value_at prefix_cmp cs prefix))
      ≡ times_held k own cs ps + same_id k c.«record»
  held-with_chosen prefix c k rising =
      let s = sum-with_value prefix_cmp prefix_total (λ (x : Chosen). same_id k x.«record») cs prefix c rising in
      let m = of_value-record k (value_at prefix_cmp cs prefix) in
      omega (arith, s, m)

  -- or removed
  pub held-without_chosen : (prefix : Prefix) (k : ℕ)
      → times_held k own (without prefix_cmp cs prefix) ps
      + of_value (same_id k) (option_map (λ c. c.«record») (value_at prefix_cmp cs prefix))
      ≡ times_held k own cs ps
  held-without_chosen prefix k =
      let s = sum-without prefix_cmp prefix_total (λ (x : Chosen). same_id k x.«record») cs prefix in
      let m = of_value-record k (value_at prefix_cmp cs prefix) in
      omega (arith, s, m)

  module _ (i : ℕ) (t : PeerTables) (inside : i < length ps) (is : t ≡ get_or ps i t) where
    -- a peer gets other tables
    pub held-set : (new : PeerTables) (k : ℕ)
        → times_held k own cs (set ps i new) + times_sent k t ≡ times_held k own cs ps + times_sent k new
    held-set new k =
        let s = sum_by-set (times_sent k) ps i new t inside in
        let e : times_sent k t ≡ times_sent k (get_or ps i t) = ap (times_sent k) is in
        omega (arith, s, e)

    -- what its tables hold, the rib holds
    pub held-sent : (k : ℕ) → times_sent k t ≤ times_held k own cs ps
    held-sent k =
        let s = get_or-le-sum_by (times_sent k) ps i t inside in
        let e : times_sent k t ≡ times_sent k (get_or ps i t) = ap (times_sent k) is in
        omega (arith, s, e)

-- ---- what is held lives

pub chosen_live : (records : Records) (held : ℕ → ℕ) (cs : List (Prefix × Chosen)) → AreOwned records held
    → ((k : ℕ) → times_chosen k cs ≤ held k) → AllByRecursion (λ e. IsSome (record_at records (e.1).«record»)) cs
chosen_live records held cs owned count =
    held_each (λ (c : Chosen). c.«record») (λ id. IsSome (record_at records id)) cs
    (λ id least. let n = count id in lives records held id owned (omega (arith, least, n)))

pub sent_live : (records : Records) (held : ℕ → ℕ) (t : PeerTables) → AreOwned records held
    → ((k : ℕ) → times_sent k t ≤ held k) → AllByRecursion (λ e. IsSome (record_at records e.1)) t.sent
sent_live records held t owned count =
    held_each (λ (id : ℕ). id) (λ id. IsSome (record_at records id)) t.sent
    (λ id least. let n = count id in lives records held id owned (omega (arith, least, n)))

-- an id that is found lives
pub chosen_lives : (records : Records) (cs : List (Prefix × Chosen)) (prefix : Prefix) (c : Chosen)
    → AllByRecursion (λ e. IsSome (record_at records (e.1).«record»)) cs → value_at prefix_cmp cs prefix ≡ Some c
    → IsSome (record_at records c.«record»)
chosen_lives records cs prefix c all is =
    (value_at-some prefix_cmp (λ e. IsSome (record_at records (e.1).«record»)) cs prefix c all is).2

pub sent_lives : (records : Records) (sent : List (Prefix × ℕ)) (prefix : Prefix) (id : ℕ)
    → AllByRecursion (λ e. IsSome (record_at records e.1)) sent → value_at prefix_cmp sent prefix ≡ Some id
    → IsSome (record_at records id)
sent_lives records sent prefix id all is =
    (value_at-some prefix_cmp (λ e. IsSome (record_at records e.1)) sent prefix id all is).2

-- an id that lives means its route
pub living_means : (x : Option Owned) → IsSome x
    → option_map (λ o. o.route) x ≡ Some (route_or (option_map (λ o. o.route) x))
living_means None alive = absurd (cc alive)
living_means (Some o) alive = refl

-- ---- records that change

-- the record of an id that lives, or lived
living_route : (x : Option Owned) (route : Route) → IfSome (option_map (λ o. o.route) x) (λ r. r ≡ route) → IsSome x
    → option_map (λ o. o.route) x ≡ Some route
living_route None route means alive = absurd (cc alive)
living_route (Some o) route means alive = ap (λ (r : Route). Some r) means

-- what lived before an id was interned means the same
pub route_at-alive : (records : Records) (id : ℕ) (route : Route) → IfSome (route_at records id) (λ r. r ≡ route)
    → (k : ℕ) → IsSome (record_at records k) → route_at (interned records id route) k ≡ route_at records k
route_at-alive records id route means k alive = elim (eqb_tells k id) [
  | inl here ↦
      let was : route_at records id ≡ Some route =
      living_route (record_at records id) route means
      (subst (λ (n : ℕ). IsSome (record_at records n)) here.1 alive) in
      ap (route_at (interned records id route)) here.1
      ∙ route_at-interned records id route
      ∙ sym was
      ∙ sym (ap (route_at records) here.1)
  | inr apart ↦ ap (option_map (λ (o : Owned). o.route)) (record_at-interned-other records id route k apart.1)
]

pub sound_interned : (records : Records) (id : ℕ) (route : Route) → AreSound records → IsSound route
    → AreSound (interned records id route)
sound_interned records id route sound is k o there = elim (eqb_tells k id) [
  | inl here ↦
      let some : Some (one_owner_more records id route) ≡ Some o =
      sym (record_at-interned records id route) ∙ sym (ap (record_at (interned records id route)) here.1) ∙ there in
      let same : one_owner_more records id route ≡ o = cc some in
      subst (λ (w : Owned). IsSound w.route) same is
  | inr apart ↦ sound k o (sym (record_at-interned-other records id route k apart.1) ∙ there)
]

-- what is left of a record means what it meant
fewer_means : (w o : Owned) → one_fewer (Some w) ≡ Some o → w.route ≡ o.route
fewer_means w o is = elim (eqb_tells w.owners most_owners) [
  | inl most ↦
      let same : w ≡ o = cc (one_fewer-most w most.1, is) in
      ap (λ (x : Owned). x.route) same
  | inr less ↦ elim (eqb_tells w.owners 1) [
    | inl one ↦ absurd (cc (one_fewer-one w one.1, is))
    | inr several ↦
        let same : record w { owners = w.owners - 1 } ≡ o = cc (one_fewer-more w less.1 several.1, is) in
        ap (λ (x : Owned). x.route) same
  ]
]

fewer_of : (x : Option Owned) (o : Owned) → one_fewer x ≡ Some o → (w : Owned) × (x ≡ Some w) × (w.route ≡ o.route)
fewer_of None o is = absurd (cc is)
fewer_of (Some w) o is = (w, refl, fewer_means w o is)

pub sound_released : (records : Records) (id : ℕ) → ArePooled records → AreSound records
    → AreSound (released records id)
sound_released records id pooled sound k o there = elim (eqb_tells k id) [
  | inl here ↦
      let left : one_fewer (record_at records id) ≡ Some o =
      sym (record_at-with_record records id (one_fewer (record_at records id)) pooled.rising)
      ∙ sym (ap (record_at (released records id)) here.1)
      ∙ there in
      let w = fewer_of (record_at records id) o left in
      subst IsSound w.2 (sound id w.0 w.1)
  | inr apart ↦ sound k o (sym (record_at-released-other records id k pooled apart.1) ∙ there)
]

-- what holds of records that changed, if so many places hold each id
pub record Changed (old new : Records) (held : ℕ → ℕ) : Type 0 where
  pub owned : AreOwned new held
  pub sound : AreSound new
  pub keeps : KeepsMeaning old new held

-- the owner of an id gives it up, if there is one
pub gives_up : (records : Records) (o : Option ℕ) (had has : ℕ → ℕ) → ArePooled records → AreOwned records had
    → AreSound records → ((k : ℕ) → has k + of_value (same_id k) o ≡ had k)
    → Changed records (given_up records o) has
gives_up records None had has pooled owned sound count = record {
  owned = λ k fewer. let few = owned k fewer in let n = count k in omega (arith, few, n);
  sound = sound;
  keeps = λ k least. refl;
}
gives_up records (Some id) had has pooled owned sound count =
    let once : same_id id id ≡ 1 = same_self id in
    let here : has id + same_id id id ≡ had id = count id in
    let alive : IsSome (record_at records id) = lives records had id owned (omega (arith, once, here)) in
    record {
      owned = λ k fewer.
          let few : had k - same_id k id ≤ owners_at (released records id) k =
          owned_released records id had pooled owned alive k fewer in
          let n : has k + same_id k id ≡ had k = count k in
          omega (arith, few, n);
      sound = sound_released records id pooled sound;
      keeps = λ k least.
          let n : has k + same_id k id ≡ had k = count k in
          route_at-released records id had pooled owned alive k (omega (arith, least, n));
    }

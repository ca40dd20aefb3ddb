-- Owners of records, and what ids mean, when an id is interned or given up.
use Rattle.std.proofs.Common.{◌≡◌, ◌≢◌, ◌≤◌, ◌<◌, ◌+◌, ◌-◌, refl, sym, ◌∙◌, ap, ℕ, List, [], ◌∷◌, arith}
use Rattle.std.specs.Prelude.{min}
use Rattle.std.proofs.Common.{inl, inr, Option, Some, None, cond}
use Rattle.std.specs.Prelude.{IsSome}
use Rattle.std.specs.Option.{option_map}
use Rattle.std.specs.List.{AllByRecursion}
use Rattle.std.specs.Ordering.{nat_cmp, is_eq}
use Rattle.std.specs.declared.cmp.Ordering.TheVariants.{Equal}
use Rattle.std.proofs.lemmas.Bool.Decides.{eqb_tells, leb_tells}
use Rattle.std.proofs.Math.Nat.{le-min, min-eq_left}
use Rattle.std.proofs.lemmas.Cmp.{nat_cmp_total, tied_itself}
use Rattle.std.proofs.lemmas.Map.Lookups.{exact_unsigned}
use Rattle.xb_words.proofs.TableLemmas.{value_at-with_value}
use Rattle.xb_values.specs.Prefixes.{Prefix}
use Rattle.bgp_attr.specs.Routes.{Route}
use Rattle.spk_model.specs.Routing.{Chosen as Best}
use Rattle.attr_intern.specs.Pools.{Records, Owned, interned, one_more, owners_at, owners_of, record_at, route_at}
use Rattle.xb_words.specs.Table.{IsRising}
use Rattle.attr_intern.specs.Pools.{most_owners, one_fewer, released, with_record, ArePooled}
use Rattle.attr_intern.proofs.LookupLemmas.{is_eq-false, value_at-with_value-other, value_at-without}
use Rattle.attr_intern.proofs.PoolLemmas.{one_fewer-most, one_fewer-one, one_fewer-more}
use Rattle.host_interned.specs.declared.chosen.Chosen.{Chosen}
use Rattle.host_interned.specs.Ribs.{best_by, meant, route_or, routes_by, same_id, AreOwned}

has_owner : (o : Option Owned) → 1 ≤ owners_of o → IsSome o
has_owner None least = absurd (omega (arith, least))
has_owner (Some o) least = refl

apart_ids : (a b : ℕ) → a ≢ b → nat_cmp a b ≢ Equal
apart_ids a b apart same = apart (exact_unsigned a b same)

-- a record with its route and one owner more
abbrev pub one_owner_more : Records → ℕ → Route → Owned
one_owner_more records id route = record { route = route; owners = one_more (owners_at records id) }

module _ (records : Records) (id : ℕ) (route : Route) where
  -- an interned id lives
  pub record_at-interned : record_at (interned records id route) id ≡ Some (one_owner_more records id route)
  record_at-interned = value_at-with_value nat_cmp nat_cmp_total records id (one_owner_more records id route)

  -- and others are as they were
  pub record_at-interned-other : (k : ℕ) → k ≢ id → record_at (interned records id route) k ≡ record_at records k
  record_at-interned-other k apart =
      value_at-with_value-other nat_cmp nat_cmp_total records id (one_owner_more records id route) k
      (apart_ids k id apart)

-- ids that mean the same in two sets of records show the same routes
pub routes_by-same : (old new : Records) (es : List (Prefix × ℕ))
    → AllByRecursion (λ e. route_at new e.1 ≡ route_at old e.1) es → routes_by new es ≡ routes_by old es
routes_by-same old new [] all = refl
routes_by-same old new (e ∷ es) all =
    ap (λ (r : Option Route). (e.0, route_or r) ∷ routes_by new es) all.0
    ∙ ap (λ (t : List (Prefix × Route)). (e.0, meant old e.1) ∷ t) (routes_by-same old new es all.1)

pub best_by-same : (old new : Records) (es : List (Prefix × Chosen))
    → AllByRecursion (λ e. route_at new (e.1).«record» ≡ route_at old (e.1).«record») es
    → best_by new es ≡ best_by old es
best_by-same old new [] all = refl
best_by-same old new (e ∷ es) all =
    ap (λ (r : Option Route). (e.0, record { source = (e.1).source; route = route_or r }) ∷ best_by new es) all.0
    ∙ ap (λ (t : List (Prefix × Best)). (e.0, record { source = (e.1).source; route = meant old (e.1).«record» }) ∷ t)
    (best_by-same old new es all.1)

-- ---- owners

one_less : (w most h : ℕ) → (w < most → h ≤ w) → min (w + 1) most < most → h + 1 ≤ min (w + 1) most
one_less w most h owned fewer = elim (leb_tells (w + 1) most) [
  | inl fits ↦
      let is : min (w + 1) most ≡ w + 1 = min-eq_left fits.1 in
      let few : h ≤ w = owned (omega (arith, fits.1)) in
      omega (arith, is, few)
  | inr over ↦
      let all : most ≤ min (w + 1) most = le-min (omega (arith, over.1)) (omega arith) in
      absurd (omega (arith, all, fewer))
]

-- an id that is held lives
pub lives : (records : Records) (held : ℕ → ℕ) (id : ℕ) → AreOwned records held → 1 ≤ held id
    → IsSome (record_at records id)
lives records held id owned least = elim (leb_tells most_owners (owners_at records id)) [
  | inl most ↦ has_owner (record_at records id) (omega (arith, most.1))
  | inr fewer ↦
      let few = owned id fewer.1 in
      has_owner (record_at records id) (omega (arith, few, least))
]

-- an id that is interned is held once more
pub owned_interned : (records : Records) (id : ℕ) (route : Route) (held : ℕ → ℕ) → AreOwned records held
    → AreOwned (interned records id route) (λ k. held k + same_id k id)
owned_interned records id route held owned k fewer = elim (eqb_tells k id) [
  | inl here ↦
      let there : owners_at (interned records id route) k ≡ one_more (owners_at records id) =
      ap (owners_at (interned records id route)) here.1 ∙ ap owners_of (record_at-interned records id route) in
      let once : same_id k id ≡ 1 = rw here.0 refl in
      let same : held k ≡ held id = ap held here.1 in
      let next = one_less (owners_at records id) most_owners (held id) (owned id) (omega (arith, there, fewer)) in
      omega (arith, there, once, same, next)
  | inr apart ↦
      let there : owners_at (interned records id route) k ≡ owners_at records k =
      ap owners_of (record_at-interned-other records id route k apart.1) in
      let never : same_id k id ≡ 0 = rw apart.0 refl in
      let few = owned k (omega (arith, there, fewer)) in
      omega (arith, there, never, few)
]

-- ---- an owner is given up

record_at-with_record-other : (records : Records) (id : ℕ) (o : Option Owned) (k : ℕ) → IsRising nat_cmp records
    → k ≢ id → record_at (with_record records id o) k ≡ record_at records k
record_at-with_record-other records id None k rising apart =
    value_at-without nat_cmp nat_cmp_total records id k rising
    ∙ ap (λ b. cond b None (record_at records k))
    (is_eq-false (nat_cmp id k) (apart_ids id k (λ same. apart (sym same))))
record_at-with_record-other records id (Some o) k rising apart =
    value_at-with_value-other nat_cmp nat_cmp_total records id o k (apart_ids k id apart)

-- what is left at the id itself
pub record_at-with_record : (records : Records) (id : ℕ) (o : Option Owned) → IsRising nat_cmp records
    → record_at (with_record records id o) id ≡ o
record_at-with_record records id None rising =
    value_at-without nat_cmp nat_cmp_total records id id rising
    ∙ ap (λ r. cond (is_eq r) None (record_at records id)) (tied_itself nat_cmp_total id)
record_at-with_record records id (Some o) rising = value_at-with_value nat_cmp nat_cmp_total records id o

-- other ids are as they were
pub record_at-released-other : (records : Records) (id k : ℕ) → ArePooled records → k ≢ id
    → record_at (released records id) k ≡ record_at records k
record_at-released-other records id k pooled apart =
    record_at-with_record-other records id (one_fewer (record_at records id)) k pooled.rising apart

-- what is left of a record that had as many owners as places that hold it, and is held no more in one of them
record Left (o : Owned) (held : ℕ) : Type 0 where
  owners : owners_of (one_fewer (Some o)) < most_owners → held - 1 ≤ owners_of (one_fewer (Some o))
  means : 2 ≤ held → option_map (λ x. x.route) (one_fewer (Some o)) ≡ Some o.route

left : (o : Owned) (held : ℕ) → o.owners ≤ most_owners → (o.owners < most_owners → held ≤ o.owners) → Left o held
left o held counted owned = elim (eqb_tells o.owners most_owners) [
  | inl most ↦
      let is : one_fewer (Some o) ≡ Some o = one_fewer-most o most.1 in
      record {
        owners = λ fewer. let n = ap owners_of is in absurd (omega (arith, n, most.1, fewer));
        means = λ more. ap (option_map (λ (x : Owned). x.route)) is;
      }
  | inr less ↦
      let fewer : o.owners < most_owners = omega (arith, counted, less.1) in
      let few : held ≤ o.owners = owned fewer in
      elim (eqb_tells o.owners 1) [
        | inl one ↦
            let is : one_fewer (Some o) ≡ None = one_fewer-one o one.1 in
            record {
              owners = λ _. let n = ap owners_of is in omega (arith, n, few, one.1);
              means = λ more. absurd (omega (arith, more, few, one.1));
            }
        | inr several ↦
            let is : one_fewer (Some o) ≡ Some (record o { owners = o.owners - 1 }) =
            one_fewer-more o less.1 several.1 in
            record {
              owners = λ _. let n = ap owners_of is in omega (arith, n, few);
              means = λ more. ap (option_map (λ (x : Owned). x.route)) is;
            }
      ]
]

left_at : (records : Records) (id : ℕ) (held : ℕ → ℕ) (x : Option Owned) → ArePooled records → AreOwned records held
    → record_at records id ≡ x → IsSome x → (o : Owned) × (x ≡ Some o) × Left o (held id)
left_at records id held None pooled owned is lives = absurd (cc lives)
left_at records id held (Some o) pooled owned is lives = (
  o,
  refl,
  left o (held id) (pooled.counted id o is)
      (λ fewer. let n = ap owners_of is in
      let few = owned id (omega (arith, n, fewer)) in omega (arith, n, few)),
)

module _ (records : Records) (id : ℕ) (held : ℕ → ℕ) (pooled : ArePooled records) (owned : AreOwned records held)
    (alive : IsSome (record_at records id)) where
  -- an id that is given up is held once less
  pub owned_released : AreOwned (released records id) (λ k. held k - same_id k id)
  owned_released k fewer = elim (eqb_tells k id) [
    | inl here ↦
        let w = left_at records id held (record_at records id) pooled owned refl alive in
        let there : owners_at (released records id) k ≡ owners_of (one_fewer (Some w.0)) =
        ap (owners_at (released records id)) here.1
        ∙ ap owners_of (record_at-with_record records id (one_fewer (record_at records id)) pooled.rising)
        ∙ ap (λ (x : Option Owned). owners_of (one_fewer x)) w.1 in
        let once : same_id k id ≡ 1 = rw here.0 refl in
        let same : held k ≡ held id = ap held here.1 in
        let next = w.2.owners (omega (arith, there, fewer)) in
        omega (arith, there, once, same, next)
    | inr apart ↦
        let there : owners_at (released records id) k ≡ owners_at records k =
        ap owners_of (record_at-released-other records id k pooled apart.1) in
        let never : same_id k id ≡ 0 = rw apart.0 refl in
        let few = owned k (omega (arith, there, fewer)) in
        omega (arith, there, never, few)
  ]

  -- what is still held means the same
  pub route_at-released : (k : ℕ) → 1 ≤ held k - same_id k id → route_at (released records id) k ≡ route_at records k
  route_at-released k still = elim (eqb_tells k id) [
    | inl here ↦
        let w = left_at records id held (record_at records id) pooled owned refl alive in
        let once : same_id k id ≡ 1 = rw here.0 refl in
        let same : held k ≡ held id = ap held here.1 in
        ap (route_at (released records id)) here.1
        ∙ ap (option_map (λ (o : Owned). o.route))
        (record_at-with_record records id (one_fewer (record_at records id)) pooled.rising
        ∙ ap one_fewer w.1)
        ∙ w.2.means (omega (arith, still, once, same))
        ∙ sym (ap (option_map (λ (o : Owned). o.route)) w.1)
        ∙ sym (ap (route_at records) here.1)
    | inr apart ↦ ap (option_map (λ (o : Owned). o.route)) (record_at-released-other records id k pooled apart.1)
  ]

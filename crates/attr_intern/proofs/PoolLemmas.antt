-- What callers see of a pool beside its slab: the record of an id, and what the records are after each change.
use Rattle.std.proofs.Common.{◌≡◌, ◌≢◌, ℕ, ◌-◌, Option, Some, None, IsSome, option_map, inl, inr, refl, sym}
use Rattle.std.proofs.Common.{ap}
use Rattle.std.proofs.Common.{◌∙◌, subst, arith}
use Rattle.std.specs.Ordering.{nat_cmp}
use Rattle.std.proofs.lemmas.Bool.Decides.{eqb_tells}
use Rattle.std.proofs.lemmas.Cmp.{nat_cmp_total}
use Rattle.slab.specs.Slab.{Slab, get, entries}
use Rattle.xb_words.specs.Table.{with_value, without}
use Rattle.xb_words.proofs.TableLemmas.{value_at-with_value}
use Rattle.bgp_attr.specs.Routes.{Route, canon}
use Rattle.section_map.specs.Sections.{at_section}
use Rattle.section_map.specs.declared.map.SectionMap.{SectionMap}
use Rattle.attr_intern.specs.Kept.{AreIndexed}
use Rattle.attr_intern.specs.Pools.{Owned, Records, interned, most_owners, one_fewer, one_more, owners_at, owners_of}
use Rattle.attr_intern.specs.Pools.{record_at, released, route_at, with_record}
use Rattle.attr_intern.proofs.EntriesLemmas.{entries-changed, entries-removed, value_at-entries}
use Rattle.attr_intern.proofs.KeptLemmas.{KeepsOthers, listed_by_route}

some_is : {A : Type 0} (x : Option A) → IsSome x → (a : A) × (x ≡ Some a)
some_is None h = absurd (cc h)
some_is (Some a) h = (a, refl)

-- the slab has these records, and under the key the record of the id
pub record HasRecords (s : Slab Owned) (records : Records) (key id : ℕ) : Type 0 where
  pub all : entries s ≡ records
  pub under : key ≡ id

module _ {s : Slab Owned} {records : Records} {key id : ℕ} (has : HasRecords s records key id) where
  -- the record of the id
  pub get-record_at : get s key ≡ record_at records id
  get-record_at =
      sym (value_at-entries s key) ∙ ap (λ r. record_at r key) has.all ∙ ap (record_at records) has.under

  pub contains : IsSome (record_at records id) → IsSome (get s key)
  contains lives = subst IsSome (sym get-record_at) lives

  pub owned : IsSome (record_at records id) → (o : Owned) × (get s key ≡ Some o)
  owned lives = some_is (get s key) (contains lives)

  pub route_at-key : (x : Option Owned) → get s key ≡ x → route_at records id ≡ option_map (λ o. o.route) x
  route_at-key x is = ap (option_map (λ o. o.route)) (sym get-record_at ∙ is)

  pub owners_at-key : (x : Option Owned) → get s key ≡ x → owners_at records id ≡ owners_of x
  owners_at-key x is = ap owners_of (sym get-record_at ∙ is)

  -- another record under the key
  pub entries-with_record : (t : Slab Owned) (w : Owned) → get t key ≡ Some w → KeepsOthers s t key
      → entries t ≡ with_record records id (Some w)
  entries-with_record t w here others =
      entries-changed s t key w here others ∙ ap (λ r. with_value nat_cmp r key w) has.all
      ∙ ap (λ k. with_value nat_cmp records k w) has.under

  -- no record under the key
  pub entries-without_record : (t : Slab Owned) → get t key ≡ None → KeepsOthers s t key
      → entries t ≡ with_record records id None
  entries-without_record t gone others =
      entries-removed s t key gone others ∙ ap (λ r. without nat_cmp r key) has.all
      ∙ ap (λ k. without nat_cmp records k) has.under

  -- one owner more of the record under the key
  pub entries-shared : (t : Slab Owned) (o : Owned) (route : Route) → get s key ≡ Some o → o.route ≡ route
      → get t key ≡ Some (record o { owners = one_more o.owners }) → KeepsOthers s t key
      → entries t ≡ interned records id route
  entries-shared t o route was means here others =
      entries-with_record t (record o { owners = one_more o.owners }) here others
      ∙ ap (λ r. with_value nat_cmp records id (record { route = r; owners = one_more o.owners })) means
      ∙ ap (λ n. with_value nat_cmp records id (record { route = route; owners = one_more n }))
      (sym (owners_at-key (Some o) was))

  -- the first owner of a record under the key
  pub entries-added : (t : Slab Owned) (route : Route) → get s key ≡ None
      → get t key ≡ Some (record { route = route; owners = 1 }) → KeepsOthers s t key
      → entries t ≡ interned records id route
  entries-added t route vacant here others =
      entries-with_record t (record { route = route; owners = 1 }) here others
      ∙ ap (λ n. with_value nat_cmp records id (record { route = route; owners = one_more n }))
      (sym (owners_at-key None vacant))

  -- one owner fewer of the record under the key
  pub entries-released : (o : Owned) (x : Option Owned) → get s key ≡ Some o → one_fewer (Some o) ≡ x
      → with_record records id x ≡ released records id
  entries-released o x was fewer =
      ap (with_record records id) (sym fewer ∙ ap one_fewer (sym was ∙ get-record_at))

  -- a route that lives under another id has its section there
  pub listed_elsewhere : (ids : SectionMap ℕ) (other : ℕ) (route : Route) → AreIndexed s ids
      → route_at records other ≡ Some route → at_section ids (canon route) ≡ Some other
  listed_elsewhere ids other route is lives =
      listed_by_route s ids other route is (ap (λ r. route_at r other) has.all ∙ lives)

-- an id means what was interned
pub route_at-interned : (records : Records) (id : ℕ) (route : Route)
    → route_at (interned records id route) id ≡ Some route
route_at-interned records id route =
    ap (option_map (λ o. o.route)) (value_at-with_value nat_cmp nat_cmp_total records id
    (record { route = route; owners = one_more (owners_at records id) }))

-- what is left of a record that has the most owners, one, or others
pub one_fewer-most : (o : Owned) → o.owners ≡ most_owners → one_fewer (Some o) ≡ Some o
one_fewer-most o e = elim (eqb_tells o.owners most_owners) [
  | inl here ↦ rw here.0 refl
  | inr other ↦ absurd (other.1 e)
]

pub one_fewer-one : (o : Owned) → o.owners ≡ 1 → one_fewer (Some o) ≡ None
one_fewer-one o e = elim (eqb_tells o.owners most_owners) [
  | inl here ↦ absurd (omega (arith, here.1))
  | inr other ↦ elim (eqb_tells o.owners 1) [
    | inl one ↦ rw (other.0, one.0) refl
    | inr not_one ↦ absurd (not_one.1 e)
  ]
]

pub one_fewer-more : (o : Owned) → o.owners ≢ most_owners → o.owners ≢ 1
    → one_fewer (Some o) ≡ Some (record o { owners = o.owners - 1 })
one_fewer-more o not_most more = elim (eqb_tells o.owners most_owners) [
  | inl here ↦ absurd (not_most here.1)
  | inr other ↦ elim (eqb_tells o.owners 1) [
    | inl one ↦ absurd (more one.1)
    | inr not_one ↦ rw (other.0, not_one.0) refl
  ]
]

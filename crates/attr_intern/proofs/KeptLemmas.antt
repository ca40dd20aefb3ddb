-- A pool's records beside their ids by section: what each change keeps, and what callers know of the records.
use Rattle.std.proofs.Common.{◌≡◌, ◌≢◌, ℕ, ◌≤◌, List, [], get_or, Option, Some, None, option_map, inl, inr}
use Rattle.std.proofs.Common.{refl, sym, ap, ◌∙◌, subst, arith, lit≤}
use Rattle.std.proofs.lemmas.Bool.{cases_eq}
use Rattle.slab.specs.Slab.{Slab, get, entries}
use Rattle.bgp_attr.specs.Routes.{Route, canon, route_of, IsRoute}
use Rattle.xbgp_view.specs.Sections.{IsCanonical}
use Rattle.xbgp_view.proofs.ReadingLemmas.{route_of-canon}
use Rattle.section_map.specs.Sections.{ChangesAt, SameSections, at_section}
use Rattle.section_map.specs.declared.map.SectionMap.{SectionMap}
use Rattle.attr_intern.specs.Kept.{AreIndexed}
use Rattle.attr_intern.specs.Pools.{Owned, most_owners, one_more, record_at, route_at, ArePooled}
use Rattle.attr_intern.proofs.EntriesLemmas.{IsRising-entries, value_at-entries}
use Rattle.section_map.proofs.MapLemmas.{sections_differ}

-- each key but one keeps what it had
abbrev pub KeepsOthers : Slab Owned → Slab Owned → ℕ → Type 0
KeepsOthers old new key = (other : ℕ) → other ≢ key → get new other ≡ get old other

-- the canonical section of a record, if it lives
abbrev section_at : Slab Owned → ℕ → Option (List ℕ)
section_at slab id = option_map (λ o. canon o.route) (get slab id)

-- what holds of the record at a key, and held of all others, holds of all
after_write : (P : ℕ → Owned → Type 0) (old new : Slab Owned) (key : ℕ) (w : Owned) → get new key ≡ Some w
    → KeepsOthers old new key → P key w → ((id : ℕ) (o : Owned) → get old id ≡ Some o → P id o)
    → (id : ℕ) (o : Owned) → get new id ≡ Some o → P id o
after_write P old new key w here others is was id o found = elim (cases_eq id key) [
  | inl same ↦
      let one : Some w ≡ Some o = sym here ∙ ap (get new) (sym same) ∙ found in
      let value : w ≡ o = cc one in
      subst (λ (k : ℕ). P k o) (sym same) (subst (P key) value is)
  | inr apart ↦ was id o (sym (others id apart) ∙ found)
]

-- the same after a removal
after_removal : (P : ℕ → Owned → Type 0) (old new : Slab Owned) (key : ℕ) → get new key ≡ None
    → KeepsOthers old new key
    → ((id : ℕ) (o : Owned) → id ≢ key → get old id ≡ Some o → P id o)
    → (id : ℕ) (o : Owned) → get new id ≡ Some o → P id o
after_removal P old new key gone others was id o found = elim (cases_eq id key) [
  | inl same ↦ let none : get new id ≡ None = ap (get new) same ∙ gone in absurd (cc (none, found))
  | inr apart ↦ was id o apart (sym (others id apart) ∙ found)
]

-- another number of owners
pub AreIndexed-counted : (old new : Slab Owned) (ids : SectionMap ℕ) (key n : ℕ) (o : Owned) → get old key ≡ Some o
    → get new key ≡ Some (record o { owners = n }) → KeepsOthers old new key → 1 ≤ n → n ≤ most_owners
    → AreIndexed old ids → AreIndexed new ids
AreIndexed-counted old new ids key n o was here others some few is =
    let w : Owned = record o { owners = n } in record {
      routes = after_write (λ _ o. IsRoute o.route) old new key w here others (is.routes key o was) is.routes;
      owned = after_write (λ _ o. 1 ≤ o.owners) old new key w here others some is.owned;
      counted = after_write (λ _ o. o.owners ≤ most_owners) old new key w here others few is.counted;
      listed =
          after_write (λ id o. at_section ids (canon o.route) ≡ Some id) old new key w here others
          (is.listed key o was) is.listed;
      living = λ section id found. meant id ∙ is.living section id found;
    }
  where
    meant : (id : ℕ) → section_at new id ≡ section_at old id
    meant id = elim (cases_eq id key) [
      | inl same ↦
          ap (section_at new) same ∙ ap (option_map (λ o. canon o.route)) here
          ∙ sym (ap (option_map (λ o. canon o.route)) was) ∙ ap (section_at old) (sym same)
      | inr apart ↦ ap (option_map (λ o. canon o.route)) (others id apart)
    ]

-- one owner more
pub AreIndexed-shared : (old new : Slab Owned) (ids : SectionMap ℕ) (key : ℕ) (o : Owned) → get old key ≡ Some o
    → get new key ≡ Some (record o { owners = one_more o.owners }) → KeepsOthers old new key → AreIndexed old ids
    → AreIndexed new ids
AreIndexed-shared old new ids key o was here others is =
    let some : 1 ≤ one_more o.owners = omega arith in
    let few : one_more o.owners ≤ most_owners = omega arith in
    AreIndexed-counted old new ids key (one_more o.owners) o was here others some few is

-- a new record
pub AreIndexed-added : (old new : Slab Owned) (ids added : SectionMap ℕ) (key : ℕ) (section : List ℕ) (route : Route)
    → get old key ≡ None → get new key ≡ Some (record { route = route; owners = 1 }) → KeepsOthers old new key
    → IsCanonical section → route_of section ≡ route → None ≡ at_section ids section
    → ChangesAt ids added section (Some key) → AreIndexed old ids → AreIndexed new added
AreIndexed-added old new ids added key section route vacant here others canonical means free more is =
    let w : Owned = record { route = route; owners = 1 } in
    let whole : IsRoute route = subst IsRoute means canonical.route in
    let spelled : canon route ≡ section = ap canon (sym means) ∙ canonical.octets in
    record {
      routes = after_write (λ _ o. IsRoute o.route) old new key w here others whole is.routes;
      owned = after_write (λ _ o. 1 ≤ o.owners) old new key w here others (omega arith) is.owned;
      counted = after_write (λ _ o. o.owners ≤ most_owners) old new key w here others (lit≤ tt) is.counted;
      listed =
          after_write (λ id o. at_section added (canon o.route) ≡ Some id) old new key w here others
          (ap (at_section added) spelled ∙ more.changed)
          (λ id o found. still id o (is.listed id o found));
      living = λ s id found. lives s id found spelled;
    }
  where
    still : (id : ℕ) (o : Owned) → at_section ids (canon o.route) ≡ Some id → at_section added (canon o.route) ≡ Some id
    still id o listed =
        more.others (canon o.route)
        (λ same.
        let taken : at_section ids section ≡ Some id = ap (at_section ids) (sym same) ∙ listed in
        absurd (cc (free, taken)))
        ∙ listed

    lives : (s : List ℕ) (id : ℕ) → at_section added s ≡ Some id → canon route ≡ section → section_at new id ≡ Some s
    lives s id found spelled = elim (sections_differ s section) [
      | inl same ↦
          let one : Some id ≡ Some key = sym found ∙ ap (at_section added) same ∙ more.changed in
          let at : id ≡ key = cc one in
          ap (section_at new) at ∙ ap (option_map (λ o. canon o.route)) here
          ∙ ap (λ s. Some s) (spelled ∙ sym same)
      | inr apart ↦
          let old_one = is.living s id (sym (more.others s apart) ∙ found) in
          let at : id ≢ key = λ same.
          let none : section_at old id ≡ None =
          ap (section_at old) same ∙ ap (option_map (λ o. canon o.route)) vacant in
          absurd (cc (none, old_one)) in
          ap (option_map (λ o. canon o.route)) (others id at) ∙ old_one
    ]

-- a record is gone
pub AreIndexed-removed : (old new : Slab Owned) (ids left : SectionMap ℕ) (key : ℕ) (o : Owned) → get old key ≡ Some o
    → get new key ≡ None → KeepsOthers old new key → ChangesAt ids left (canon o.route) None
    → AreIndexed old ids → AreIndexed new left
AreIndexed-removed old new ids left key o was gone others fewer is = record {
  routes = after_removal (λ _ o. IsRoute o.route) old new key gone others (λ id o _ found. is.routes id o found);
  owned = after_removal (λ _ o. 1 ≤ o.owners) old new key gone others (λ id o _ found. is.owned id o found);
  counted =
      after_removal (λ _ o. o.owners ≤ most_owners) old new key gone others (λ id o _ found. is.counted id o found);
  listed =
      after_removal (λ id o. at_section left (canon o.route) ≡ Some id) old new key gone others
      (λ id o apart found. still id o apart (is.listed id o found));
  living = lives;
}
  where
    section : List ℕ
    section = canon o.route

    still : (id : ℕ) (w : Owned) → id ≢ key → at_section ids (canon w.route) ≡ Some id → at_section left (canon w.route) ≡ Some id
    still id w apart listed =
        fewer.others (canon w.route)
        (λ same.
        let one : Some key ≡ Some id = sym (is.listed key o was) ∙ ap (at_section ids) (sym same) ∙ listed in
        let at : key ≡ id = cc one in
        absurd (apart (sym at)))
        ∙ listed

    lives : (s : List ℕ) (id : ℕ) → at_section left s ≡ Some id → section_at new id ≡ Some s
    lives s id found = elim (sections_differ s section) [
      | inl same ↦
          let none : at_section left s ≡ None = ap (at_section left) same ∙ fewer.changed in
          absurd (cc (none, found))
      | inr apart ↦
          let old_one = is.living s id (sym (fewer.others s apart) ∙ found) in
          let at : id ≢ key = λ same_id.
          let one : Some s ≡ Some section =
          sym old_one ∙ ap (section_at old) same_id ∙ ap (option_map (λ o. canon o.route)) was in
          let same : s ≡ section = cc one in
          apart same in
          ap (option_map (λ o. canon o.route)) (others id at) ∙ old_one
    ]

-- a slab in which each key finds the same, and each section
pub AreIndexed-same : (old new : Slab Owned) (ids after : SectionMap ℕ) → ((key : ℕ) → get new key ≡ get old key)
    → SameSections ids after → AreIndexed old ids → AreIndexed new after
AreIndexed-same old new ids after same sections is = record {
  routes = λ id o found. is.routes id o (sym (same id) ∙ found);
  owned = λ id o found. is.owned id o (sym (same id) ∙ found);
  counted = λ id o found. is.counted id o (sym (same id) ∙ found);
  listed = λ id o found. sections (canon o.route) ∙ is.listed id o (sym (same id) ∙ found);
  living = λ s id found.
      ap (option_map (λ o. canon o.route)) (same id) ∙ is.living s id (sym (sections s) ∙ found);
}

-- without records
pub AreIndexed-empty : (slab : Slab Owned) (ids : SectionMap ℕ) → slab.slots ≡ []
    → ((section : List ℕ) → at_section ids section ≡ None) → AreIndexed slab ids
AreIndexed-empty slab ids empty unlisted = record {
  routes = λ id o found. absurd (cc (none id, found));
  owned = λ id o found. absurd (cc (none id, found));
  counted = λ id o found. absurd (cc (none id, found));
  listed = λ id o found. absurd (cc (none id, found));
  living = λ s id found. absurd (cc (unlisted s, found));
}
  where
    none : (id : ℕ) → get slab id ≡ None
    none id = ap (λ slots. get_or slots id None) empty

some_of : {A B : Type 0} (f : A → B) (x : Option A) (y : B) → option_map f x ≡ Some y
    → (a : A) × (x ≡ Some a) × (f a ≡ y)
some_of f None y e = absurd (cc e)
some_of f (Some a) y e = (a, refl, cc e)

-- the record to whose section an id belongs means the route of the section
pub record IsMeant (slab : Slab Owned) (key : ℕ) (route : Route) : Type 0 where
  pub shared : Owned
  pub there : get slab key ≡ Some shared
  pub means : shared.route ≡ route

pub IsMeant-found : (slab : Slab Owned) (ids : SectionMap ℕ) (section : List ℕ) (key : ℕ) (route : Route)
    → AreIndexed slab ids → route_of section ≡ route → Some key ≡ at_section ids section
    → IsMeant slab key route
IsMeant-found slab ids section key route is means found =
    let some = some_of (λ (o : Owned). canon o.route) (get slab key) section (is.living section key (sym found)) in
    record {
      shared = some.0;
      there = some.1;
      means = sym (route_of-canon some.0.route (is.routes key some.0 some.1)) ∙ ap route_of some.2 ∙ means;
    }

-- a route that lives is listed by its section
pub listed_by_route : (slab : Slab Owned) (ids : SectionMap ℕ) (id : ℕ) (route : Route) → AreIndexed slab ids
    → route_at (entries slab) id ≡ Some route → at_section ids (canon route) ≡ Some id
listed_by_route slab ids id route is lives =
    let some = some_of (λ (o : Owned). o.route) (record_at (entries slab) id) route lives in
    ap (λ r. at_section ids (canon r)) (sym some.2)
    ∙ is.listed id some.0 (sym (value_at-entries slab id) ∙ some.1)

-- what callers know of the records
pub ArePooled-entries : (slab : Slab Owned) (ids : SectionMap ℕ) → AreIndexed slab ids → ArePooled (entries slab)
ArePooled-entries slab ids is = record {
  rising = IsRising-entries slab;
  routes = λ id o found. is.routes id o (sym (value_at-entries slab id) ∙ found);
  owned = λ id o found. is.owned id o (sym (value_at-entries slab id) ∙ found);
  counted = λ id o found. is.counted id o (sym (value_at-entries slab id) ∙ found);
  distinct = λ a b route at_a at_b.
      let first = listed_by_route slab ids a route is at_a in
      let second = listed_by_route slab ids b route is at_b in
      let one : Some a ≡ Some b = sym first ∙ second in
      cc one;
}

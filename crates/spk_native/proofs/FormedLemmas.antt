-- Routes that are read from octets: what each attribute of a section has, the route has.
use Rattle.std.proofs.Common.{◌≡◌, inl, inr, refl, sym, ap, subst, ◌∙◌, ℕ, ◌<◌, true, false, cond, List, [], ◌∷◌, ◌++◌}
use Rattle.std.proofs.Common.{map, fold, Option, Some, None, is_some}
use Rattle.std.specs.Prelude.{◌==◌, ◌||◌}
use Rattle.std.specs.BTreeMap.{is_at}
use Rattle.std.specs.List.{AllByRecursion, concat}
use Rattle.std.specs.List.Sorted.{IsStrictlySortedBy}
use Rattle.std.specs.Map.{keys_of}
use Rattle.std.specs.Ordering.{nat_cmp, is_eq}
use Rattle.std.proofs.Math.Bool.{or-true}
use Rattle.std.proofs.lemmas.Bool.{cases_Bool}
use Rattle.std.proofs.lemmas.Bool.Decides.{eqb_tells}
use Rattle.xb_words.specs.Cut.{cut}
use Rattle.xb_words.specs.Table.{with_value}
use Rattle.xb_words.specs.Octets.{AreOctets}
use Rattle.xb_words.proofs.CutLemmas.{concat-cut}
use Rattle.xb_words.proofs.ListLemmas.{AllByRecursion-left, AllByRecursion-right}
use Rattle.bgp_attr.specs.Attributes.{attribute_size, attributes, header_size, attr_flags, attr_code, attr_value}
use Rattle.bgp_attr.specs.Attributes.{codes_of}
use Rattle.bgp_attr.specs.Routes.{Attribute, Route, attribute_at, with_attribute, without_attribute, kept_flags}
use Rattle.bgp_attr.specs.Routes.{route_of}
use Rattle.bgp_attr.specs.Routes.{IsEntry, IsRoute}
use Rattle.bgp_check.specs.Judgement.{has_code}
use Rattle.bgp_path.proofs.NumbersLemmas.{AreOctets-drop}
use Rattle.xbgp_view.proofs.EditsLemmas.{IsStrictlySortedBy-with_value, kept_flags-kept_flags}
use Rattle.xbgp_view.proofs.LowerLemmas.{eq-nat_cmp, nat_cmp-equal}
use Rattle.spk_native.proofs.RebuildsLemmas.{at-with_value, at-without, is_eq-true, rising-without}

-- the entry that an attribute of a section becomes
abbrev pub read_entry : List ℕ → Attribute
read_entry x = record { flags = kept_flags (attr_flags x); value = attr_value x }

abbrev enter : Route → List ℕ → Route
enter r x = with_attribute r (attr_code x) (attr_flags x) (attr_value x)

-- two codes are one, or the test of a key fails
pub is_at-other : (k q : ℕ) → (k ≡ q → ⊥) → is_at (nat_cmp k) q ≡ false
is_at-other k q differ = elim (cases_Bool (is_eq (nat_cmp k q))) [
  | inl here ↦ absurd (differ (eq-nat_cmp k q (is_eq-true (nat_cmp k q) here)))
  | inr other ↦ other
]

-- what holds of an attribute that is set, and of those of the route, holds of those of the route with it
pub each-with_value : (P : ℕ → Attribute → Type 0) (r : Route) (code : ℕ) (b : Attribute) → P code b
    → ((q : ℕ) (a : Attribute) → attribute_at r q ≡ Some a → P q a) → (q : ℕ) (a : Attribute)
    → attribute_at (with_value nat_cmp r code b) q ≡ Some a → P q a
each-with_value P r code b new old q a e =
    let found : cond (is_at (nat_cmp code) q) (Some b) (attribute_at r q) ≡ Some a =
    sym (at-with_value r code b q) ∙ e in
    elim (cases_Bool (is_at (nat_cmp code) q)) [
      | inl here ↦
          let key : code ≡ q = eq-nat_cmp code q (is_eq-true (nat_cmp code q) here) in
          let some : Some b ≡ Some a = rw here at found in
          let same : b ≡ a = cc some in
          subst (λ (k : ℕ). P k a) key (subst (λ (v : Attribute). P code v) same new)
      | inr other ↦
          let there : attribute_at r q ≡ Some a = rw other at found in
          old q a there
    ]

-- what holds of each attribute that is read holds of the route
entered-each : (P : ℕ → Attribute → Type 0) (xs : List (List ℕ)) (r : Route)
    → AllByRecursion (λ x. P (attr_code x) (read_entry x)) xs
    → ((code : ℕ) (a : Attribute) → attribute_at r code ≡ Some a → P code a)
    → (code : ℕ) (a : Attribute) → attribute_at (fold enter r xs) code ≡ Some a → P code a
entered-each P [] r all old = old
entered-each P (x ∷ xs) r all old =
    entered-each P xs (enter r x) all.1
    (λ q a e. each-with_value P r (attr_code x) (read_entry x) all.0 old q a e)

pub route_of-each : (P : ℕ → Attribute → Type 0) (s : List ℕ)
    → AllByRecursion (λ x. P (attr_code x) (read_entry x)) (attributes s)
    → (code : ℕ) (a : Attribute) → attribute_at (route_of s) code ≡ Some a → P code a
route_of-each P s all = entered-each P (attributes s) [] all (λ code a e. absurd (cc e))

entered-rising : (xs : List (List ℕ)) (r : Route) → IsStrictlySortedBy nat_cmp (keys_of r)
    → IsStrictlySortedBy nat_cmp (keys_of (fold enter r xs))
entered-rising [] r rising = rising
entered-rising (x ∷ xs) r rising =
    entered-rising xs (enter r x) (IsStrictlySortedBy-with_value (attr_code x) (read_entry x) r rising)

pub rising-route_of : (s : List ℕ) → IsStrictlySortedBy nat_cmp (keys_of (route_of s))
unfolding IsStrictlySortedBy
rising-route_of s = entered-rising (attributes s) [] tt

-- a code that was read is there
entered-has : (code : ℕ) (xs : List (List ℕ)) (r : Route)
    → (has_code (map attr_code xs) code || is_some (attribute_at r code)) ≡ true
    → is_some (attribute_at (fold enter r xs) code) ≡ true
entered-has code [] r e = e
entered-has code (x ∷ xs) r e = entered-has code xs (enter r x) (elim (eqb_tells (attr_code x) code) [
  | inl same ↦
      let here : is_at (nat_cmp (attr_code x)) code ≡ true = ap is_eq (nat_cmp-equal (attr_code x) code same.1) in
      let there : is_some (attribute_at (enter r x) code) ≡ true =
      ap is_some (at-with_value r (attr_code x) (read_entry x) code)
      ∙ ap (λ b. is_some (cond b (Some (read_entry x)) (attribute_at r code))) here in
      ap (λ b. has_code (map attr_code xs) code || b) there ∙ or-true (has_code (map attr_code xs) code)
  | inr other ↦
      let past = is_at-other (attr_code x) code other.1 in
      let there : is_some (attribute_at (enter r x) code) ≡ is_some (attribute_at r code) =
      ap is_some (at-with_value r (attr_code x) (read_entry x) code)
      ∙ ap (λ b. is_some (cond b (Some (read_entry x)) (attribute_at r code))) past in
      ap (λ b. has_code (map attr_code xs) code || b) there
      ∙ ap (λ b. (b || has_code (map attr_code xs) code) || is_some (attribute_at r code)) (sym other.0) ∙ e
])

pub is_some-route_of : (s : List ℕ) (code : ℕ) → has_code (codes_of s) code ≡ true
    → is_some (attribute_at (route_of s) code) ≡ true
is_some-route_of s code e =
    entered-has code (attributes s) [] (ap (λ b. b || is_some (attribute_at [] code)) e)

-- a code that was not read is absent
others-read : (code : ℕ) (xs : List (List ℕ)) → has_code (map attr_code xs) code ≡ false
    → AllByRecursion (λ x. (attr_code x == code) ≡ false) xs
others-read code [] e = tt
others-read code (x ∷ xs) e = elim (cases_Bool (attr_code x == code)) [
  | inl here ↦ let no : true ≡ false = rw here at e in absurd (cc no)
  | inr other ↦ (other, others-read code xs (rw other at e))
]

pub absent-route_of : (s : List ℕ) (code : ℕ) → has_code (codes_of s) code ≡ false
    → attribute_at (route_of s) code ≡ None
absent-route_of s code e = go (attribute_at (route_of s) code) refl
  where
    go : (o : Option Attribute) → attribute_at (route_of s) code ≡ o → attribute_at (route_of s) code ≡ None
    go None is = is
    go (Some a) is =
        let other : (code == code) ≡ false =
        route_of-each (λ q a. (q == code) ≡ false) s (others-read code (attributes s) e) code a is in
        elim (eqb_tells code code) [
          | inl same ↦ absurd (cc (same.0, other))
          | inr differs ↦ absurd (differs.1 refl)
        ]

-- a route whose keys rise, with flags that a route keeps and values of octets
pub record IsFormed (r : Route) : Type 0 where
  pub rising : IsStrictlySortedBy nat_cmp (keys_of r)
  pub flags : (code : ℕ) (a : Attribute) → attribute_at r code ≡ Some a → kept_flags a.flags ≡ a.flags
  pub octets : (code : ℕ) (a : Attribute) → attribute_at r code ≡ Some a → AreOctets a.value

items-octets : (xs : List (List ℕ)) → AreOctets (concat xs) → AllByRecursion (λ x. AreOctets (attr_value x)) xs
items-octets [] o = tt
items-octets (x ∷ xs) o = (
  AreOctets-drop (header_size (attr_flags x)) x (AllByRecursion-left (λ b. b < 256) x (concat xs) o),
  items-octets xs (AllByRecursion-right (λ b. b < 256) x (concat xs) o),
)

items-kept : (xs : List (List ℕ))
    → AllByRecursion (λ x. kept_flags (kept_flags (attr_flags x)) ≡ kept_flags (attr_flags x)) xs
items-kept [] = tt
items-kept (x ∷ xs) = (kept_flags-kept_flags (attr_flags x), items-kept xs)

-- a section is read as such a route
pub IsFormed-route_of : (s : List ℕ) → AreOctets s → IsFormed (route_of s)
IsFormed-route_of s o =
    let p = cut attribute_size s in
    let joined : AreOctets (concat p.items ++ p.rest) =
    subst (λ (t : List ℕ). AreOctets t) (sym (concat-cut attribute_size s)) o in
    record {
      rising = rising-route_of s;
      flags = route_of-each (λ code a. kept_flags a.flags ≡ a.flags) s (items-kept (attributes s));
      octets = route_of-each (λ code a. AreOctets a.value) s
          (items-octets (attributes s) (AllByRecursion-left (λ b. b < 256) (concat p.items) p.rest joined));
    }

-- what holds of each entry holds of each attribute
pub each_entry : (Q : ℕ × Attribute → Type 0) (P : ℕ → Attribute → Type 0) (r : Route) → AllByRecursion Q r
    → ((e : ℕ × Attribute) → Q e → P e.0 e.1) → (code : ℕ) (a : Attribute) → attribute_at r code ≡ Some a → P code a
each_entry Q P [] all from code a e = absurd (cc e)
each_entry Q P (x ∷ r) all from code a e = elim (cases_Bool (is_eq (nat_cmp code x.0))) [
  | inl here ↦
      let key : code ≡ x.0 = eq-nat_cmp code x.0 (is_eq-true (nat_cmp code x.0) here) in
      let found : Some x.1 ≡ Some a = rw here at e in
      let same : x.1 ≡ a = cc found in
      subst (λ (k : ℕ). P k a) (sym key) (subst (λ (v : Attribute). P x.0 v) same (from x all.0))
  | inr other ↦ each_entry Q P r all.1 from code a (rw other at e)
]

-- a route that a view shows is one
pub IsFormed-IsRoute : (r : Route) → IsRoute r → IsFormed r
IsFormed-IsRoute r is = record {
  rising = is.rising;
  flags = each_entry IsEntry (λ code a. kept_flags a.flags ≡ a.flags) r is.entries (λ e entry. entry.flags);
  octets = each_entry IsEntry (λ code a. AreOctets a.value) r is.entries (λ e entry. entry.value);
}

-- what is left after a removal was there
pub each-without_attribute : (P : ℕ → Attribute → Type 0) (r : Route) (code : ℕ)
    → IsStrictlySortedBy nat_cmp (keys_of r) → ((q : ℕ) (a : Attribute) → attribute_at r q ≡ Some a → P q a)
    → (q : ℕ) (a : Attribute) → attribute_at (without_attribute r code) q ≡ Some a → P q a
each-without_attribute P r code rising old q a e =
    let found : cond (is_at (nat_cmp code) q) None (attribute_at r q) ≡ Some a = sym (at-without r code q rising) ∙ e in
    elim (cases_Bool (is_at (nat_cmp code) q)) [
      | inl here ↦ let no : None ≡ Some a = rw here at found in absurd (cc no)
      | inr other ↦
          let there : attribute_at r q ≡ Some a = rw other at found in
          old q a there
    ]

pub IsFormed-without_attribute : (r : Route) (code : ℕ) → IsFormed r → IsFormed (without_attribute r code)
IsFormed-without_attribute r code is = record {
  rising = rising-without r code is.rising;
  flags = each-without_attribute (λ q a. kept_flags a.flags ≡ a.flags) r code is.rising is.flags;
  octets = each-without_attribute (λ q a. AreOctets a.value) r code is.rising is.octets;
}

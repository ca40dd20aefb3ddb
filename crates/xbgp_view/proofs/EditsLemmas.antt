-- An edited route is a route.
use Rattle.std.proofs.Common.{◌≡◌, inl, inr, refl, sym, ap, subst, ◌∙◌, ℕ, ◌<◌, ◌≤◌, List, [], ◌∷◌, ◌++◌, length, take}
use Rattle.std.proofs.Common.{drop, arith, ◌+◌, ◌-◌, true, false, is_some, nat_lt, suc}
use Rattle.std.specs.Prelude.{slice_index, ◌==◌, not}
use Rattle.std.specs.List.{AllByRecursion}
use Rattle.std.specs.List.Sorted.{IsStrictlySortedBy}
use Rattle.std.specs.Map.{keys_of}
use Rattle.std.specs.Ordering.{nat_cmp, ordering_reverse}
use Rattle.std.specs.declared.cmp.Ordering.TheVariants.{Less, Equal, Greater}
use Rattle.std.proofs.lemmas.Bool.{cases_Bool, eq-eqb, ne_eqb}
use Rattle.std.proofs.lemmas.Cmp.{nat_cmp_total}
use Rattle.xb_words.specs.Table.{with_value, without}
use Rattle.std.proofs.lemmas.List.{length-append, length-take-le, length-drop}
use Rattle.std.proofs.lemmas.Nat.{and_assoc}
use Rattle.xb_words.specs.Octets.{AreOctets}
use Rattle.bgp_attr.specs.declared.TheConstants.{MAX_CANONICAL}
use Rattle.bgp_attr.specs.declared.flags.TheConstants.{KEPT}
use Rattle.bgp_attr.specs.Routes.{Attribute, Route, route_of, canon, canonical, kept_flags, attribute_at}
use Rattle.bgp_attr.specs.Routes.{with_attribute, without_attribute, IsEntry, IsRoute}
use Rattle.xbgp_view.specs.Sections.{IsCanonical, IsGap, below_code, from_code, past_code}
use Rattle.xbgp_view.proofs.LowerLemmas.{with_value-at_code, without-at_code, front, value_at-from_code}
use Rattle.xbgp_view.proofs.LowerLemmas.{below_code-from_code}
use Rattle.xbgp_view.proofs.FoundLemmas.{canon-append}
use Rattle.xbgp_view.proofs.ReadingLemmas.{route_of-canon, IsCanonical-canon}

module _ (P : ℕ → Type 0) (code : ℕ) (a : Attribute) where
  keys_with : (r : Route) → AllByRecursion P (keys_of r) → P code → AllByRecursion P (keys_of (with_value nat_cmp r code a))
  keys_with [] all here = (here, tt)
  keys_with (e ∷ r) all here = elim (nat_cmp code e.0) as (λ o. nat_cmp code e.0 ≡ o → AllByRecursion P (keys_of (with_value nat_cmp (e ∷ r) code a))) [
    | Less ↦ λ is. rw is (here, all)
    | Equal ↦ λ is. rw is all
    | Greater ↦ λ is. rw is (all.0, keys_with r all.1 here)
  ] refl

  keys_without : (r : Route) → AllByRecursion P (keys_of r) → AllByRecursion P (keys_of (without nat_cmp r code))
  keys_without [] all = tt
  keys_without (e ∷ r) all = elim (nat_cmp code e.0) as (λ o. nat_cmp code e.0 ≡ o → AllByRecursion P (keys_of (without nat_cmp (e ∷ r) code))) [
    | Less ↦ λ is. rw is (all.0, keys_without r all.1)
    | Equal ↦ λ is. rw is all.1
    | Greater ↦ λ is. rw is (all.0, keys_without r all.1)
  ] refl

later_too : (code k : ℕ) (r : Route) → nat_cmp code k ≡ Less → AllByRecursion (λ x. nat_cmp k x ≡ Less) (keys_of r) → AllByRecursion (λ x. nat_cmp code x ≡ Less) (keys_of r)
later_too code k [] l all = tt
later_too code k (e ∷ r) l all = (nat_cmp_total.trans code k e.0 l all.0, later_too code k r l all.1)

-- the keys still rise with a value set
pub IsStrictlySortedBy-with_value : (code : ℕ) (a : Attribute) (r : Route) → IsStrictlySortedBy nat_cmp (keys_of r) → IsStrictlySortedBy nat_cmp (keys_of (with_value nat_cmp r code a))
unfolding IsStrictlySortedBy
IsStrictlySortedBy-with_value code a [] rising = (tt, tt)
IsStrictlySortedBy-with_value code a (e ∷ r) rising = elim (nat_cmp code e.0) as (λ o. nat_cmp code e.0 ≡ o → IsStrictlySortedBy nat_cmp (keys_of (with_value nat_cmp (e ∷ r) code a))) [
  | Less ↦ λ is. rw is ((is, later_too code e.0 r is rising.0), rising)
  | Equal ↦ λ is. rw is rising
  | Greater ↦ λ is. rw is (keys_with (λ x. nat_cmp e.0 x ≡ Less) code a r rising.0 (nat_cmp_total.antisymm e.0 code ∙ ap ordering_reverse is), IsStrictlySortedBy-with_value code a r rising.1)
] refl

-- and with one removed
pub IsStrictlySortedBy-without : (code : ℕ) (a : Attribute) (r : Route) → IsStrictlySortedBy nat_cmp (keys_of r) → IsStrictlySortedBy nat_cmp (keys_of (without nat_cmp r code))
unfolding IsStrictlySortedBy
IsStrictlySortedBy-without code a [] rising = tt
IsStrictlySortedBy-without code a (e ∷ r) rising = elim (nat_cmp code e.0) as (λ o. nat_cmp code e.0 ≡ o → IsStrictlySortedBy nat_cmp (keys_of (without nat_cmp (e ∷ r) code))) [
  | Less ↦ λ is. rw is (keys_without (λ x. nat_cmp e.0 x ≡ Less) code a r rising.0, IsStrictlySortedBy-without code a r rising.1)
  | Equal ↦ λ is. rw is rising.1
  | Greater ↦ λ is. rw is (keys_without (λ x. nat_cmp e.0 x ≡ Less) code a r rising.0, IsStrictlySortedBy-without code a r rising.1)
] refl

-- the entries stay good with one set
pub IsEntry-with_value : (code : ℕ) (a : Attribute) (r : Route) → AllByRecursion IsEntry r → IsEntry (code, a) → AllByRecursion IsEntry (with_value nat_cmp r code a)
IsEntry-with_value code a [] all here = (here, tt)
IsEntry-with_value code a (e ∷ r) all here = elim (nat_cmp code e.0) as (λ o. nat_cmp code e.0 ≡ o → AllByRecursion IsEntry (with_value nat_cmp (e ∷ r) code a)) [
  | Less ↦ λ is. rw is (here, all)
  | Equal ↦ λ is. rw is (record { code = all.0.code; flags = here.flags; value = here.value }, all.1)
  | Greater ↦ λ is. rw is (all.0, IsEntry-with_value code a r all.1 here)
] refl

-- and with one removed
pub IsEntry-without : (code : ℕ) (r : Route) → AllByRecursion IsEntry r → AllByRecursion IsEntry (without nat_cmp r code)
IsEntry-without code [] all = tt
IsEntry-without code (e ∷ r) all = elim (nat_cmp code e.0) as (λ o. nat_cmp code e.0 ≡ o → AllByRecursion IsEntry (without nat_cmp (e ∷ r) code)) [
  | Less ↦ λ is. rw is (all.0, IsEntry-without code r all.1)
  | Equal ↦ λ is. rw is all.1
  | Greater ↦ λ is. rw is (all.0, IsEntry-without code r all.1)
] refl

-- the octets of a route are its section
pub IsCanonical-spelled : (s : List ℕ) (r : Route) → IsRoute r → s ≡ canon r → IsCanonical s × (route_of s ≡ r)
IsCanonical-spelled s r is e = (subst IsCanonical (sym e) (IsCanonical-canon r is), ap route_of e ∙ route_of-canon r is)

-- kept flags are kept
pub kept_flags-kept_flags : (f : ℕ) → kept_flags (kept_flags f) ≡ kept_flags f
kept_flags-kept_flags f = and_assoc KEPT f KEPT

-- a section with an attribute in its gap
pub canon-with_attribute : (s value : List ℕ) (code flags : ℕ) (g : ℕ × ℕ) → IsCanonical s → IsGap code s g
    → take g.0 s ++ (canonical (code, record { flags = kept_flags flags; value = value }) ++ drop g.1 s) ≡ canon (with_attribute (route_of s) code flags value)
canon-with_attribute s value code flags g is gap =
    let r = route_of s in
    let a : Attribute = record { flags = kept_flags flags; value = value } in
    ap (λ t. t ++ (canonical (code, a) ++ drop g.1 s)) gap.before
    ∙ ap (λ t. canon (below_code code r) ++ (canonical (code, a) ++ t)) gap.after
    ∙ sym (canon-append (below_code code r) ((code, a) ∷ past_code code (from_code code r)))
    ∙ ap canon (sym (with_value-at_code code a r))

-- a route with an attribute set, if it is not too long
pub IsRoute-with_attribute : (s value : List ℕ) (code flags : ℕ) → IsCanonical s → code < 256 → AreOctets value → length (canon (with_attribute (route_of s) code flags value)) ≤ MAX_CANONICAL
    → IsRoute (with_attribute (route_of s) code flags value)
IsRoute-with_attribute s value code flags is small octets short =
    let r = route_of s in
    let a : Attribute = record { flags = kept_flags flags; value = value } in
    record {
      rising = IsStrictlySortedBy-with_value code a r is.route.rising;
      entries = IsEntry-with_value code a r is.route.entries (record { code = small; flags = kept_flags-kept_flags flags; value = octets });
      short = short;
    }

-- a section without an attribute
pub canon-without_attribute : (s : List ℕ) (code : ℕ) (g : ℕ × ℕ) → IsCanonical s → IsGap code s g → take g.0 s ++ drop g.1 s ≡ canon (without_attribute (route_of s) code)
canon-without_attribute s code g is gap =
    let r = route_of s in
    ap (λ t. t ++ drop g.1 s) gap.before
    ∙ ap (λ t. canon (below_code code r) ++ t) gap.after
    ∙ sym (canon-append (below_code code r) (past_code code (from_code code r)))
    ∙ ap canon (sym (without-at_code code r is.route.rising))

-- a route with an attribute removed
pub IsRoute-without_attribute : (s : List ℕ) (code : ℕ) (g : ℕ × ℕ) → IsCanonical s → IsGap code s g → IsRoute (without_attribute (route_of s) code)
IsRoute-without_attribute s code g is gap =
    let r = route_of s in
    let size = ap length (sym (canon-without_attribute s code g is gap)) ∙ length-append (take g.0 s) (drop g.1 s) in
    let front = length-take-le g.0 s (omega (arith, gap.order, gap.inside)) in
    let back = length-drop g.1 s in
    let all = ap length is.octets in
    record {
      rising = IsStrictlySortedBy-without code (record { flags = 0; value = [] }) r is.route.rising;
      entries = IsEntry-without code r is.route.entries;
      short = omega (arith, size, front, back, gap.order, gap.inside, all, is.route.short);
    }

-- the length of the section with an attribute in its gap
pub length-canon-with_attribute : (s value : List ℕ) (code flags : ℕ) (g : ℕ × ℕ) → IsCanonical s → IsGap code s g
    → length (canon (with_attribute (route_of s) code flags value)) ≡ g.0 + (length (canonical (code, record { flags = kept_flags flags; value = value })) + (length s - g.1))
length-canon-with_attribute s value code flags g is gap =
    let x = canonical (code, record { flags = kept_flags flags; value = value }) in
    ap length (sym (canon-with_attribute s value code flags g is gap))
    ∙ length-append (take g.0 s) (x ++ drop g.1 s)
    ∙ ap (λ n. n + length (x ++ drop g.1 s)) (length-take-le g.0 s (omega (arith, gap.order, gap.inside)))
    ∙ ap (λ n. g.0 + n) (length-append x (drop g.1 s))
    ∙ ap (λ n. g.0 + (length x + n)) (length-drop g.1 s)

-- a route without an attribute that it does not have
pub without_attribute-absent : (code : ℕ) (r : Route) → is_some (attribute_at r code) ≡ false → without_attribute r code ≡ r
without_attribute-absent code [] e = refl
without_attribute-absent code (x ∷ r) e = elim (nat_cmp code x.0) as (λ o. nat_cmp code x.0 ≡ o → without_attribute (x ∷ r) code ≡ x ∷ r) [
  | Less ↦ λ is. rw is (ap (λ (l : Route). x ∷ l) (without_attribute-absent code r (rw is at e)))
  | Equal ↦ λ is. let no : true ≡ false = rw is at e in absurd (cc no)
  | Greater ↦ λ is. rw is (ap (λ (l : Route). x ∷ l) (without_attribute-absent code r (rw is at e)))
] refl

-- each octet of a slice
pub AreOctets-slice : (s : List ℕ) → ((i : ℕ) → slice_index s i < 256) → AreOctets s
AreOctets-slice [] each = tt
AreOctets-slice (b ∷ s) each = (each 0, AreOctets-slice s (λ i. each (suc i)))

canonical_some : (e : ℕ × Attribute) → 0 < length (canonical e)
canonical_some e = elim (cases_Bool (nat_lt 255 (length e.1.value))) [
  | inl long ↦ rw long (omega arith)
  | inr short ↦ rw short (omega arith)
]

front_there : (code : ℕ) (r : Route) → is_some (front code r) ≡ true
    → length (canon (past_code code r)) < length (canon r)
front_there code [] e = absurd (cc e)
front_there code (x ∷ r) e = elim (cases_Bool (x.0 == code)) [
  | inl here ↦ rw here (omega (arith, length-append (canonical x) (canon r), canonical_some x))
  | inr other ↦ let no : false ≡ true = rw other at e in absurd (cc no)
]

front_absent : (code : ℕ) (r : Route) → is_some (front code r) ≡ false → past_code code r ≡ r
front_absent code [] e = refl
front_absent code (x ∷ r) e = elim (cases_Bool (x.0 == code)) [
  | inl here ↦ let no : true ≡ false = rw here at e in absurd (cc no)
  | inr other ↦ rw other refl
]

-- a gap is empty exactly if the code is absent
pub gap-empty : (code : ℕ) (s : List ℕ) (g : ℕ × ℕ) → IsCanonical s → IsGap code s g
    → g.0 == g.1 ≡ not (is_some (attribute_at (route_of s) code))
gap-empty code s g is gap =
    let r = route_of s in
    let l = below_code code r in
    let u = from_code code r in
    let at = value_at-from_code code r is.route.rising in
    let front_len = sym (length-take-le g.0 s (omega (arith, gap.order, gap.inside))) ∙ ap length gap.before in
    let back_len = sym (length-drop g.1 s) ∙ ap length gap.after in
    let whole = ap length (sym (canon-append l u) ∙ ap canon (below_code-from_code code r) ∙ is.octets) in
    let sum = length-append (canon l) (canon u) in
    elim (cases_Bool (is_some (front code u))) [
      | inl there ↦
          let less = front_there code u there in
          rw (at, there) (ne_eqb g.0 g.1 (λ e. omega (arith, e, gap.inside, front_len, back_len, whole, sum, less)))
      | inr absent ↦
          let same = ap (λ t. length (canon t)) (front_absent code u absent) in
          rw (at, absent) (eq-eqb g.0 g.1 (omega (arith, gap.inside, front_len, back_len, whole, sum, same)))
    ]

-- A route is written from what a view shows of it, code by code.
use Rattle.std.proofs.Common.{◌≡◌, inl, inr, refl, sym, ap, ◌∙◌, ℕ, ◌+◌, ◌<◌, ◌≤◌, true, false, List, [], ◌∷◌, ◌++◌}
use Rattle.std.proofs.Common.{length, take, drop, Option, Some, None, arith, nat_le, nat_lt, unwrap_or}
use Rattle.std.specs.Option.{option_map}
use Rattle.std.specs.List.{AllByRecursion}
use Rattle.std.specs.Ordering.{nat_cmp}
use Rattle.std.specs.declared.cmp.Ordering.TheVariants.{Less, Equal, Greater}
use Rattle.std.proofs.lemmas.Bool.{cases_Bool, ltb-true, ltb-false, le-leb, lt-leb, le-ltb, lt-ltb}
use Rattle.std.proofs.lemmas.List.{length-append, length-drop, take_at, append-nil}
use Rattle.std.specs.List.Sorted.{IsStrictlySortedBy}
use Rattle.std.specs.Map.{keys_of}
use Rattle.bgp_attr.specs.declared.TheConstants.{MAX_CANONICAL}
use Rattle.bgp_attr.specs.Routes.{Attribute, Route, attribute_at, canon, canonical, kept_flags, IsEntry, IsRoute}
use Rattle.xbgp_view.specs.Views.{code_from, copied, flags_and_length}
use Rattle.xbgp_view.specs.Sections.{entry_of, entry_octets, below_code, from_code}
use Rattle.xbgp_view.proofs.CanonicalLemmas.{length-value-canonical}
use Rattle.xbgp_view.proofs.FoundLemmas.{canon-append}
use Rattle.xbgp_view.proofs.LowerLemmas.{below_code-from_code, nat_cmp-greater, nat_cmp-equal, lt-nat_cmp}

-- the value of an attribute that is there
abbrev pub value_in : Option Attribute → List ℕ
value_in None = []
value_in (Some a) = a.value

-- an attribute whose flags and length are shown
pub flags_and_length-some : (o : Option Attribute) (flags n : ℕ) → ◌≡◌ {A = Option (ℕ × ℕ)} (Some (flags, n)) (option_map (λ a. (a.flags, length a.value)) o)
    → (o ≡ Some (record { flags = flags; value = value_in o })) × (length (value_in o) ≡ n)
flags_and_length-some None flags n e = absurd (cc e)
flags_and_length-some (Some a) flags n e =
    let pair : ◌≡◌ {A = ℕ × ℕ} (flags, n) (a.flags, length a.value) = ap (λ o. unwrap_or o (flags, n)) e in
    let same : flags ≡ a.flags = ap (λ (p : ℕ × ℕ). p.0) pair in
    let size : n ≡ length a.value = ap (λ (p : ℕ × ℕ). p.1) pair in
    (ap (λ f. Some (record { flags = f; value = a.value })) (sym same), sym size)

-- an attribute of a route is one that a section can spell, and its value is short
pub IsEntry-attribute_at : (r : Route) (code : ℕ) (a : Attribute) → AllByRecursion IsEntry r → attribute_at r code ≡ Some a → (kept_flags a.flags ≡ a.flags) × (length a.value ≤ length (canon r))
IsEntry-attribute_at [] code a all e = absurd (cc e)
IsEntry-attribute_at (x ∷ r) code a all e =
    let sum = length-append (canonical x) (canon r) in
    elim (nat_cmp code x.0) as (λ o. nat_cmp code x.0 ≡ o → (kept_flags a.flags ≡ a.flags) × (length a.value ≤ length (canon (x ∷ r)))) [
      | Less ↦ λ is. let rest = IsEntry-attribute_at r code a all.1 (rw is at e) in (rest.0, omega (arith, rest.1, sum))
      | Equal ↦ λ is.
          let found : Some x.1 ≡ Some a = rw is at e in
          let same : x.1 ≡ a = cc found in (
            ap (λ (b : Attribute). kept_flags b.flags) (sym same) ∙ all.0.flags ∙ ap (λ (b : Attribute). b.flags) same,
            omega (arith, ap (λ (b : Attribute). length b.value) same, length-value-canonical x, sum),
          )
      | Greater ↦ λ is. let rest = IsEntry-attribute_at r code a all.1 (rw is at e) in (rest.0, omega (arith, rest.1, sum))
    ] refl

-- what was copied of an attribute spells it again
pub record IsRead (r : Route) (code flags n : ℕ) (new : List ℕ) : Type 0 where
  pub len : length new ≡ MAX_CANONICAL
  pub fits : n ≤ length new
  pub kept : kept_flags flags ≡ flags
  pub octets : canonical (code, record { flags = flags; value = take n new }) ≡ entry_octets code (attribute_at r code)

-- what was copied of an attribute
pub IsRead-copied : (r : Route) (code flags n : ℕ) (old new : List ℕ) → IsRoute r → ◌≡◌ {A = Option (ℕ × ℕ)} (Some (flags, n)) (flags_and_length r code) → length old ≡ MAX_CANONICAL
    → new ≡ copied (attribute_at r code) old → IsRead r code flags n new
IsRead-copied r code flags n old new is told size e =
    let k = flags_and_length-some (attribute_at r code) flags n told in
    let v = value_in (attribute_at r code) in
    let entry = IsEntry-attribute_at r code (record { flags = flags; value = v }) is.entries k.0 in
    let short : length v ≤ length old = omega (arith, entry.1, is.short, size) in
    let here : new ≡ v ++ drop (length v) old = e ∙ ap (λ o. copied o old) k.0 ∙ rw (le-ltb (length old) (length v) short) refl in
    let total : length new ≡ length old = ap length here ∙ length-append v (drop (length v) old) ∙ ap (λ m. length v + m) (length-drop (length v) old) ∙ omega (arith, short) in
    record {
      len = total ∙ size;
      fits = omega (arith, k.1, short, total);
      kept = entry.0;
      octets = ap (λ t. canonical (code, record { flags = flags; value = t })) (ap (take n) here ∙ take_at v (drop (length v) old) n k.1)
          ∙ ap (entry_octets code) (sym k.0);
    }

-- an attribute that a route has can be spelled
pub record IsOfRoute (a : Attribute) : Type 0 where
  pub kept : kept_flags a.flags ≡ a.flags
  pub short : length a.value ≤ MAX_CANONICAL

pub IsOfRoute-attribute_at : (r : Route) (code : ℕ) (a : Attribute) → IsRoute r → Some a ≡ attribute_at r code
    → IsOfRoute a
IsOfRoute-attribute_at r code a is e =
    let entry = IsEntry-attribute_at r code a is.entries (sym e) in
    record { kept = entry.0; short = omega (arith, entry.1, is.short) }

-- the entries below the next code are those below a number, and the entry that was found
pub record IsNext (r : Route) (from code : ℕ) : Type 0 where
  pub past : from ≤ code
  pub inside : code < 256
  pub lower : below_code (code + 1) r ≡ below_code from r ++ entry_of code (attribute_at r code)

canon-entry_of : (code : ℕ) (o : Option Attribute) → canon (entry_of code o) ≡ entry_octets code o
canon-entry_of code None = refl
canon-entry_of code (Some a) = append-nil (canonical (code, a))

-- so the octets of the next entry follow those of the entries below
pub canon-below_code-next : (r : Route) (from code : ℕ) → IsNext r from code → canon (below_code (code + 1) r) ≡ canon (below_code from r) ++ entry_octets code (attribute_at r code)
canon-below_code-next r from code next =
    ap canon next.lower
    ∙ canon-append (below_code from r) (entry_of code (attribute_at r code))
    ∙ ap (λ t. canon (below_code from r) ++ t) (canon-entry_of code (attribute_at r code))

none_lower : (code k : ℕ) (r : Route) → code ≤ k → AllByRecursion (λ x. nat_cmp k x ≡ Less) (keys_of r) → below_code (code + 1) r ≡ []
none_lower code k [] l all = refl
none_lower code k (e ∷ r) l all =
    let above : k < e.0 = lt-nat_cmp k e.0 all.0 in
    rw (le-ltb e.0 (code + 1) (omega (arith, above, l))) refl

-- the next code that a view shows
pub IsNext-code_from : (r : Route) (from code : ℕ) → AllByRecursion IsEntry r → IsStrictlySortedBy nat_cmp (keys_of r) → Some code ≡ code_from r from → IsNext r from code
unfolding IsStrictlySortedBy
IsNext-code_from [] from code all rising e = absurd (cc e)
IsNext-code_from (x ∷ r) from code all rising e = elim (cases_Bool (nat_lt x.0 from)) [
  | inl below ↦
      let no : nat_le from x.0 ≡ false = lt-leb from x.0 (ltb-true x.0 from below) in
      let n = IsNext-code_from r from code all.1 rising.1 (rw no at e) in
      let before : x.0 < code = omega (arith, n.past, ltb-true x.0 from below) in
      record {
        past = n.past;
        inside = n.inside;
        lower = rw (below, lt-ltb x.0 (code + 1) (omega (arith, before)), nat_cmp-greater code x.0 before)
            (ap (λ (l : Route). x ∷ l) n.lower);
      }
  | inr here ↦
      let yes : nat_le from x.0 ≡ true = le-leb from x.0 (ltb-false x.0 from here) in
      let found : Some code ≡ Some x.0 = rw yes at e in
      let same : code ≡ x.0 = cc found in
      record {
        past = omega (arith, same, ltb-false x.0 from here);
        inside = omega (arith, same, all.0.code);
        lower = rw (here, lt-ltb x.0 (code + 1) (omega (arith, same)), nat_cmp-equal code x.0 same, none_lower code x.0 r (omega (arith, same)) rising.0)
            (ap (λ k. (k, x.1) ∷ []) (sym same));
      }
]

-- if no code is left, all entries are below
pub below_code-all : (r : Route) (from : ℕ) → None ≡ code_from r from → below_code from r ≡ r
below_code-all [] from e = refl
below_code-all (x ∷ r) from e = elim (cases_Bool (nat_lt x.0 from)) [
  | inl below ↦
      let no : nat_le from x.0 ≡ false = lt-leb from x.0 (ltb-true x.0 from below) in
      rw below (ap (λ (l : Route). x ∷ l) (below_code-all r from (rw no at e)))
  | inr here ↦
      let yes : nat_le from x.0 ≡ true = le-leb from x.0 (ltb-false x.0 from here) in
      let found : None ≡ Some x.0 = rw yes at e in
      absurd (cc found)
]

-- no entry is below 0
pub below_code-zero : (r : Route) → below_code 0 r ≡ []
below_code-zero [] = refl
below_code-zero (x ∷ r) = rw (le-ltb x.0 0 (omega arith)) refl

-- the entries below a number are part of the route
pub length-canon-below_code : (r : Route) (from : ℕ) → length (canon (below_code from r)) ≤ length (canon r)
length-canon-below_code r from = omega (arith, ap length (sym (canon-append (below_code from r) (from_code from r)) ∙ ap canon (below_code-from_code from r)), length-append (canon (below_code from r)) (canon (from_code from r)))

-- The section that a peer is sent, part by part of the route.
use Rattle.std.proofs.Common.{◌≡◌, inl, inr, refl, sym, ap, ◌∙◌, ℕ, ◌+◌, ◌≤◌, Bool, true, false, List, [], ◌∷◌, ◌++◌, length}
use Rattle.std.proofs.Common.{◌<◌, Some, arith, append_assoc, nat_le, unwrap_or}
use Rattle.std.specs.Prelude.{is_some, not}
use Rattle.std.specs.List.{AllByRecursion, list_all}
use Rattle.std.specs.List.Sorted.{IsStrictlySortedBy}
use Rattle.std.specs.Map.{keys_of}
use Rattle.std.specs.Ordering.{nat_cmp}
use Rattle.std.specs.declared.cmp.Ordering.TheVariants.{Less}
use Rattle.std.proofs.lemmas.Bool.{cases_Bool, le-leb, leb-false, leb-true, lt-leb}
use Rattle.std.proofs.lemmas.List.{length-append, append-nil}
use Rattle.bgp_attr.specs.Routes.{Attribute, Route, attribute_at, canon, canonical}
use Rattle.bgp_attr.specs.Rules.{is_known}
use Rattle.xbgp_view.specs.Sections.{entry_of, below_code}
use Rattle.xbgp_view.specs.Views.{code_from}
use Rattle.xbgp_view.proofs.LowerLemmas.{lt-nat_cmp}
use Rattle.xbgp_view.proofs.ViewsLemmas.{IsNext}
use Rattle.spk_native.specs.Export.{is_passed_on, native_section}

native_section-append : (l u : Route) → native_section (l ++ u) ≡ native_section l ++ native_section u
native_section-append [] u = refl
native_section-append (e ∷ l) u = elim (cases_Bool (is_passed_on e)) [
  | inl sent ↦ rw sent (ap (λ t. canonical e ++ t) (native_section-append l u)
      ∙ sym (append_assoc (canonical e) (native_section l) (native_section u)))
  | inr left ↦ rw left (native_section-append l u)
]

-- no more is sent than the route has
pub length-native_section : (r : Route) → length (native_section r) ≤ length (canon r)
length-native_section [] = omega arith
length-native_section (e ∷ r) = elim (cases_Bool (is_passed_on e)) [
  | inl sent ↦ rw sent (omega (
    arith,
    length-native_section r,
    length-append (canonical e) (native_section r),
    length-append (canonical e) (canon r),
  ))
  | inr left ↦ rw left (omega (arith, length-native_section r, length-append (canonical e) (canon r)))
]

-- the octets of the next entry follow those of the entries below
pub native_section-next : (r : Route) (from code : ℕ) → IsNext r from code
    → native_section (below_code (code + 1) r)
    ≡ native_section (below_code from r) ++ native_section (entry_of code (attribute_at r code))
native_section-next r from code next =
    ap native_section next.lower ∙ native_section-append (below_code from r) (entry_of code (attribute_at r code))

same_attribute : (flags : ℕ) (value : List ℕ) (a : Attribute) → flags ≡ a.flags → value ≡ a.value
    → ◌≡◌ {A = Attribute} a (record { flags = flags; value = value })
same_attribute flags value a f v =
    let here : ◌≡◌ {A = Attribute} (record { flags = flags; value = value })
    (record { flags = a.flags; value = value }) =
    ap (λ n. record { flags = n; value = value }) f in
    let there : ◌≡◌ {A = Attribute} (record { flags = a.flags; value = value }) a =
    ap (λ (t : List ℕ). record { flags = a.flags; value = t }) v in
    sym (here ∙ there)

-- an entry that is not sent
pub native_section-left_out : (r : Route) (code flags : ℕ) (a : Attribute) → Some a ≡ attribute_at r code
    → flags ≡ a.flags → ((value : List ℕ) → false ≡ is_passed_on (code, record { flags = flags; value = value }))
    → native_section (entry_of code (attribute_at r code)) ≡ []
native_section-left_out r code flags a there f left =
    let found : attribute_at r code ≡ Some (record { flags = flags; value = a.value }) =
    sym there ∙ ap (λ (b : Attribute). Some b) (same_attribute flags a.value a f refl) in
    rw (found, sym (left a.value)) refl

-- an entry that is sent
pub native_section-sent : (r : Route) (code flags : ℕ) (value : List ℕ) (a : Attribute) → Some a ≡ attribute_at r code
    → flags ≡ a.flags → value ≡ a.value → true ≡ is_passed_on (code, record { flags = flags; value = value })
    → native_section (entry_of code (attribute_at r code)) ≡ canonical (code, record { flags = flags; value = value })
native_section-sent r code flags value a there f v sent =
    let found : attribute_at r code ≡ Some (record { flags = flags; value = value }) =
    sym there ∙ ap (λ (b : Attribute). Some b) (same_attribute flags value a f v) in
    rw (found, sym sent) (append-nil (canonical (code, record { flags = flags; value = value })))

-- all is sent of a route whose codes have rules of their own
pub native_section-known : (r : Route) → list_all (λ e. is_known e.0) r ≡ true → native_section r ≡ canon r
native_section-known [] all = refl
native_section-known (e ∷ r) all = elim (cases_Bool (is_known e.0)) [
  | inl known ↦ rw known (ap (λ t. canonical e ++ t) (native_section-known r (rw known at all)))
  | inr other ↦ let never : false ≡ true = rw other at all in absurd (cc never)
]

-- codes above a number have rules of their own if none is above the last that has
known-above : (k : ℕ) (r : Route) → AllByRecursion (λ n. nat_cmp k n ≡ Less) (keys_of r)
    → not (is_some (code_from r 8)) ≡ list_all (λ e. is_known e.0) r
known-above k [] above = refl
known-above k (e ∷ r) above =
    let least = le-leb 1 e.0 (omega (arith, lt-nat_cmp k e.0 above.0)) in
    elim (cases_Bool (nat_le 8 e.0)) [
      | inl past ↦ rw (past, least, lt-leb e.0 7 (omega (arith, leb-true 8 e.0 past))) refl
      | inr low ↦ rw (low, least, le-leb e.0 7 (omega (arith, leb-false 8 e.0 low))) (known-above k r above.1)
    ]

-- the same of all codes of a route whose first is not 0
pub known-least : (r : Route) → IsStrictlySortedBy nat_cmp (keys_of r) → 1 ≤ unwrap_or (code_from r 0) 1
    → not (is_some (code_from r 8)) ≡ list_all (λ e. is_known e.0) r
unfolding IsStrictlySortedBy
known-least [] rising least = refl
known-least (e ∷ r) rising least =
    let first : 1 ≤ e.0 = rw (le-leb 0 e.0 (omega arith)) at least in
    elim (cases_Bool (nat_le 8 e.0)) [
      | inl past ↦
          rw (past, le-leb 1 e.0 first, lt-leb e.0 7 (omega (arith, leb-true 8 e.0 past))) refl
      | inr low ↦
          rw (low, le-leb 1 e.0 first, le-leb e.0 7 (omega (arith, leb-false 8 e.0 low)))
          (known-above e.0 r rising.0)
    ]

-- a route whose first code is 0 has one without a rule of its own
pub known-zero : (r : Route) → unwrap_or (code_from r 0) 1 < 1 → false ≡ list_all (λ e. is_known e.0) r
known-zero [] none = absurd (omega (arith, none))
known-zero (e ∷ r) none =
    let first : e.0 < 1 = rw (le-leb 0 e.0 (omega arith)) at none in
    rw (lt-leb 1 e.0 first) refl

-- one test is the contrary of another
pub not-swapped : (a b : Bool) → a ≡ not b → b ≡ not a
not-swapped a true is = sym (ap not is)
not-swapped a false is = sym (ap not is)

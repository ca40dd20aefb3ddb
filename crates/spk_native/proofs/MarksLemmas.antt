-- Attributes that are marked as partial one after another: what a route has then, and how long its section is.
use Rattle.std.proofs.Common.{◌≡◌, inl, inr, refl, sym, ap, subst, ◌∙◌, ℕ, ◌+◌, ◌<◌, ◌≤◌, Bool, true, false, List, []}
use Rattle.std.proofs.Common.{◌∷◌, length, map, Option, Some, None, arith, min, nat_le, nat_lt}
use Rattle.std.specs.Prelude.{bit_and, bit_or, not, ◌&&◌, ◌==◌, if◌then◌else◌}
use Rattle.std.specs.Int.{bit_at}
use Rattle.std.specs.Option.{option_map}
use Rattle.std.specs.List.{AllByRecursion}
use Rattle.std.specs.List.Sorted.{IsStrictlySortedBy}
use Rattle.std.specs.Map.{keys_of}
use Rattle.std.specs.Ordering.{nat_cmp, is_eq}
use Rattle.std.specs.declared.cmp.Ordering.TheVariants.{Less, Equal, Greater}
use Rattle.std.proofs.lemmas.Bool.{cases_Bool, le-ltb, lt-ltb, le-leb, lt-leb, ltb-true, ltb-false, leb-true, eq-eqb}
use Rattle.std.proofs.lemmas.Bool.Decides.{eqb_tells}
use Rattle.std.proofs.lemmas.List.{length-append}
use Rattle.std.proofs.lemmas.Nat.Bits.{bit_at_and, bit_at_or, same_from_bits}
use Rattle.xb_words.specs.Table.{with_value}
use Rattle.bgp_attr.specs.declared.flags.TheConstants.{PARTIAL}
use Rattle.bgp_attr.specs.declared.TheConstants.{MAX_CANONICAL}
use Rattle.bgp_attr.specs.Routes.{Attribute, Route, attribute_at, with_attribute, canon, canonical, kept_flags, IsRoute}
use Rattle.bgp_attr.specs.Rules.{is_known}
use Rattle.xbgp_view.specs.Views.{code_from, flags_and_length}
use Rattle.xbgp_view.proofs.LengthsLemmas.{length-canonical}
use Rattle.xbgp_view.proofs.ViewsLemmas.{IsEntry-attribute_at}
use Rattle.xbgp_view.proofs.LowerLemmas.{eq-nat_cmp, lt-nat_cmp, nat_cmp-equal, below_none, past_all}
use Rattle.spk_native.specs.Export.{is_transitive, marked_partial}
use Rattle.spk_native.specs.Marks.{marked_at, marked_below}
use Rattle.spk_native.proofs.RebuildsLemmas.{is_eq-true}

-- an entry is marked
abbrev pub is_marked : ℕ × Attribute → Bool
is_marked e = not (is_known e.0) && is_transitive e.1.flags

-- it keeps its code and its value
key-marked_partial : (e : ℕ × Attribute) → (marked_partial e).0 ≡ e.0
key-marked_partial e = elim (cases_Bool (is_marked e)) [ inl marked ↦ rw marked refl | inr left ↦ rw left refl ]

value-marked_partial : (e : ℕ × Attribute) → (marked_partial e).1.value ≡ e.1.value
value-marked_partial e = elim (cases_Bool (is_marked e)) [ inl marked ↦ rw marked refl | inr left ↦ rw left refl ]

whole-marked_partial : (e : ℕ × Attribute) → marked_partial e ≡ (e.0, (marked_partial e).1)
whole-marked_partial e = ap (λ k. (k, (marked_partial e).1)) (key-marked_partial e)

-- one that is recognized stays
pub known-marked_partial : (e : ℕ × Attribute) → is_known e.0 ≡ true → marked_partial e ≡ e
known-marked_partial e known = rw known refl

apart : (a b : ℕ) → b < a → (a == b) ≡ false
apart a b above = elim (eqb_tells a b) [
  | inl same ↦ absurd (omega (arith, same.1, above))
  | inr other ↦ other.0
]

-- entries above a code stay
marked_at-above : (code : ℕ) (r : Route) → AllByRecursion (λ x. nat_cmp code x ≡ Less) (keys_of r)
    → marked_at code r ≡ r
marked_at-above code [] all = refl
marked_at-above code (e ∷ r) all =
    ap (λ b. (if b then marked_partial e else e) ∷ marked_at code r) (apart e.0 code (lt-nat_cmp code e.0 all.0))
    ∙ ap (λ (l : Route). e ∷ l) (marked_at-above code r all.1)

marked_below-above : (n code : ℕ) (r : Route) → n ≤ code + 1 → AllByRecursion (λ x. nat_cmp code x ≡ Less) (keys_of r)
    → marked_below n r ≡ r
marked_below-above n code [] h all = refl
marked_below-above n code (e ∷ r) h all =
    ap (λ b. (if b then marked_partial e else e) ∷ marked_below n r)
    (le-ltb e.0 n (omega (arith, lt-nat_cmp code e.0 all.0, h)))
    ∙ ap (λ (l : Route). e ∷ l) (marked_below-above n code r h all.1)

-- the codes stay
key-marked_below : (n : ℕ) (e : ℕ × Attribute) → (if nat_lt e.0 n then marked_partial e else e).0 ≡ e.0
key-marked_below n e = elim (cases_Bool (nat_lt e.0 n)) [
  | inl below ↦ rw below (key-marked_partial e)
  | inr above ↦ rw above refl
]

pub keys_of-marked_below : (n : ℕ) (r : Route) → keys_of (marked_below n r) ≡ keys_of r
keys_of-marked_below n [] = refl
keys_of-marked_below n (e ∷ r) =
    ap (λ k. k ∷ keys_of (marked_below n r)) (key-marked_below n e)
    ∙ ap (λ (l : List ℕ). e.0 ∷ l) (keys_of-marked_below n r)

code_from-cons : (d e : ℕ × Attribute) (l r : Route) (from : ℕ) → d.0 ≡ e.0 → code_from l from ≡ code_from r from
    → code_from (d ∷ l) from ≡ code_from (e ∷ r) from
code_from-cons d e l r from key rest = elim (cases_Bool (nat_le from e.0)) [
  | inl here ↦ let here' : nat_le from d.0 ≡ true = ap (nat_le from) key ∙ here in rw (here, here') (ap Some key)
  | inr past ↦ let past' : nat_le from d.0 ≡ false = ap (nat_le from) key ∙ past in rw (past, past') rest
]

pub code_from-marked_below : (n : ℕ) (r : Route) (from : ℕ) → code_from (marked_below n r) from ≡ code_from r from
code_from-marked_below n [] from = refl
code_from-marked_below n (e ∷ r) from =
    code_from-cons (if nat_lt e.0 n then marked_partial e else e) e (marked_below n r) r from (key-marked_below n e)
    (code_from-marked_below n r from)

-- the codes 1 to 7 are recognized, so marking them marks nothing
pub marked_below-known : (r : Route) → marked_at 0 r ≡ marked_below 8 r
marked_below-known [] = refl
marked_below-known (e ∷ r) = ap (λ (d : ℕ × Attribute). d ∷ marked_at 0 r) first
    ∙ ap (λ (l : Route). (if nat_lt e.0 8 then marked_partial e else e) ∷ l) (marked_below-known r)
  where
    first : (if e.0 == 0 then marked_partial e else e) ≡ (if nat_lt e.0 8 then marked_partial e else e)
    first = elim (eqb_tells e.0 0) [
      | inl same ↦ rw (same.0, lt-ltb e.0 8 (omega (arith, same.1))) refl
      | inr other ↦ elim (cases_Bool (nat_lt e.0 8)) [
        | inl below ↦
            let known : is_known e.0 ≡ true =
            rw (le-leb 1 e.0 (omega (arith, other.1)), le-leb e.0 7 (omega (arith, ltb-true e.0 8 below))) refl in
            rw (other.0, below) (sym (known-marked_partial e known))
        | inr above ↦ rw (other.0, above) refl
      ]
    ]

-- if no code is left, all are marked
pub marked_below-all : (r : Route) (from : ℕ) → None ≡ code_from r from → marked_below from r ≡ map marked_partial r
marked_below-all [] from e = refl
marked_below-all (x ∷ r) from e = elim (cases_Bool (nat_lt x.0 from)) [
  | inl below ↦
      let no : nat_le from x.0 ≡ false = lt-leb from x.0 (ltb-true x.0 from below) in
      rw below (ap (λ (l : Route). marked_partial x ∷ l) (marked_below-all r from (rw no at e)))
  | inr here ↦
      let yes : nat_le from x.0 ≡ true = le-leb from x.0 (ltb-false x.0 from here) in
      let found : None ≡ Some x.0 = rw yes at e in
      absurd (cc found)
]

past-code_from : (r : Route) (from code : ℕ) → Some code ≡ code_from r from → from ≤ code
past-code_from [] from code e = absurd (cc e)
past-code_from (x ∷ r) from code e = elim (cases_Bool (nat_le from x.0)) [
  | inl here ↦
      let found : Some code ≡ Some x.0 = rw here at e in
      let same : code ≡ x.0 = cc found in
      omega (arith, same, leb-true from x.0 here)
  | inr past ↦ past-code_from r from code (rw past at e)
]

-- the next code is marked
pub marked_at-marked_below : (r : Route) (from code : ℕ) → IsStrictlySortedBy nat_cmp (keys_of r)
    → Some code ≡ code_from r from → marked_at code (marked_below from r) ≡ marked_below (code + 1) r
unfolding IsStrictlySortedBy
marked_at-marked_below [] from code rising e = absurd (cc e)
marked_at-marked_below (x ∷ r) from code rising e = elim (cases_Bool (nat_lt x.0 from)) [
  | inl below ↦
      let no : nat_le from x.0 ≡ false = lt-leb from x.0 (ltb-true x.0 from below) in
      let later : Some code ≡ code_from r from = rw no at e in
      let before : x.0 < code = omega (arith, past-code_from r from code later, ltb-true x.0 from below) in
      let other : ((marked_partial x).0 == code) ≡ false = elim (eqb_tells (marked_partial x).0 code) [
        | inl same ↦ absurd (omega (arith, same.1, key-marked_partial x, before))
        | inr differs ↦ differs.0
      ] in
      ap (λ (d : ℕ × Attribute). marked_at code (d ∷ marked_below from r))
      (ap (λ b. if b then marked_partial x else x) below)
      ∙ ap (λ b. (if b then marked_partial (marked_partial x) else (marked_partial x))
      ∷ marked_at code (marked_below from r)) other
      ∙ ap (λ (l : Route). marked_partial x ∷ l) (marked_at-marked_below r from code rising.1 later)
      ∙ ap (λ b. (if b then marked_partial x else x) ∷ marked_below (code + 1) r)
      (sym (lt-ltb x.0 (code + 1) (omega (arith, before))))
  | inr here ↦
      let yes : nat_le from x.0 ≡ true = le-leb from x.0 (ltb-false x.0 from here) in
      let found : Some code ≡ Some x.0 = rw yes at e in
      let same : code ≡ x.0 = cc found in
      let above : AllByRecursion (λ k. nat_cmp code k ≡ Less) (keys_of r) =
      subst (λ c. AllByRecursion (λ k. nat_cmp c k ≡ Less) (keys_of r)) (sym same) rising.0 in
      ap (λ b. marked_at code ((if b then marked_partial x else x) ∷ marked_below from r)) here
      ∙ ap (λ b. (if b then marked_partial x else x) ∷ marked_at code (marked_below from r))
      (eq-eqb x.0 code (sym same))
      ∙ ap (λ (l : Route). marked_partial x ∷ marked_at code l)
      (marked_below-above from code r (omega (arith, same, ltb-false x.0 from here)) above)
      ∙ ap (λ (l : Route). marked_partial x ∷ l)
      (marked_at-above code r above ∙ sym (marked_below-above (code + 1) code r (omega arith) above))
      ∙ ap (λ b. (if b then marked_partial x else x) ∷ marked_below (code + 1) r)
      (sym (lt-ltb x.0 (code + 1) (omega (arith, same))))
]

-- the route with a marked attribute, if there is one
abbrev set_marked : ℕ → Option Attribute → Route → Route
set_marked code None r = r
set_marked code (Some a) r = with_value nat_cmp r code (marked_partial (code, a)).1

set_marked-cons : (code : ℕ) (o : Option Attribute) (e : ℕ × Attribute) (r : Route) → nat_cmp code e.0 ≡ Greater
    → set_marked code o (e ∷ r) ≡ e ∷ set_marked code o r
set_marked-cons code None e r is = refl
set_marked-cons code (Some a) e r is = rw is refl

attribute_at-cons : (code : ℕ) (e : ℕ × Attribute) (r : Route) → nat_cmp code e.0 ≡ Greater
    → attribute_at (e ∷ r) code ≡ attribute_at r code
attribute_at-cons code e r is = rw is refl

attribute_at-here : (code : ℕ) (e : ℕ × Attribute) (r : Route) → nat_cmp code e.0 ≡ Equal
    → attribute_at (e ∷ r) code ≡ Some e.1
attribute_at-here code e r is = rw is refl

with_value-here : (code : ℕ) (a : Attribute) (e : ℕ × Attribute) (r : Route) → nat_cmp code e.0 ≡ Equal
    → with_value nat_cmp (e ∷ r) code a ≡ (e.0, a) ∷ r
with_value-here code a e r is = rw is refl

marked_at-set_marked : (code : ℕ) (r : Route) → IsStrictlySortedBy nat_cmp (keys_of r)
    → marked_at code r ≡ set_marked code (attribute_at r code) r
unfolding IsStrictlySortedBy
marked_at-set_marked code [] rising = refl
marked_at-set_marked code (e ∷ r) rising =
    elim (nat_cmp code e.0) as (λ o. nat_cmp code e.0 ≡ o
    → marked_at code (e ∷ r) ≡ set_marked code (attribute_at (e ∷ r) code) (e ∷ r)) [
      | Less ↦ λ is.
          let above : AllByRecursion (λ k. nat_cmp code k ≡ Less) (keys_of (e ∷ r)) =
          (is, past_all code e.0 r (lt-nat_cmp code e.0 is) rising.0) in
          marked_at-above code (e ∷ r) above
          ∙ sym (ap (λ o. set_marked code o (e ∷ r)) (below_none code (e ∷ r) above).1)
      | Equal ↦ λ is.
          let key : code ≡ e.0 = eq-nat_cmp code e.0 is in
          let above : AllByRecursion (λ k. nat_cmp code k ≡ Less) (keys_of r) =
          subst (λ c. AllByRecursion (λ k. nat_cmp c k ≡ Less) (keys_of r)) (sym key) rising.0 in
          let marked : marked_at code (e ∷ r) ≡ (e.0, (marked_partial (code, e.1)).1) ∷ r =
          ap (λ b. (if b then marked_partial e else e) ∷ marked_at code r) (eq-eqb e.0 code (sym key))
          ∙ ap (λ (l : Route). marked_partial e ∷ l) (marked_at-above code r above)
          ∙ ap (λ (d : ℕ × Attribute). d ∷ r) (whole-marked_partial e)
          ∙ ap (λ k. (e.0, (marked_partial (k, e.1)).1) ∷ r) (sym key) in
          marked ∙ sym (ap (λ o. set_marked code o (e ∷ r)) (attribute_at-here code e r is)
          ∙ with_value-here code (marked_partial (code, e.1)).1 e r is)
      | Greater ↦ λ is.
          let below : (e.0 == code) ≡ false = elim (eqb_tells e.0 code) [
            | inl same ↦
                let no : Greater ≡ Equal = sym is ∙ nat_cmp-equal code e.0 (sym same.1) in
                absurd (cc no)
            | inr other ↦ other.0
          ] in
          let rest : marked_at code (e ∷ r) ≡ e ∷ set_marked code (attribute_at r code) r =
          ap (λ b. (if b then marked_partial e else e) ∷ marked_at code r) below
          ∙ ap (λ (l : Route). e ∷ l) (marked_at-set_marked code r rising.1) in
          rest ∙ sym (ap (λ o. set_marked code o (e ∷ r)) (attribute_at-cons code e r is)
          ∙ set_marked-cons code (attribute_at r code) e r is)
    ] refl

-- an attribute that is set to what it is
with_value-same : (code : ℕ) (a : Attribute) (r : Route) → IsStrictlySortedBy nat_cmp (keys_of r)
    → attribute_at r code ≡ Some a → with_value nat_cmp r code a ≡ r
unfolding IsStrictlySortedBy
with_value-same code a [] rising there = absurd (cc there)
with_value-same code a (e ∷ r) rising there =
    elim (nat_cmp code e.0) as (λ o. nat_cmp code e.0 ≡ o → with_value nat_cmp (e ∷ r) code a ≡ e ∷ r) [
      | Less ↦ λ is.
          let none = (below_none code (e ∷ r) (is, past_all code e.0 r (lt-nat_cmp code e.0 is) rising.0)).1 in
          absurd (cc (none, there))
      | Equal ↦ λ is.
          let found : Some e.1 ≡ Some a = rw is at there in
          let same : a ≡ e.1 = cc found in
          rw is (ap (λ (v : Attribute). (e.0, v) ∷ r) same)
      | Greater ↦ λ is. rw is (ap (λ (l : Route). e ∷ l) (with_value-same code a r rising.1 (rw is at there)))
    ] refl

-- what marking a code does, by what the route has for it
pub marked_at-known : (code : ℕ) (r : Route) → is_known code ≡ true → marked_at code r ≡ r
marked_at-known code [] known = refl
marked_at-known code (e ∷ r) known =
    let first : (if e.0 == code then marked_partial e else e) ≡ e = elim (eqb_tells e.0 code) [
      | inl same ↦ rw same.0 (known-marked_partial e (ap is_known same.1 ∙ known))
      | inr other ↦ rw other.0 refl
    ] in
    ap (λ (d : ℕ × Attribute). d ∷ marked_at code r) first ∙ ap (λ (l : Route). e ∷ l) (marked_at-known code r known)

pub marked_at-none : (code : ℕ) (r : Route) → IsStrictlySortedBy nat_cmp (keys_of r) → attribute_at r code ≡ None
    → marked_at code r ≡ r
marked_at-none code r rising none =
    marked_at-set_marked code r rising ∙ ap (λ o. set_marked code o r) none

pub marked_at-left : (code : ℕ) (r : Route) (a : Attribute) → IsStrictlySortedBy nat_cmp (keys_of r)
    → attribute_at r code ≡ Some a → is_transitive a.flags ≡ false → marked_at code r ≡ r
marked_at-left code r a rising there not_transitive =
    let left : marked_partial (code, a) ≡ (code, a) = elim (cases_Bool (is_known code)) [
      | inl known ↦ rw known refl
      | inr other ↦ rw (other, not_transitive) refl
    ] in
    marked_at-set_marked code r rising ∙ ap (λ o. set_marked code o r) there
    ∙ ap (λ (e : ℕ × Attribute). with_value nat_cmp r code e.1) left
    ∙ with_value-same code a r rising there

-- an attribute of which no flags are shown is not there
pub attribute_at-no_flags : (r : Route) (code : ℕ) → None ≡ flags_and_length r code → attribute_at r code ≡ None
attribute_at-no_flags r code told = go (attribute_at r code) told
  where
    go : (o : Option Attribute) → ◌≡◌ {A = Option (ℕ × ℕ)} None (option_map (λ a. (a.flags, length a.value)) o)
        → o ≡ None
    go None told = refl
    go (Some a) told = absurd (cc told)

-- the test of the flag
pub is_transitive-set : (f : ℕ) → (bit_and f 64 ≡ 0 → ⊥) → is_transitive f ≡ true
is_transitive-set f set = elim (eqb_tells (bit_and f 64) 0) [
  | inl none ↦ absurd (set none.1)
  | inr some ↦ ap not some.0
]

pub is_transitive-unset : (f : ℕ) → bit_and f 64 ≡ 0 → is_transitive f ≡ false
is_transitive-unset f unset = ap (λ n. not (n == 0)) unset

-- a flag of those that a route keeps
kept_bit : (f i : ℕ) → kept_flags f ≡ f → bit_at (kept_flags (bit_or f PARTIAL)) i ≡ bit_at (bit_or f PARTIAL) i
kept_bit f i kept =
    let mine = sym (bit_at_and f 224 i) ∙ ap (λ n. bit_at n i) kept in
    let partial : min (bit_at 32 i) (bit_at 224 i) ≡ bit_at 32 i = sym (bit_at_and 32 224 i) in
    omega (arith, mine, partial, bit_at_and (bit_or f 32) 224 i, bit_at_or f 32 i)

kept_flags-partial : (f : ℕ) → kept_flags f ≡ f → kept_flags (bit_or f PARTIAL) ≡ bit_or f PARTIAL
kept_flags-partial f kept =
    same_from_bits (kept_flags (bit_or f PARTIAL)) (bit_or f PARTIAL) (λ i. kept_bit f i kept)

pub marked_at-some : (code : ℕ) (r : Route) (a : Attribute) → IsStrictlySortedBy nat_cmp (keys_of r)
    → attribute_at r code ≡ Some a → kept_flags a.flags ≡ a.flags → is_known code ≡ false → is_transitive a.flags ≡ true
    → with_value nat_cmp r code (record { flags = kept_flags (bit_or a.flags PARTIAL); value = a.value })
    ≡ marked_at code r
marked_at-some code r a rising there kept other transitive =
    let marked : marked_partial (code, a) ≡ (code, record { flags = bit_or a.flags PARTIAL; value = a.value }) =
    rw (other, transitive) refl in
    ap (λ f. with_value nat_cmp r code (record { flags = f; value = a.value })) (kept_flags-partial a.flags kept)
    ∙ ap (λ (e : ℕ × Attribute). with_value nat_cmp r code e.1) (sym marked)
    ∙ sym (marked_at-set_marked code r rising ∙ ap (λ o. set_marked code o r) there)

-- the section is as long as before
length-canonical-marked : (e : ℕ × Attribute) → length (canonical (marked_partial e)) ≡ length (canonical e)
length-canonical-marked e =
    length-canonical (marked_partial e)
    ∙ ap (λ (v : List ℕ). (if nat_lt 255 (length v) then 4 else 3) + length v) (value-marked_partial e)
    ∙ sym (length-canonical e)

length-canon-map : (f : ℕ × Attribute → ℕ × Attribute)
    → ((e : ℕ × Attribute) → length (canonical (f e)) ≡ length (canonical e))
    → (r : Route) → length (canon (map f r)) ≡ length (canon r)
length-canon-map f same [] = refl
length-canon-map f same (e ∷ r) = omega (
  arith,
  length-append (canonical e) (canon r),
  length-append (canonical (f e)) (canon (map f r)),
  same e,
  length-canon-map f same r,
)

pub length-canon-marked : (r : Route) → length (canon (map marked_partial r)) ≡ length (canon r)
length-canon-marked r = length-canon-map marked_partial length-canonical-marked r

length-canon-marked_at : (code : ℕ) (r : Route) → length (canon (marked_at code r)) ≡ length (canon r)
length-canon-marked_at code r =
    length-canon-map (λ e. if e.0 == code then marked_partial e else e)
    (λ e. elim (cases_Bool (e.0 == code)) [
      | inl here ↦ rw here (length-canonical-marked e)
      | inr other ↦ rw other refl
    ])
    r

-- an attribute that is set with the flag is marked, and there is room for it
pub record IsMarkSet (r : Route) (code flags : ℕ) (value : List ℕ) : Type 0 where
  pub fits : nat_le (length (canon (with_attribute r code (bit_or flags PARTIAL) value))) MAX_CANONICAL ≡ true
  pub same : with_attribute r code (bit_or flags PARTIAL) value ≡ marked_at code r

pub IsMarkSet-some : (r : Route) (code flags : ℕ) (value : List ℕ) (a : Attribute) → IsRoute r
    → Some a ≡ attribute_at r code → flags ≡ a.flags → value ≡ a.value → is_known code ≡ false
    → is_transitive flags ≡ true → IsMarkSet r code flags value
IsMarkSet-some r code flags value a is there f v other transitive =
    let entry = IsEntry-attribute_at r code a is.entries (sym there) in
    let same : with_attribute r code (bit_or flags PARTIAL) value ≡ marked_at code r =
    ap (λ g. with_attribute r code (bit_or g PARTIAL) value) f
    ∙ ap (λ t. with_attribute r code (bit_or a.flags PARTIAL) t) v
    ∙ marked_at-some code r a is.rising (sym there) entry.0 other (ap is_transitive (sym f) ∙ transitive) in
    let size = ap (λ (l : Route). length (canon l)) same ∙ length-canon-marked_at code r in
    record {
      fits = le-leb (length (canon (with_attribute r code (bit_or flags PARTIAL) value))) MAX_CANONICAL
          (omega (arith, size, is.short));
      same = same;
    }

-- what is recognized stays
pub at-marked : (r : Route) (code : ℕ) → is_known code ≡ true
    → attribute_at (map marked_partial r) code ≡ attribute_at r code
at-marked [] code known = refl
at-marked (e ∷ r) code known = elim (cases_Bool (is_eq (nat_cmp code e.0))) [
  | inl here ↦
      let key : code ≡ e.0 = eq-nat_cmp code e.0 (is_eq-true (nat_cmp code e.0) here) in
      let same = known-marked_partial e (ap is_known (sym key) ∙ known) in
      ap (λ (d : ℕ × Attribute). attribute_at (d ∷ map marked_partial r) code) same ∙ rw here refl
  | inr other ↦
      let other' : is_eq (nat_cmp code (marked_partial e).0) ≡ false =
      ap (λ k. is_eq (nat_cmp code k)) (key-marked_partial e) ∙ other in
      rw (other, other') (at-marked r code known)
]

-- and each other attribute is marked
pub at-marked_partial : (r : Route) (code : ℕ)
    → attribute_at (map marked_partial r) code ≡ option_map (λ a. (marked_partial (code, a)).1) (attribute_at r code)
at-marked_partial [] code = refl
at-marked_partial (e ∷ r) code = elim (cases_Bool (is_eq (nat_cmp code e.0))) [
  | inl here ↦
      let key : code ≡ e.0 = eq-nat_cmp code e.0 (is_eq-true (nat_cmp code e.0) here) in
      let here' : is_eq (nat_cmp code (marked_partial e).0) ≡ true =
      ap (λ k. is_eq (nat_cmp code k)) (key-marked_partial e) ∙ here in
      rw (here, here') (ap (λ k. Some (marked_partial (k, e.1)).1) (sym key))
  | inr other ↦
      let other' : is_eq (nat_cmp code (marked_partial e).0) ≡ false =
      ap (λ k. is_eq (nat_cmp code k)) (key-marked_partial e) ∙ other in
      rw (other, other') (at-marked_partial r code)
]

pub keys_of-marked : (r : Route) → keys_of (map marked_partial r) ≡ keys_of r
keys_of-marked [] = refl
keys_of-marked (e ∷ r) =
    ap (λ k. k ∷ keys_of (map marked_partial r)) (key-marked_partial e)
    ∙ ap (λ (l : List ℕ). e.0 ∷ l) (keys_of-marked r)

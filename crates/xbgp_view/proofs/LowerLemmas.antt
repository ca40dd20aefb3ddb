-- A route by rising code, cut at a code into the entries below it, at it and past it.
use Rattle.std.proofs.Common.{◌≡◌, inl, inr, refl, sym, ◌∙◌, ap, ℕ, ◌<◌, [], ◌∷◌, ◌++◌, Option, Some, None, arith}
use Rattle.std.proofs.Common.{nat_lt}
use Rattle.std.specs.Prelude.{◌==◌, if◌then◌else◌}
use Rattle.std.specs.List.{AllByRecursion}
use Rattle.std.specs.List.Sorted.{IsStrictlySortedBy}
use Rattle.std.specs.Map.{keys_of}
use Rattle.std.specs.Ordering.{nat_cmp}
use Rattle.std.specs.Cmp.{nat_cmp_is}
use Rattle.std.proofs.lemmas.Cmp.{nat_cmp_total}
use Rattle.std.specs.declared.cmp.Ordering.TheVariants.{Less, Equal, Greater}
use Rattle.std.proofs.lemmas.Bool.{cases_Bool, ltb-true, ltb-false}
use Rattle.std.proofs.lemmas.Bool.Decides.{eqb_tells}
use Rattle.xb_words.specs.Table.{value_at, with_value, without}
use Rattle.bgp_attr.specs.Routes.{Attribute, Route}
use Rattle.xbgp_view.specs.Sections.{below_code, from_code, past_code}

-- the parts make the route
pub below_code-from_code : (code : ℕ) (r : Route) → below_code code r ++ from_code code r ≡ r
below_code-from_code code [] = refl
below_code-from_code code (e ∷ r) = elim (cases_Bool (nat_lt e.0 code)) [
  | inl below ↦ rw below (ap (λ (l : Route). e ∷ l) (below_code-from_code code r))
  | inr from ↦ rw from refl
]

-- the value at a code, if the entries from it on begin with it
abbrev pub front : ℕ → Route → Option Attribute
front code [] = None
front code (e ∷ r) = if e.0 == code then Some e.1 else None

-- numbers compared, by their order
pub nat_cmp-less : (a b : ℕ) → a < b → nat_cmp a b ≡ Less
nat_cmp-less a b l = sym (nat_cmp_is a b Less l)

-- the same of a greater one
pub nat_cmp-greater : (a b : ℕ) → b < a → nat_cmp a b ≡ Greater
nat_cmp-greater a b l = sym (nat_cmp_is a b Greater l)

-- the same of an equal one
pub nat_cmp-equal : (a b : ℕ) → a ≡ b → nat_cmp a b ≡ Equal
nat_cmp-equal a b e = sym (nat_cmp_is a b Equal e)

-- a value set, by the parts
pub with_value-at_code : (code : ℕ) (a : Attribute) (r : Route) → with_value nat_cmp r code a ≡ below_code code r ++ (code, a) ∷ past_code code (from_code code r)
with_value-at_code code a [] = refl
with_value-at_code code a (e ∷ r) = elim (cases_Bool (nat_lt e.0 code)) [
  | inl below ↦ rw (nat_cmp-greater code e.0 (ltb-true e.0 code below), below) (ap (λ (l : Route). e ∷ l) (with_value-at_code code a r))
  | inr from ↦ elim (eqb_tells e.0 code) [
    | inl here ↦ rw (nat_cmp-equal code e.0 (sym here.1), from, here.0) (ap (λ k. (k, a) ∷ r) here.1)
    | inr other ↦ rw (nat_cmp-less code e.0 (omega (arith, ltb-false e.0 code from, other.1)), from, other.0) refl
  ]
]

-- a code below all keys is absent
pub below_none : (code : ℕ) (r : Route) → AllByRecursion (λ k. nat_cmp code k ≡ Less) (keys_of r) → (without nat_cmp r code ≡ r) × (value_at nat_cmp r code ≡ None)
below_none code [] all = (refl, refl)
below_none code (e ∷ r) all =
    let rest = below_none code r all.1 in
    (rw all.0 (ap (λ (l : Route). e ∷ l) rest.0), rw all.0 rest.1)

-- a code below a key is below all after it
pub past_all : (code k : ℕ) (r : Route) → code < k → AllByRecursion (λ x. nat_cmp k x ≡ Less) (keys_of r) → AllByRecursion (λ x. nat_cmp code x ≡ Less) (keys_of r)
past_all code k [] l all = tt
past_all code k (e ∷ r) l all = (nat_cmp_total.trans code k e.0 (nat_cmp-less code k l) all.0, past_all code k r l all.1)

-- an entry removed, by the parts
pub without-at_code : (code : ℕ) (r : Route) → IsStrictlySortedBy nat_cmp (keys_of r) → without nat_cmp r code ≡ below_code code r ++ past_code code (from_code code r)
unfolding IsStrictlySortedBy
without-at_code code [] rising = refl
without-at_code code (e ∷ r) rising = elim (cases_Bool (nat_lt e.0 code)) [
  | inl below ↦ rw (nat_cmp-greater code e.0 (ltb-true e.0 code below), below) (ap (λ (l : Route). e ∷ l) (without-at_code code r rising.1))
  | inr from ↦ elim (eqb_tells e.0 code) [
    | inl here ↦ rw (nat_cmp-equal code e.0 (sym here.1), from, here.0) refl
    | inr other ↦
        let before : code < e.0 = omega (arith, ltb-false e.0 code from, other.1) in
        rw (nat_cmp-less code e.0 before, from, other.0) (ap (λ (l : Route). e ∷ l) (below_none code r (past_all code e.0 r before rising.0)).0)
  ]
]

-- a look-up, by the parts
pub value_at-from_code : (code : ℕ) (r : Route) → IsStrictlySortedBy nat_cmp (keys_of r) → value_at nat_cmp r code ≡ front code (from_code code r)
unfolding IsStrictlySortedBy
value_at-from_code code [] rising = refl
value_at-from_code code (e ∷ r) rising = elim (cases_Bool (nat_lt e.0 code)) [
  | inl below ↦ rw (nat_cmp-greater code e.0 (ltb-true e.0 code below), below) (value_at-from_code code r rising.1)
  | inr from ↦ elim (eqb_tells e.0 code) [
    | inl here ↦ rw (nat_cmp-equal code e.0 (sym here.1), from, here.0) refl
    | inr other ↦
        let before : code < e.0 = omega (arith, ltb-false e.0 code from, other.1) in
        rw (nat_cmp-less code e.0 before, from, other.0) (below_none code r (past_all code e.0 r before rising.0)).1
  ]
]

-- the order of numbers, by how they compare
pub lt-nat_cmp : (a b : ℕ) → nat_cmp a b ≡ Less → a < b
lt-nat_cmp a b e = elim (cases_Bool (nat_lt a b)) [
  | inl below ↦ ltb-true a b below
  | inr from ↦ elim (eqb_tells a b) [
    | inl here ↦ absurd (cc (sym e ∙ nat_cmp-equal a b here.1))
    | inr other ↦ absurd (cc (sym e ∙ nat_cmp-greater a b (omega (arith, ltb-false a b from, other.1))))
  ]
]

-- the same of a greater one
pub gt-nat_cmp : (a b : ℕ) → nat_cmp a b ≡ Greater → b < a
gt-nat_cmp a b e = elim (cases_Bool (nat_lt b a)) [
  | inl above ↦ ltb-true b a above
  | inr from ↦ elim (eqb_tells a b) [
    | inl here ↦ absurd (cc (sym e ∙ nat_cmp-equal a b here.1))
    | inr other ↦ absurd (cc (sym e ∙ nat_cmp-less a b (omega (arith, ltb-false b a from, other.1))))
  ]
]

-- the same of an equal one
pub eq-nat_cmp : (a b : ℕ) → nat_cmp a b ≡ Equal → a ≡ b
eq-nat_cmp a b e = elim (eqb_tells a b) [
  | inl here ↦ here.1
  | inr other ↦ elim (cases_Bool (nat_lt a b)) [
    | inl below ↦ absurd (cc (sym e ∙ nat_cmp-less a b (ltb-true a b below)))
    | inr from ↦ absurd (cc (sym e ∙ nat_cmp-greater a b (omega (arith, ltb-false a b from, other.1))))
  ]
]

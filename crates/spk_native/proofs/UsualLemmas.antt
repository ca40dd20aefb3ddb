-- Routes without an AGGREGATOR and without later codes, of which only the AS_PATH depends on the width of AS numbers.
use Rattle.std.proofs.Common.{◌≡◌, inl, inr, refl, sym, ap, ◌∙◌, ℕ, ◌≤◌, Bool, true, false, [], ◌∷◌, Some}
use Rattle.std.proofs.Common.{◌<◌, None, arith, length, nat_le}
use Rattle.std.specs.Prelude.{MatchBool, is_some, if◌then◌else◌}
use Rattle.std.proofs.lemmas.Bool.{cases_Bool, leb-false}
use Rattle.bgp_attr.specs.Routes.{Attribute, Route, attribute_at, canon, without_attribute}
use Rattle.xbgp_view.specs.Views.{code_from}
use Rattle.xbgp_view.proofs.LowerLemmas.{nat_cmp-greater}
use Rattle.xbgp_view.proofs.EditsLemmas.{without_attribute-absent}
use Rattle.bgp_path.specs.Widths.{narrow_path, wide_path}
use Rattle.spk_native.specs.declared.four.Four.{Four}
use Rattle.spk_native.specs.Receipt.{inflow, is_wide_aggregator, is_wide_path, narrow, narrow_aggregator}
use Rattle.spk_native.specs.Receipt.{without_narrow}
use Rattle.spk_native.specs.Rebuilds.{beside, set_if, size_if, valued, wide_four}
use Rattle.spk_native.proofs.RebuildsLemmas.{at-set_if, kept, length-without}
use Rattle.spk_native.proofs.ReceiptLemmas.{inflow-set_if, narrow-set_four}

-- a route that has no code from a number on
pub absent-code_from : (r : Route) (from code : ℕ) → is_some (code_from r from) ≡ false → from ≤ code
    → attribute_at r code ≡ None
absent-code_from [] from code none past = refl
absent-code_from (x ∷ r) from code none past = elim (cases_Bool (nat_le from x.0)) [
  | inl here ↦ let no : true ≡ false = rw here at none in absurd (cc no)
  | inr below ↦
      rw (nat_cmp-greater code x.0 (omega (arith, past, leb-false from x.0 below)))
      (absent-code_from r from code (rw below at none) past)
]

-- without an AGGREGATOR and with a path that two octets can hold, a narrow route has another AS_PATH
narrow-path : (r : Route) → attribute_at r 7 ≡ None → beside is_wide_path (attribute_at r 2) ≡ None
    → narrow r ≡ set_if 2 (valued narrow_path (attribute_at r 2)) r
narrow-path r alone fits =
    let r2 = set_if 2 (valued narrow_path (attribute_at r 2)) r in
    narrow-set_four r
    ∙ ap (λ o. set_if 18 (beside is_wide_aggregator o)
    (set_if 17 (beside is_wide_path (attribute_at r 2)) (set_if 7 (valued narrow_aggregator o) r2))) alone
    ∙ ap (λ o. set_if 17 o r2) fits

-- without an AS_PATH too it is the same
pub narrow-no_path : (r : Route) → attribute_at r 7 ≡ None → None ≡ attribute_at r 2 → narrow r ≡ r
narrow-no_path r alone none =
    narrow-path r alone (ap (beside is_wide_path) (sym none))
    ∙ ap (λ o. set_if 2 (valued narrow_path o) r) (sym none)

-- an AS_PATH that two octets can hold
pub narrow-narrow_path : (r : Route) (a : Attribute) → attribute_at r 7 ≡ None → Some a ≡ attribute_at r 2
    → is_wide_path a.value ≡ false → narrow r ≡ set_if 2 (valued narrow_path (Some a)) r
narrow-narrow_path r a alone path fits =
    narrow-path r alone (ap (beside is_wide_path) (sym path) ∙ rw fits refl)
    ∙ ap (λ o. set_if 2 (valued narrow_path o) r) (sym path)

-- a route without AS4_PATH and AS4_AGGREGATOR has nothing to lose
pub without_narrow-absent : (r : Route) → attribute_at r 17 ≡ None → attribute_at r 18 ≡ None → without_narrow r ≡ r
without_narrow-absent r none17 none18 =
    ap (λ s. without_attribute s 18) (without_attribute-absent 17 r (ap is_some none17))
    ∙ without_attribute-absent 18 r (ap is_some none18)

pub without_narrow-code_from : (r : Route) → is_some (code_from r 17) ≡ false → without_narrow r ≡ r
without_narrow-code_from r none =
    without_narrow-absent r (absent-code_from r 17 17 none (omega arith)) (absent-code_from r 17 18 none (omega arith))

-- without an AGGREGATOR and later codes, a received route has another AS_PATH
inflow-path : (r : Route) → is_some (code_from r 7) ≡ false
    → inflow r false ≡ set_if 2 (valued wide_path (attribute_at r 2)) r
inflow-path r alone =
    let none7 = absent-code_from r 7 7 alone (omega arith) in
    let none17 = absent-code_from r 7 17 alone (omega arith) in
    let none18 = absent-code_from r 7 18 alone (omega arith) in
    let path = attribute_at r 2 in
    let next = set_if 2 (valued wide_path path) r in
    let other = attribute_at r 18 in
    let with_four : Four → Route =
    λ f. without_narrow (set_if 7 (wide_four f).aggregator (set_if 2 (wide_four f).path r)) in
    inflow-set_if r
    ∙ ap (λ o. with_four (record { path = path; aggregator = o; path4 = attribute_at r 17; aggregator4 = other })) none7
    ∙ ap (λ o. with_four (record { path = path; aggregator = None; path4 = o; aggregator4 = other })) none17
    ∙ without_narrow-absent next (at-set_if r 2 (valued wide_path path) 17 ∙ none17)
    (at-set_if r 2 (valued wide_path path) 18 ∙ none18)

pub inflow-no_path : (r : Route) → is_some (code_from r 7) ≡ false → None ≡ attribute_at r 2 → inflow r false ≡ r
inflow-no_path r alone none = inflow-path r alone ∙ ap (λ o. set_if 2 (valued wide_path o) r) (sym none)

pub inflow-with_path : (r : Route) (a : Attribute) → is_some (code_from r 7) ≡ false → Some a ≡ attribute_at r 2
    → inflow r false ≡ set_if 2 (valued wide_path (Some a)) r
inflow-with_path r a alone there = inflow-path r alone ∙ ap (λ o. set_if 2 (valued wide_path o) r) (sym there)

-- the AS_PATH has room in its section
pub length-inflow_path : (r : Route) (a : Attribute) (most : ℕ) → is_some (code_from r 7) ≡ false
    → Some a ≡ attribute_at r 2 → most < length (wide_path a.value) → most < length (canon (inflow r false))
length-inflow_path r a most alone there long =
    let got : attribute_at (inflow r false) 2 ≡ kept (valued wide_path (Some a)) =
    ap (λ s. attribute_at s 2) (inflow-with_path r a alone there) ∙ at-set_if r 2 (valued wide_path (Some a)) 2 in
    omega (arith, long, ap size_if got, length-without (inflow r false) 2)

-- one of two, by the value of a test
pub MatchBool-if : {A : Type 0} (b x : Bool) (new t f : A) → b ≡ x → new ≡ (if x then t else f)
    → MatchBool b (new ≡ t) (new ≡ f)
MatchBool-if true true new t f e is = is
MatchBool-if true false new t f e is = absurd (cc e)
MatchBool-if false true new t f e is = absurd (cc e)
MatchBool-if false false new t f e is = is

-- what is the same in both cases
pub MatchBool-same : {A : Type 0} (b : Bool) (r t : A) → r ≡ t → MatchBool b (r ≡ t) (r ≡ r)
MatchBool-same true r t e = e
MatchBool-same false r t e = refl

-- Routes in the form of a session, as routes with other attributes for the four codes.
use Rattle.std.proofs.Common.{◌≡◌, inl, inr, refl, sym, ap, subst, ◌∙◌, ℕ, ◌+◌, arith, Bool, true, false, List, [], ◌∷◌}
use Rattle.std.proofs.Common.{length, Option, Some, None, Bor}
use Rattle.std.specs.Option.{option_map}
use Rattle.std.specs.Prelude.{Result, Ok, Err, IfErr, IfSome, if◌then◌else◌, ◌==◌, ◌<◌, not}
use Rattle.std.specs.Map.{keys_of}
use Rattle.std.specs.Ordering.{nat_cmp, is_eq}
use Rattle.std.specs.declared.cmp.Ordering.TheVariants.{Less, Equal, Greater}
use Rattle.std.specs.List.Sorted.{IsStrictlySortedBy}
use Rattle.std.proofs.lemmas.Bool.{cases_Bool}
use Rattle.std.proofs.lemmas.Bool.Decides.{eqb_tells}
use Rattle.bgp_attr.specs.Routes.{Attribute, Route, attribute_at, without_attribute, canon, IsRoute}
use Rattle.bgp_attr.specs.Rules.{attr_fault, row_fault, fault_if}
use Rattle.bgp_attr.specs.declared.rule.AttrFault.TheVariants.{Path}
use Rattle.bgp_attr.specs.Paths.{path_ok}
use Rattle.bgp_path.specs.Widths.{narrow_path}
use Rattle.xbgp_view.proofs.LowerLemmas.{eq-nat_cmp, lt-nat_cmp, gt-nat_cmp, nat_cmp-equal, nat_cmp-less, below_none}
use Rattle.xbgp_view.proofs.LowerLemmas.{past_all}
use Rattle.xbgp_view.proofs.ViewsLemmas.{IsEntry-attribute_at}
use Rattle.spk_native.specs.declared.four.Four.{Four}
use Rattle.spk_native.specs.Receipt.{narrow, narrow_aggregator, changed, with_value_by, kept_beside, is_wide_path}
use Rattle.spk_native.specs.Receipt.{is_wide_aggregator, inflow, widened, widened_by, without_narrow, aggregated_since}
use Rattle.spk_native.specs.Receipt.{good, is_good_aggregator, good_aggregator, path_with, aggregator_with}
use Rattle.spk_native.specs.Values.{IsFaultless}
use Rattle.spk_native.specs.Rebuilds.{size_if, set_if, bare, four_of, rebuilt, valued, or_other, beside, narrow_four}
use Rattle.spk_native.specs.Rebuilds.{wide_four, used_path, used_aggregator}
use Rattle.spk_native.proofs.RebuildsLemmas.{kept, less, over, at-set_if, at-bare, rising-set_if, rising-bare}
use Rattle.spk_native.proofs.RebuildsLemmas.{is_eq-true, at-without, rising-without, length-without}

-- two routes that have the same for each code
pub same_route : (r s : Route) → IsStrictlySortedBy nat_cmp (keys_of r) → IsStrictlySortedBy nat_cmp (keys_of s)
    → ((q : ℕ) → attribute_at r q ≡ attribute_at s q) → r ≡ s
unfolding IsStrictlySortedBy
same_route [] [] rising rising' same = refl
same_route [] (e ∷ s) rising rising' same =
    let no : None ≡ Some e.1 = rw (nat_cmp-equal e.0 e.0 refl) at (same e.0) in absurd (cc no)
same_route (d ∷ r) [] rising rising' same =
    let no : Some d.1 ≡ None = rw (nat_cmp-equal d.0 d.0 refl) at (same d.0) in absurd (cc no)
same_route (d ∷ r) (e ∷ s) rising rising' same =
    elim (nat_cmp d.0 e.0) as (λ o. nat_cmp d.0 e.0 ≡ o → d ∷ r ≡ e ∷ s) [
      | Less ↦ λ is.
          let none : attribute_at s d.0 ≡ None =
          (below_none d.0 s (past_all d.0 e.0 s (lt-nat_cmp d.0 e.0 is) rising'.0)).1 in
          let no : Some d.1 ≡ None = rw (nat_cmp-equal d.0 d.0 refl, is, none) at (same d.0) in
          absurd (cc no)
      | Equal ↦ λ is.
          let key : d.0 ≡ e.0 = eq-nat_cmp d.0 e.0 is in
          let found : Some d.1 ≡ Some e.1 = rw (nat_cmp-equal d.0 d.0 refl, is) at (same d.0) in
          let value : d.1 ≡ e.1 = cc found in
          let rest : r ≡ s = same_route r s rising.1 rising'.1 (λ q. elim (cases_Bool (is_eq (nat_cmp q d.0))) [
            | inl here ↦
                let at : q ≡ d.0 = eq-nat_cmp q d.0 (is_eq-true (nat_cmp q d.0) here) in
                ap (attribute_at r) at ∙ (below_none d.0 r rising.0).1
                ∙ sym (ap (attribute_at s) (at ∙ key) ∙ (below_none e.0 s rising'.0).1)
            | inr other ↦
                let other' : is_eq (nat_cmp q e.0) ≡ false = ap (λ k. is_eq (nat_cmp q k)) (sym key) ∙ other in
                rw (other, other') at (same q)
          ]) in
          ap (λ (l : Route). d ∷ l) rest ∙ ap (λ (k : ℕ). (k, d.1) ∷ s) key
          ∙ ap (λ (v : Attribute). (e.0, v) ∷ s) value
      | Greater ↦ λ is.
          let below = gt-nat_cmp d.0 e.0 is in
          let none : attribute_at r e.0 ≡ None = (below_none e.0 r (past_all e.0 d.0 r below rising.0)).1 in
          let no : None ≡ Some e.1 =
          rw (nat_cmp-less e.0 d.0 below, none, nat_cmp-equal e.0 e.0 refl) at (same e.0) in
          absurd (cc no)
    ] refl

-- one of the four codes, or another
is_code : (P : ℕ → Type 0) (code q : ℕ) → is_eq (nat_cmp code q) ≡ true → P code → P q
is_code P code q e p = subst P (eq-nat_cmp code q (is_eq-true (nat_cmp code q) e)) p

pub by_code : (P : ℕ → Type 0) → P 2 → P 7 → P 17 → P 18
    → ((q : ℕ) → is_eq (nat_cmp 2 q) ≡ false → is_eq (nat_cmp 7 q) ≡ false → is_eq (nat_cmp 17 q) ≡ false
    → is_eq (nat_cmp 18 q) ≡ false → P q) → (q : ℕ) → P q
by_code P p2 p7 p17 p18 other q = elim (cases_Bool (is_eq (nat_cmp 2 q))) [
  | inl e ↦ is_code P 2 q e p2
  | inr f2 ↦ elim (cases_Bool (is_eq (nat_cmp 7 q))) [
    | inl e ↦ is_code P 7 q e p7
    | inr f7 ↦ elim (cases_Bool (is_eq (nat_cmp 17 q))) [
      | inl e ↦ is_code P 17 q e p17
      | inr f17 ↦ elim (cases_Bool (is_eq (nat_cmp 18 q))) [
        | inl e ↦ is_code P 18 q e p18
        | inr f18 ↦ other q f2 f7 f17 f18
      ]
    ]
  ]
]

-- a route with four attributes set
abbrev pub set_four : Four → Route → Route
set_four f r = set_if 18 f.aggregator4 (set_if 17 f.path4 (set_if 7 f.aggregator (set_if 2 f.path r)))

abbrev pub four_over : Four → ℕ → Option Attribute → Option Attribute
four_over f q x = over 18 f.aggregator4 q (over 17 f.path4 q (over 7 f.aggregator q (over 2 f.path q x)))

pub at-set_four : (f : Four) (r : Route) (q : ℕ) → attribute_at (set_four f r) q ≡ four_over f q (attribute_at r q)
at-set_four f r q =
    let r2 = set_if 2 f.path r in
    let r7 = set_if 7 f.aggregator r2 in
    let r17 = set_if 17 f.path4 r7 in
    at-set_if r17 18 f.aggregator4 q
    ∙ ap (over 18 f.aggregator4 q) (at-set_if r7 17 f.path4 q)
    ∙ ap (λ x. over 18 f.aggregator4 q (over 17 f.path4 q x)) (at-set_if r2 7 f.aggregator q)
    ∙ ap (λ x. over 18 f.aggregator4 q (over 17 f.path4 q (over 7 f.aggregator q x))) (at-set_if r 2 f.path q)

pub rising-set_four : (f : Four) (r : Route) → IsStrictlySortedBy nat_cmp (keys_of r)
    → IsStrictlySortedBy nat_cmp (keys_of (set_four f r))
rising-set_four f r rising =
    let r2 = set_if 2 f.path r in
    let r7 = set_if 7 f.aggregator r2 in
    rising-set_if (set_if 17 f.path4 r7) 18 f.aggregator4
    (rising-set_if r7 17 f.path4 (rising-set_if r2 7 f.aggregator (rising-set_if r 2 f.path rising)))

at-rebuilt : (f : Four) (r : Route) (q : ℕ) → IsStrictlySortedBy nat_cmp (keys_of r)
    → attribute_at (rebuilt f r) q
    ≡ four_over f q (less 18 q (less 17 q (less 7 q (less 2 q (attribute_at r q)))))
at-rebuilt f r q rising = at-set_four f (bare r) q ∙ ap (four_over f q) (at-bare r q rising)

rising-rebuilt : (f : Four) (r : Route) → IsStrictlySortedBy nat_cmp (keys_of r)
    → IsStrictlySortedBy nat_cmp (keys_of (rebuilt f r))
rising-rebuilt f r rising = rising-set_four f (bare r) (rising-bare r rising)

-- an attribute with another value, if the route has the attribute
changed-set_if : (to : List ℕ → List ℕ) (r : Route) (code : ℕ) (o : Option Attribute)
    → changed to r code o ≡ set_if code (valued to o) r
changed-set_if to r code None = refl
changed-set_if to r code (Some a) = refl

pub with_value_by-both : (to7 to2 : List ℕ → List ℕ) (r : Route)
    → with_value_by to7 7 (with_value_by to2 2 r)
    ≡ set_if 7 (valued to7 (attribute_at r 7)) (set_if 2 (valued to2 (attribute_at r 2)) r)
with_value_by-both to7 to2 r =
    let first = changed-set_if to2 r 2 (attribute_at r 2) in
    let same : attribute_at (with_value_by to2 2 r) 7 ≡ attribute_at r 7 =
    ap (λ s. attribute_at s 7) first ∙ at-set_if r 2 (valued to2 (attribute_at r 2)) 7 in
    changed-set_if to7 (with_value_by to2 2 r) 7 (attribute_at (with_value_by to2 2 r) 7)
    ∙ ap (λ o. set_if 7 (valued to7 o) (with_value_by to2 2 r)) same
    ∙ ap (set_if 7 (valued to7 (attribute_at r 7))) first

kept_beside-set_if : (test : List ℕ → Bool) (code : ℕ) (o : Option Attribute) (r : Route)
    → kept_beside test code o r ≡ set_if code (beside test o) r
kept_beside-set_if test code None r = refl
kept_beside-set_if test code (Some a) r = elim (cases_Bool (test a.value)) [
  | inl passes ↦ rw passes refl
  | inr fails ↦ rw fails refl
]

-- the four attributes that a narrow route gets
abbrev pub narrow_set : Route → Four
narrow_set r = record {
  path = valued narrow_path (attribute_at r 2);
  aggregator = valued narrow_aggregator (attribute_at r 7);
  path4 = beside is_wide_path (attribute_at r 2);
  aggregator4 = beside is_wide_aggregator (attribute_at r 7);
}

pub narrow-set_four : (r : Route) → narrow r ≡ set_four (narrow_set r) r
unfolding narrow
narrow-set_four r =
    let f = narrow_set r in
    let both = with_value_by narrow_aggregator 7 (with_value_by narrow_path 2 r) in
    kept_beside-set_if is_wide_aggregator 18 (attribute_at r 7) (kept_beside is_wide_path 17 (attribute_at r 2) both)
    ∙ ap (set_if 18 f.aggregator4) (kept_beside-set_if is_wide_path 17 (attribute_at r 2) both)
    ∙ ap (λ s. set_if 18 f.aggregator4 (set_if 17 f.path4 s)) (with_value_by-both narrow_aggregator narrow_path r)

valued_over : (to : List ℕ → List ℕ) (o : Option Attribute)
    → or_other (kept (valued to o)) None ≡ or_other (kept (valued to o)) o
valued_over to None = refl
valued_over to (Some a) = refl

beside_over : (m o : Option Attribute) → kept o ≡ o → or_other (kept (or_other m o)) None ≡ or_other (kept m) o
beside_over None None same = refl
beside_over None (Some a) same = same
beside_over (Some b) o same = refl

-- a route keeps the flags of its attributes
kept_same : (r : Route) (code : ℕ) → IsRoute r → kept (attribute_at r code) ≡ attribute_at r code
kept_same r code is = go (attribute_at r code) refl
  where
    go : (o : Option Attribute) → attribute_at r code ≡ o → kept o ≡ o
    go None e = refl
    go (Some a) e = ap (λ f. Some (record { flags = f; value = a.value }))
        (IsEntry-attribute_at r code a is.entries e).0

-- a narrow route is a route with other attributes for the four codes
pub rebuilt-narrow : (r : Route) → IsRoute r → rebuilt (narrow_four (four_of r)) r ≡ narrow r
rebuilt-narrow r is =
    let f = narrow_four (four_of r) in
    let g = narrow_set r in
    same_route (rebuilt f r) (set_four g r) (rising-rebuilt f r is.rising) (rising-set_four g r is.rising)
    (λ q. at-rebuilt f r q is.rising
    ∙ by_code (λ k. four_over f k (less 18 k (less 17 k (less 7 k (less 2 k (attribute_at r k)))))
    ≡ four_over g k (attribute_at r k))
    (valued_over narrow_path (attribute_at r 2))
    (valued_over narrow_aggregator (attribute_at r 7))
    (beside_over g.path4 (attribute_at r 17) (kept_same r 17 is))
    (beside_over g.aggregator4 (attribute_at r 18) (kept_same r 18 is))
    (λ k f2 f7 f17 f18. rw (f2, f7, f17, f18) refl) q
    ∙ sym (at-set_four g r q))
    ∙ sym (narrow-set_four r)

path_row : (flags ok : Bool) → row_fault flags true (fault_if (not ok) Path) ≡ None → ok ≡ true
path_row false ok e = absurd (cc e)
path_row true true e = refl
path_row true false e = absurd (cc e)

length_row : (flags fits : Bool) → row_fault flags fits None ≡ None → fits ≡ true
length_row false fits e = absurd (cc e)
length_row true true e = refl
length_row true false e = absurd (cc e)

path_ok-AS_PATH : (w flags : ℕ) (value : List ℕ) → attr_fault w 2 flags value ≡ None → path_ok w value ≡ true
unfolding attr_fault
path_ok-AS_PATH w flags value e = path_row _ (path_ok w value) e

pub length-AGGREGATOR : (w flags : ℕ) (value : List ℕ) → attr_fault w 7 flags value ≡ None → length value ≡ w + 4
unfolding attr_fault
length-AGGREGATOR w flags value e = elim (eqb_tells (length value) (w + 4)) [
  | inl here ↦ here.1
  | inr other ↦ absurd (cc (other.0, length_row _ (length value == w + 4) e))
]

-- what the AS_PATH and the AGGREGATOR of a route without faults are
pub faultless_path : (w : ℕ) (r : Route) (o : Option Attribute) → IsFaultless w r → o ≡ attribute_at r 2
    → IfSome o (λ a. path_ok w a.value ≡ true)
faultless_path w r None none e = tt
faultless_path w r (Some a) none e = path_ok-AS_PATH w a.flags a.value (none 2 a (sym e))

pub faultless_aggregator : (w : ℕ) (r : Route) (o : Option Attribute) → IsFaultless w r → o ≡ attribute_at r 7
    → IfSome o (λ a. length a.value ≡ w + 4)
faultless_aggregator w r None none e = tt
faultless_aggregator w r (Some a) none e = length-AGGREGATOR w a.flags a.value (none 7 a (sym e))

-- a received route, with what AS4_PATH and AS4_AGGREGATOR say of it
widened-used : (r : Route) → widened r ≡ widened_by (used_path (four_of r)) (used_aggregator (four_of r)) r
widened-used r = elim (cases_Bool (aggregated_since (attribute_at r 7) (good_aggregator r))) [
  | inl since ↦ rw since refl
  | inr before ↦ rw before refl
]

-- the same, attribute by attribute
pub inflow-set_if : (r : Route)
    → inflow r false
    ≡ without_narrow (set_if 7 (wide_four (four_of r)).aggregator (set_if 2 (wide_four (four_of r)).path r))
unfolding inflow
inflow-set_if r =
    ap without_narrow (widened-used r
    ∙ with_value_by-both (aggregator_with (used_aggregator (four_of r))) (path_with (used_path (four_of r))) r)

-- a received route is a route with other attributes for the four codes
pub rebuilt-wide : (r : Route) → IsRoute r → rebuilt (wide_four (four_of r)) r ≡ inflow r false
rebuilt-wide r is =
    let f = wide_four (four_of r) in
    let r2 = set_if 2 f.path r in
    let r7 = set_if 7 f.aggregator r2 in
    let s7 = rising-set_if r2 7 f.aggregator (rising-set_if r 2 f.path is.rising) in
    let s17 = rising-without r7 17 s7 in
    same_route (rebuilt f r) (without_narrow r7) (rising-rebuilt f r is.rising)
    (rising-without (without_attribute r7 17) 18 s17)
    (λ q. at-rebuilt f r q is.rising
    ∙ by_code (λ k. four_over f k (less 18 k (less 17 k (less 7 k (less 2 k (attribute_at r k)))))
    ≡ less 18 k (less 17 k (over 7 f.aggregator k (over 2 f.path k (attribute_at r k)))))
    (valued_over (path_with (used_path (four_of r))) (attribute_at r 2))
    (valued_over (aggregator_with (used_aggregator (four_of r))) (attribute_at r 7))
    refl refl
    (λ k f2 f7 f17 f18. rw (f2, f7, f17, f18) refl) q
    ∙ sym (at-without (without_attribute r7 17) 18 q s17
    ∙ ap (less 18 q) (at-without r7 17 q s7)
    ∙ ap (λ x. less 18 q (less 17 q x)) (at-set_if r2 7 f.aggregator q)
    ∙ ap (λ x. less 18 q (less 17 q (over 7 f.aggregator q x))) (at-set_if r 2 f.path q)))
    ∙ sym (inflow-set_if r)

size_kept : (o : Option Attribute) → size_if (or_other (kept o) None) ≡ size_if o
size_kept None = refl
size_kept (Some a) = refl

-- the AS_PATH of a received route has room in the section
pub length-wide_path : (r : Route) (most : ℕ) → IsRoute r → most < size_if (wide_four (four_of r)).path
    → most < length (canon (inflow r false))
length-wide_path r most is long =
    let f = wide_four (four_of r) in
    let got : attribute_at (inflow r false) 2 ≡ or_other (kept f.path) None =
    ap (λ s. attribute_at s 2) (sym (rebuilt-wide r is)) ∙ at-rebuilt f r 2 is.rising in
    omega (arith, long, ap size_if got ∙ size_kept f.path, length-without (inflow r false) 2)

unless_now : (since : Bool) (p : Option (Bor (List ℕ)))
    → option_map (λ q. q.now) (if since then None else p) ≡ (if since then None else option_map (λ q. q.now) p)
unless_now true p = refl
unless_now false p = refl

-- a value that counts unless AGGREGATOR was set later
pub used : (f : Four) (w p u : Option (Bor (List ℕ))) (since : Bool) (x : Option (List ℕ))
    → option_map (λ q. q.now) w ≡ good is_good_aggregator f.aggregator4
    → since ≡ aggregated_since f.aggregator (option_map (λ q. q.now) w) → u ≡ (if since then None else p)
    → option_map (λ q. q.now) p ≡ x
    → option_map (λ q. q.now) u
    ≡ (if aggregated_since f.aggregator (good is_good_aggregator f.aggregator4) then None else x)
used f w p u since x we se ue pe =
    let later : since ≡ aggregated_since f.aggregator (good is_good_aggregator f.aggregator4) =
    se ∙ ap (aggregated_since f.aggregator) we in
    ap (option_map (λ q. q.now)) ue ∙ unless_now since p
    ∙ ap (λ (y : Option (List ℕ)). if since then None else y) pe
    ∙ ap (λ (b : Bool). if b then None else x) later

-- what holds in any case holds of an error
pub IfErr-always : {A B : Type 0} (P : Type 0) (r : Result A B) → P → IfErr r (λ _. P)
IfErr-always P (Ok a) p = tt
IfErr-always P (Err e) p = p

pub inflow-wide : (r : Route) → inflow r true ≡ without_narrow r
unfolding inflow
inflow-wide r = refl

-- both codes are removed with their octets
pub length-without_narrow : (r : Route) → IsRoute r
    → length (canon (without_narrow r)) + (size_if (attribute_at r 17) + size_if (attribute_at r 18)) ≡ length (canon r)
length-without_narrow r is = omega (
  arith,
  length-without r 17,
  length-without (without_attribute r 17) 18,
  ap size_if (at-without r 17 18 is.rising),
)

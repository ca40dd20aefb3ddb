-- What a walk over a canonical section finds.
use Rattle.std.proofs.Common.{◌≡◌, inl, inr, refl, sym, ap, subst, ◌∙◌, ℕ, ◌+◌, ◌≤◌, true, false, List, [], ◌∷◌, ◌++◌}
use Rattle.std.proofs.Common.{length, take, drop, map, Option, Some, None, arith, append_assoc, nat_le, nat_lt}
use Rattle.std.specs.Prelude.{IfSome, if◌then◌else◌, ◌==◌}
use Rattle.std.specs.Option.{option_map}
use Rattle.std.specs.List.{AllByRecursion}
use Rattle.std.proofs.lemmas.Bool.{cases_Bool, ltb-true, ltb-false, le-leb, lt-leb}
use Rattle.std.proofs.lemmas.List.{length-append, drop_at, take_at, append-nil}
use Rattle.xb_words.specs.Cut.{Pieces, walk, walk_from}
use Rattle.xb_words.specs.Table.{first_of}
use Rattle.bgp_attr.specs.Attributes.{attr_code}
use Rattle.bgp_attr.specs.Routes.{Route, route_of, canon, canonical}
use Rattle.bgp_attr.specs.Walks.{FoundAttr, found_attr, overrun, attributes_from}
use Rattle.xbgp_view.specs.Sections.{IsGap, at_code, gap_of, IsCanonical, below_code, from_code, past_code, found_from}
use Rattle.xbgp_view.proofs.CanonicalLemmas.{IsSpelled, cut-canon, IsSpelled-route}
use Rattle.bgp_attr.specs.Routes.{attribute_at}
use Rattle.std.proofs.lemmas.Bool.Decides.{eqb_tells}
use Rattle.xbgp_view.specs.Views.{code_from}
use Rattle.xbgp_view.proofs.LowerLemmas.{below_code-from_code, front, value_at-from_code}

-- the first of some entries, at an offset
abbrev pub head_found : ℕ → Route → Option FoundAttr
head_found at r = option_map (λ e. found_attr at (canonical e)) (first_of r)

found_in : (from at : ℕ) (r : Route) → AllByRecursion IsSpelled r
    → found_from from (walk found_attr overrun at (map canonical r) []) ≡ head_found (at + length (canon (below_code from r))) (from_code from r)
found_in from at [] all = refl
found_in from at (e ∷ r) all = elim (cases_Bool (nat_lt e.0 from)) [
  | inl below ↦
      let no : nat_le from e.0 ≡ false = lt-leb from e.0 (ltb-true e.0 from below) in
      rw (all.0.code, no, below) (found_in from (at + length (canonical e)) r all.1
      ∙ ap (λ n. head_found n (from_code from r)) (omega (arith, length-append (canonical e) (canon (below_code from r)))))
  | inr here ↦
      let yes : nat_le from (attr_code (canonical e)) ≡ true = ap (nat_le from) all.0.code ∙ le-leb from e.0 (ltb-false e.0 from here) in
      rw (yes, here) (ap (λ n. Some (found_attr n (canonical e))) (omega arith))
]

-- the walk over a whole section
pub found_from-canonical : (from : ℕ) (s : List ℕ) → IsCanonical s
    → found_from from (attributes_from 0 s) ≡ head_found (length (canon (below_code from (route_of s)))) (from_code from (route_of s))
unfolding walk_from
found_from-canonical from s is =
    let r = route_of s in
    let all = IsSpelled-route r is.route in
    ap (λ t. found_from from (attributes_from 0 t)) (sym is.octets)
    ∙ ap (λ (p : Pieces). found_from from (walk found_attr overrun 0 p.items p.rest)) (cut-canon r all)
    ∙ found_in from 0 r all
    ∙ ap (λ n. head_found n (from_code from r)) (omega arith)

head_at : (code at : ℕ) (r : Route) → AllByRecursion IsSpelled r → at_code code (head_found at r) ≡ front code r
head_at code at [] all = refl
head_at code at (e ∷ r) all =
    rw (all.0.code) (ap (λ f. if e.0 == code then Some (record { flags = f; value = (found_attr at (canonical e)).value }) else None) all.0.flags
    ∙ ap (λ v. if e.0 == code then Some (record { flags = e.1.flags; value = v }) else None) all.0.value)

upper_spelled : (code : ℕ) (r : Route) → AllByRecursion IsSpelled r → AllByRecursion IsSpelled (from_code code r)
upper_spelled code [] all = tt
upper_spelled code (e ∷ r) all = elim (cases_Bool (nat_lt e.0 code)) [
  | inl below ↦ rw below (upper_spelled code r all.1)
  | inr here ↦ rw here all
]

-- the walk finds what the route has
pub attribute_found : (code : ℕ) (s : List ℕ) → IsCanonical s → at_code code (found_from code (attributes_from 0 s)) ≡ attribute_at (route_of s) code
attribute_found code s is =
    let r = route_of s in
    ap (at_code code) (found_from-canonical code s is)
    ∙ head_at code (length (canon (below_code code r))) (from_code code r) (upper_spelled code r (IsSpelled-route r is.route))
    ∙ sym (value_at-from_code code r is.route.rising)

head_code : (from at : ℕ) (r : Route) → AllByRecursion IsSpelled r → option_map (λ (f : FoundAttr). f.code) (head_found at (from_code from r)) ≡ code_from r from
head_code from at [] all = refl
head_code from at (e ∷ r) all = elim (cases_Bool (nat_lt e.0 from)) [
  | inl below ↦
      let no : nat_le from e.0 ≡ false = lt-leb from e.0 (ltb-true e.0 from below) in
      rw (below, no) (head_code from at r all.1)
  | inr here ↦
      let yes : nat_le from e.0 ≡ true = le-leb from e.0 (ltb-false e.0 from here) in
      rw (here, yes) (ap Some all.0.code)
]

-- the walk finds the least code
pub code_found : (from : ℕ) (s : List ℕ) → IsCanonical s → option_map (λ (f : FoundAttr). f.code) (found_from from (attributes_from 0 s)) ≡ code_from (route_of s) from
code_found from s is =
    ap (option_map (λ (f : FoundAttr). f.code)) (found_from-canonical from s is)
    ∙ head_code from (length (canon (below_code from (route_of s)))) (route_of s) (IsSpelled-route (route_of s) is.route)

-- the canonical section of two parts of a route
pub canon-append : (l u : Route) → canon (l ++ u) ≡ canon l ++ canon u
canon-append [] u = refl
canon-append (e ∷ l) u = ap (λ s. canonical e ++ s) (canon-append l u) ∙ sym (append_assoc (canonical e) (canon l) (canon u))

head_gap : (code len : ℕ) (l u : Route) → AllByRecursion IsSpelled u → len ≡ length (canon l ++ canon u)
    → (g : ℕ × ℕ) → g ≡ gap_of code len (head_found (length (canon l)) u)
    → (take g.0 (canon l ++ canon u) ≡ canon l) × (drop g.1 (canon l ++ canon u) ≡ canon (past_code code u)) × (g.0 ≤ g.1) × (g.1 ≤ len)
head_gap code len l [] all size g is =
    let whole : canon l ++ canon [] ≡ canon l = append-nil (canon l) in
    let first_is : g.0 ≡ length (canon l) = ap (λ (p : ℕ × ℕ). p.0) is ∙ size ∙ ap length whole in
    let last_is : g.1 ≡ length (canon l) = ap (λ (p : ℕ × ℕ). p.1) is ∙ size ∙ ap length whole in
    (take_at (canon l) [] g.0 (sym first_is), drop_at (canon l) [] g.1 (sym last_is), omega (arith, first_is, last_is), omega (arith, last_is, size, ap length whole))
head_gap code len l (e ∷ u) all size g is = elim (eqb_tells e.0 code) [
  | inl here ↦
      let first_is : g.0 ≡ length (canon l) = ap (λ (p : ℕ × ℕ). p.0) is in
      let same : (found_attr (length (canon l)) (canonical e)).code == code ≡ true = ap (λ c. c == code) all.0.code ∙ here.0 in
      let last_is : g.1 ≡ length (canon l) + length (canonical e) = ap (λ (p : ℕ × ℕ). p.1) is ∙ (rw same refl) in
      let front : canon l ++ (canonical e ++ canon u) ≡ (canon l ++ canonical e) ++ canon u = sym (append_assoc (canon l) (canonical e) (canon u)) in
      let sum = length-append (canon l) (canonical e) in
      let total = ap length front ∙ length-append (canon l ++ canonical e) (canon u) in (
        take_at (canon l) (canon (e ∷ u)) g.0 (sym first_is),
        ap (drop g.1) front ∙ drop_at (canon l ++ canonical e) (canon u) g.1 (omega (arith, sum, last_is)) ∙ sym (rw here.0 refl),
        omega (arith, first_is, last_is),
        omega (arith, last_is, size, total, sum),
      )
  | inr other ↦
      let first_is : g.0 ≡ length (canon l) = ap (λ (p : ℕ × ℕ). p.0) is in
      let apart : (found_attr (length (canon l)) (canonical e)).code == code ≡ false = ap (λ c. c == code) all.0.code ∙ other.0 in
      let last_is : g.1 ≡ length (canon l) = ap (λ (p : ℕ × ℕ). p.1) is ∙ (rw apart refl) in
      let total = length-append (canon l) (canon (e ∷ u)) in (
        take_at (canon l) (canon (e ∷ u)) g.0 (sym first_is),
        drop_at (canon l) (canon (e ∷ u)) g.1 (sym last_is) ∙ sym (rw other.0 refl),
        omega (arith, first_is, last_is),
        omega (arith, last_is, size, total),
      )
]

-- the gap of a code, by what the walk finds
pub IsGap-gap_of : (code : ℕ) (s : List ℕ) → IsCanonical s → IsGap code s (gap_of code (length s) (found_from code (attributes_from 0 s)))
IsGap-gap_of code s is =
    let r = route_of s in
    let l = below_code code r in
    let u = from_code code r in
    let parts : canon l ++ canon u ≡ s = sym (canon-append l u) ∙ ap canon (below_code-from_code code r) ∙ is.octets in
    let g = gap_of code (length s) (found_from code (attributes_from 0 s)) in
    let h = head_gap code (length s) l u (upper_spelled code r (IsSpelled-route r is.route)) (sym (ap length parts)) g (ap (gap_of code (length s)) (found_from-canonical code s is)) in
    record {
      before = ap (take g.0) (sym parts) ∙ h.0;
      after = ap (drop g.1) (sym parts) ∙ h.1;
      order = h.2;
      inside = h.3;
    }

head_inside : (l u : Route) (f : FoundAttr) → head_found (length (canon l)) u ≡ Some f → f.at + length f.raw ≤ length (canon l ++ canon u)
head_inside l [] f is = absurd (cc is)
head_inside l (e ∷ u) f is =
    let same : found_attr (length (canon l)) (canonical e) ≡ f = cc is in
    subst (λ (g : FoundAttr). g.at + length g.raw ≤ length (canon l ++ canon (e ∷ u))) same
    (omega (arith, length-append (canon l) (canonical e ++ canon u), length-append (canonical e) (canon u)))

-- an attribute that a walk finds is inside the section
pub found_inside : (from : ℕ) (s : List ℕ) → IsCanonical s → IfSome (found_from from (attributes_from 0 s)) (λ f. f.at + length f.raw ≤ length s)
found_inside from s is =
    let r = route_of s in
    let parts : canon (below_code from r) ++ canon (from_code from r) ≡ s = sym (canon-append (below_code from r) (from_code from r)) ∙ ap canon (below_code-from_code from r) ∙ is.octets in
    elim (found_from from (attributes_from 0 s)) as (λ o. found_from from (attributes_from 0 s) ≡ o → IfSome o (λ f. f.at + length f.raw ≤ length s)) [
      | None ↦ λ e. tt
      | Some f ↦ λ e. subst (λ (t : List ℕ). f.at + length f.raw ≤ length t) parts (head_inside (below_code from r) (from_code from r) f (sym (found_from-canonical from s is) ∙ e))
    ] refl

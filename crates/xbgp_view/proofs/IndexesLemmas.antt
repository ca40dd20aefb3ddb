-- An index is a route by rising code: looked up, walked by code, and set at a code.
use Rattle.std.proofs.Common.{◌≡◌, refl, sym, ap, ◌∙◌, ℕ, zero, suc, ◌+◌, ◌<◌, ◌≤◌, true, false, List, [], ◌∷◌, length}
use Rattle.std.proofs.Common.{get_or, fold, Option, Some, None, arith, zero-add}
use Rattle.std.specs.Prelude.{is_some, replicate, slice_set, Result, Ok, Err}
use Rattle.std.specs.Option.{option_map}
use Rattle.std.specs.List.{AllByRecursion}
use Rattle.std.specs.List.Sorted.{IsStrictlySortedBy}
use Rattle.std.specs.Map.{keys_of}
use Rattle.std.specs.Ordering.{nat_cmp}
use Rattle.std.specs.declared.cmp.Ordering.TheVariants.{Less, Equal, Greater}
use Rattle.std.proofs.lemmas.Bool.{le-leb, lt-leb}
use Rattle.xb_words.specs.Cut.{cut, walk, walk_from}
use Rattle.xb_words.specs.Table.{with_value}
use Rattle.bgp_attr.specs.declared.attrs.Attr.{Attr}
use Rattle.bgp_attr.specs.declared.attrs.Overrun.{Overrun}
use Rattle.bgp_attr.specs.Attributes.{attribute_size, attr_code, attr_flags, attr_value}
use Rattle.bgp_attr.specs.Routes.{Attribute, Route, attribute_at, route_of, with_attribute, IsEntry}
use Rattle.bgp_attr.specs.Walks.{FoundAttr, found_attr, overrun, attributes_from}
use Rattle.xbgp_view.specs.Indexes.{index_route, walked_route, entries_of}
use Rattle.xbgp_view.specs.Sections.{kept_attr}
use Rattle.xbgp_view.specs.Views.{code_from}
use Rattle.xbgp_view.proofs.LowerLemmas.{nat_cmp-less, nat_cmp-equal, nat_cmp-greater, lt-nat_cmp, eq-nat_cmp}
use Rattle.xbgp_view.proofs.LowerLemmas.{gt-nat_cmp, below_none, past_all}

-- the keys of an index are at least its first code
keys_above : (k code : ℕ) (index : List (Option Attr)) → k < code → AllByRecursion (λ x. nat_cmp k x ≡ Less) (keys_of (index_route code index))
keys_above k code [] l = tt
keys_above k code (None ∷ index) l = keys_above k (code + 1) index (omega (arith, l))
keys_above k code (Some a ∷ index) l = (nat_cmp-less k code l, keys_above k (code + 1) index (omega (arith, l)))

first_with : (r : Route) (code : ℕ) (a : Attribute) → AllByRecursion (λ x. nat_cmp code x ≡ Less) (keys_of r) → with_value nat_cmp r code a ≡ (code, a) ∷ r
first_with [] code a all = refl
first_with (e ∷ r) code a all = rw all.0 refl

next_code : (code i : ℕ) → (code + 1) + i ≡ code + suc i
next_code code i = omega arith

set_from : (code i : ℕ) (index : List (Option Attr)) (a : Attr) → i < length index
    → index_route code (slice_set index i (Some a)) ≡ with_value nat_cmp (index_route code index) (code + i) (kept_attr a)
set_from code i [] a l = absurd (omega (arith, l))
set_from code zero (None ∷ index) a l =
    let same : code ≡ code + 0 = omega arith in
    ap (λ n. (n, kept_attr a) ∷ index_route (code + 1) index) same
    ∙ sym (first_with (index_route (code + 1) index) (code + 0) (kept_attr a) (keys_above (code + 0) (code + 1) index (omega arith)))
set_from code zero (Some b ∷ index) a l = rw (nat_cmp-equal (code + 0) code (omega arith)) refl
set_from code (suc i) (None ∷ index) a l =
    set_from (code + 1) i index a (omega (arith, l)) ∙ ap (λ n. with_value nat_cmp (index_route (code + 1) index) n (kept_attr a)) (next_code code i)
set_from code (suc i) (Some b ∷ index) a l =
    rw (nat_cmp-greater (code + suc i) code (omega arith)) (ap (λ (r : Route). (code, kept_attr b) ∷ r)
    (set_from (code + 1) i index a (omega (arith, l)) ∙ ap (λ n. with_value nat_cmp (index_route (code + 1) index) n (kept_attr a)) (next_code code i)))

-- an index with an attribute set at its code
pub index_route-set : (index : List (Option Attr)) (a : Attr) → a.code < length index → index_route 0 (slice_set index a.code (Some a)) ≡ with_attribute (index_route 0 index) a.code a.flags a.value.now
index_route-set index a l = set_from 0 a.code index a l ∙ ap (λ n. with_value nat_cmp (index_route 0 index) n (kept_attr a)) (zero-add a.code)

at_from : (code i : ℕ) (index : List (Option Attr)) → attribute_at (index_route code index) (code + i) ≡ option_map kept_attr (get_or index i None)
at_from code i [] = refl
at_from code zero (None ∷ index) = (below_none (code + 0) (index_route (code + 1) index) (keys_above (code + 0) (code + 1) index (omega arith))).1
at_from code zero (Some a ∷ index) = rw (nat_cmp-equal (code + 0) code (omega arith)) refl
at_from code (suc i) (None ∷ index) = ap (attribute_at (index_route (code + 1) index)) (sym (next_code code i)) ∙ at_from (code + 1) i index
at_from code (suc i) (Some a ∷ index) =
    rw (nat_cmp-greater (code + suc i) code (omega arith)) (ap (attribute_at (index_route (code + 1) index)) (sym (next_code code i)) ∙ at_from (code + 1) i index)

-- what the route of an index has at a code is what the index has
pub attribute_at-index_route : (index : List (Option Attr)) (code : ℕ) → attribute_at (index_route 0 index) code ≡ option_map kept_attr (get_or index code None)
attribute_at-index_route index code = ap (attribute_at (index_route 0 index)) (sym (zero-add code)) ∙ at_from 0 code index

-- an empty index
pub index_route-none : (code n : ℕ) → index_route code (replicate n None) ≡ []
index_route-none code zero = refl
index_route-none code (suc n) = index_route-none (code + 1) n

-- a code without an attribute is passed over
pub code_from-absent : (r : Route) (code : ℕ) → is_some (attribute_at r code) ≡ false → code_from r code ≡ code_from r (code + 1)
code_from-absent [] code none = refl
code_from-absent (e ∷ r) code none = elim (nat_cmp code e.0) as (λ o. nat_cmp code e.0 ≡ o → code_from (e ∷ r) code ≡ code_from (e ∷ r) (code + 1)) [
  | Less ↦ λ is.
      let l : code < e.0 = lt-nat_cmp code e.0 is in
      rw (le-leb code e.0 (omega (arith, l)), le-leb (code + 1) e.0 (omega (arith, l))) refl
  | Equal ↦ λ is. let no : true ≡ false = rw is at none in absurd (cc no)
  | Greater ↦ λ is.
      let l : e.0 < code = gt-nat_cmp code e.0 is in
      rw (lt-leb code e.0 l, lt-leb (code + 1) e.0 (omega (arith, l))) (code_from-absent r code (rw is at none))
] refl

-- the least code from one that has an attribute is that code
pub code_from-there : (r : Route) (code : ℕ) → IsStrictlySortedBy nat_cmp (keys_of r) → is_some (attribute_at r code) ≡ true → code_from r code ≡ Some code
unfolding IsStrictlySortedBy
code_from-there [] code rising some = absurd (cc some)
code_from-there (e ∷ r) code rising some = elim (nat_cmp code e.0) as (λ o. nat_cmp code e.0 ≡ o → code_from (e ∷ r) code ≡ Some code) [
  | Less ↦ λ is.
      let none : attribute_at r code ≡ None = (below_none code r (past_all code e.0 r (lt-nat_cmp code e.0 is) rising.0)).1 in
      let no : false ≡ true = rw (is, none) at some in
      absurd (cc no)
  | Equal ↦ λ is.
      let same : code ≡ e.0 = eq-nat_cmp code e.0 is in
      rw (le-leb code e.0 (omega (arith, same))) (ap Some (sym same))
  | Greater ↦ λ is. rw (lt-leb code e.0 (gt-nat_cmp code e.0 is)) (code_from-there r code rising.1 (rw is at some))
] refl

-- no code of a route is past the last
pub code_from-past : (r : Route) (code : ℕ) → AllByRecursion IsEntry r → 256 ≤ code → code_from r code ≡ None
code_from-past [] code all past = refl
code_from-past (e ∷ r) code all past =
    let small : e.0 < 256 = all.0.code in
    rw (lt-leb code e.0 (omega (arith, small, past))) (code_from-past r code all.1 past)

walked : (at : ℕ) (xs : List (List ℕ)) (rest : List ℕ) (r : Route)
    → walked_route r (walk found_attr overrun at xs rest) ≡ fold (λ r a. with_attribute r (attr_code a) (attr_flags a) (attr_value a)) r xs
walked at [] [] r = refl
walked at [] (b ∷ rest) r = refl
walked at (x ∷ xs) rest r = walked (at + length x) xs rest (with_attribute r (attr_code x) (attr_flags x) (attr_value x))

-- a whole walk gives the route of the section
pub walked_route-all : (s : List ℕ) → walked_route [] (attributes_from 0 s) ≡ route_of s
unfolding walk_from
walked_route-all s = walked 0 (cut attribute_size s).items (cut attribute_size s).rest []

-- steps without an attribute leave a route as it is
pub walked_route-end : (r : Route) (steps : List (Result FoundAttr Overrun)) → entries_of steps ≡ []
    → walked_route r steps ≡ r
walked_route-end r [] none = refl
walked_route-end r (Ok a ∷ steps) none = absurd (cc none)
walked_route-end r (Err o ∷ steps) none = refl

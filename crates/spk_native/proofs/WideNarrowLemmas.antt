-- What is written in two octets a number is read again as it was: paths, AGGREGATOR, and so whole routes.
use Rattle.std.proofs.Common.{◌≡◌, inl, inr, refl, sym, ap, subst, ◌∙◌, ℕ, suc, ◌+◌, ◌-◌, ◌*◌, ◌^◌, ◌<◌, ◌≤◌, Bool}
use Rattle.std.proofs.Common.{true, false}
use Rattle.std.proofs.Common.{List, [], ◌∷◌, ◌++◌, length, map, take, drop, flat_map, Option, Some, None, arith}
use Rattle.std.specs.Prelude.{IfSome, nat_le, not, ◌==◌, ◌&&◌, ◌||◌, if◌then◌else◌}
use Rattle.std.specs.List.{list_any}
use Rattle.std.specs.List.Sorted.{IsStrictlySortedBy}
use Rattle.std.specs.Map.{keys_of}
use Rattle.std.specs.Ordering.{nat_cmp}
use Rattle.std.proofs.lemmas.Bool.{cases_Bool, eq-eqb, le-leb, le-ltb, ltb-true}
use Rattle.std.proofs.lemmas.List.{length-append, length-map, take_at, drop_at, take-append-drop}
use Rattle.std.proofs.lemmas.List.Sums.{sum_by-cons}
use Rattle.std.proofs.lemmas.Nat.{from_be_bytes-to_be_bytes_2}
use Rattle.xb_words.specs.Cut.{Pieces}
use Rattle.xb_words.specs.Octets.{AreOctets, two_at, four_at, two_octets, four_octets}
use Rattle.xb_words.proofs.CutLemmas.{cut-some}
use Rattle.bgp_attr.specs.declared.segments.TheConstants.{AS_SET, AS_SEQUENCE, AS_TRANS}
use Rattle.bgp_attr.specs.Paths.{Segment, segment_size, segment_of, segment_hops, number_octets, numbers_of}
use Rattle.bgp_attr.specs.Paths.{path, path_ok, path_octets, hops}
use Rattle.bgp_attr.specs.Routes.{Attribute, Route, attribute_at, without_attribute, kept_flags}
use Rattle.bgp_attr.proofs.PathsLemmas.{IsSize-segment_size}
use Rattle.bgp_path.specs.Parts.{Part, part_segment}
use Rattle.bgp_path.specs.Splits.{BeginsWith}
use Rattle.bgp_path.specs.Widths.{first_units, is_narrow, narrow_number, narrow_segment, wide_path, narrow_path, merge}
use Rattle.bgp_path.proofs.NumbersLemmas.{length-numbers_of, number_octets-first_number}
use Rattle.bgp_path.proofs.PrependLemmas.{path_octets-path}
use Rattle.bgp_path.proofs.SplitsLemmas.{HasNoSegment-empty, by_segments}
use Rattle.bgp_path.proofs.UnitsLemmas.{first_units-zero}
use Rattle.spk_native.specs.Receipt.{wide_aggregator, narrow_aggregator, is_good_path, is_good_aggregator, good}
use Rattle.spk_native.specs.Receipt.{good_path, good_aggregator, aggregated_since, path_with, aggregator_with, inflow}
use Rattle.spk_native.specs.Receipt.{is_wide_path, is_wide_aggregator, narrow, without_narrow}
use Rattle.spk_native.specs.Rebuilds.{four_of, set_if, valued, or_other, beside, wide_four}
use Rattle.spk_native.specs.Values.{HasNoFault}
use Rattle.spk_native.proofs.FormedLemmas.{IsFormed}
use Rattle.spk_native.proofs.NarrowLemmas.{length-narrow_numbers}
use Rattle.spk_native.proofs.RebuildsLemmas.{kept, less, over, at-without, at-set_if, rising-without, rising-set_if}
use Rattle.spk_native.proofs.ReceiptLemmas.{same_route, by_code, four_over, at-set_four, rising-set_four, narrow_set}
use Rattle.spk_native.proofs.ReceiptLemmas.{narrow-set_four, inflow-set_if, length-AGGREGATOR}
use Rattle.spk_native.proofs.ValuesLemmas.{path_ok-no_fault}

or_false : (a b : Bool) → (a || b) ≡ false → (a ≡ false) × (b ≡ false)
or_false true b e = absurd (cc e)
or_false false b e = (refl, e)

not_false : (b : Bool) → not b ≡ false → b ≡ true
not_false true e = refl
not_false false e = absurd (cc e)

kind_fits : (set : Bool)
    → ((if set then AS_SET else AS_SEQUENCE) == AS_SET || (if set then AS_SET else AS_SEQUENCE) == AS_SEQUENCE) ≡ true
kind_fits true = refl
kind_fits false = refl

kind_is_set : (set : Bool) → ((if set then AS_SET else AS_SEQUENCE) == AS_SET) ≡ set
kind_is_set true = refl
kind_is_set false = refl

-- a path after a segment
path-segment : (w : ℕ) (set : Bool) (count : ℕ) (numbers rest : List ℕ) → 0 < count → length numbers ≡ w * count
    → path w ((if set then AS_SET else AS_SEQUENCE) ∷ count ∷ (numbers ++ rest))
    ≡ record { is_set = set; numbers = numbers_of w count numbers } ∷ path w rest
path-segment w set count numbers rest some whole =
    let kind = if set then AS_SET else AS_SEQUENCE in
    let s = kind ∷ count ∷ (numbers ++ rest) in
    let x = w * count in
    let fits : 2 + x ≤ length s = omega (arith, whole, length-append numbers rest) in
    let size : segment_size w s ≡ Some (2 + x) =
    ap (λ b. if (b && nat_le 1 count) && nat_le (2 + x) (length s) then Some (2 + x) else None) (kind_fits set)
    ∙ ap (λ b. if b && nat_le (2 + x) (length s) then Some (2 + x) else None) (le-leb 1 count some)
    ∙ ap (λ b. if b then Some (2 + x) else None) (le-leb (2 + x) (length s) fits) in
    let two : 2 + x ≡ suc (suc x) = omega arith in
    let first : take (2 + x) s ≡ kind ∷ count ∷ numbers =
    ap (λ n. take n s) two ∙ ap (λ t. kind ∷ count ∷ t) (take_at numbers rest x whole) in
    let after : drop (2 + x) s ≡ rest = ap (λ n. drop n s) two ∙ drop_at numbers rest x whole in
    ap (λ (p : Pieces). map (segment_of w) p.items)
    (cut-some (segment_size w) (IsSize-segment_size w) s (2 + x) size)
    ∙ ap (λ t. segment_of w t ∷ path w (drop (2 + x) s)) first
    ∙ ap (λ t. segment_of w (kind ∷ count ∷ numbers) ∷ path w t) after
    ∙ ap (λ (b : Bool). record { is_set = b; numbers = numbers_of w count numbers } ∷ path w rest) (kind_is_set set)

narrow_number_fits : (n : ℕ) → narrow_number n < 2 ^ 16
narrow_number_fits n = elim (cases_Bool (is_narrow n)) [
  | inl small ↦ rw small (ltb-true n 65536 small)
  | inr large ↦ rw large (omega arith)
]

-- numbers in two octets are read again
numbers_of-narrow : (ns : List ℕ)
    → numbers_of 2 (length ns) (flat_map (number_octets 2) (map narrow_number ns)) ≡ map narrow_number ns
numbers_of-narrow [] = refl
numbers_of-narrow (n ∷ ns) =
    ap (λ k. k ∷ numbers_of 2 (length ns) (flat_map (number_octets 2) (map narrow_number ns)))
    (from_be_bytes-to_be_bytes_2 (narrow_number n) (narrow_number_fits n))
    ∙ ap (λ (l : List ℕ). narrow_number n ∷ l) (numbers_of-narrow ns)

abbrev narrow_octets : List Segment → List ℕ
narrow_octets segments = path_octets 2 (map narrow_segment segments)

path-narrow-more : (s : List ℕ) (p : Part) (rest : List ℕ) → BeginsWith 4 s p rest
    → path 2 (narrow_octets (path 4 rest)) ≡ map narrow_segment (path 4 rest)
    → path 2 (narrow_octets (path 4 s)) ≡ map narrow_segment (path 4 s)
path-narrow-more s p rest split later =
    let ns = numbers_of 4 p.count p.octets in
    let count = length (map narrow_number ns) in
    let octets = flat_map (number_octets 2) (map narrow_number ns) in
    let same : count ≡ length ns = length-map ns narrow_number in
    let some : 0 < count = omega (arith, same, length-numbers_of 4 p.count p.octets, split.full) in
    ap (λ (l : List Segment). path 2 (narrow_octets l)) split.segments
    ∙ path-segment 2 p.set count octets (narrow_octets (path 4 rest)) some
    (omega (arith, length-narrow_numbers ns, same))
    ∙ ap (λ (l : List ℕ). record { is_set = p.set; numbers = l } ∷ path 2 (narrow_octets (path 4 rest)))
    (ap (λ k. numbers_of 2 k octets) same ∙ numbers_of-narrow ns)
    ∙ ap (λ (l : List Segment). narrow_segment (part_segment 4 p) ∷ l) later
    ∙ sym (ap (map narrow_segment) split.segments)

-- a path in two octets has the same segments with narrow numbers
path-narrow_path : (v : List ℕ) → path_ok 4 v ≡ true → path 2 (narrow_path v) ≡ map narrow_segment (path 4 v)
unfolding narrow_path
path-narrow_path v ok =
    let none = (HasNoSegment-empty 4 [] refl).segments in
    by_segments 4 (λ t. path 2 (narrow_octets (path 4 t)) ≡ map narrow_segment (path 4 t))
    (ap (λ (l : List Segment). path 2 (narrow_octets l)) none ∙ (HasNoSegment-empty 2 [] refl).segments
    ∙ sym (ap (map narrow_segment) none))
    path-narrow-more v ok

hops-narrow : (segments : List Segment) → hops (map narrow_segment segments) ≡ hops segments
hops-narrow [] = refl
hops-narrow (s ∷ segments) =
    let own : segment_hops (narrow_segment s) ≡ segment_hops s =
    ap (λ n. if s.is_set then 1 else n) (length-map s.numbers narrow_number) in
    omega (
      arith,
      sum_by-cons segment_hops (narrow_segment s) (map narrow_segment segments),
      sum_by-cons segment_hops s segments,
      own,
      hops-narrow segments,
    )

narrow_numbers-same : (ns : List ℕ) → list_any (λ n. not (is_narrow n)) ns ≡ false → map narrow_number ns ≡ ns
narrow_numbers-same [] none = refl
narrow_numbers-same (n ∷ ns) none =
    let parts = or_false (not (is_narrow n)) (list_any (λ n. not (is_narrow n)) ns) none in
    ap (λ b. (if b then n else AS_TRANS) ∷ map narrow_number ns) (not_false (is_narrow n) parts.0)
    ∙ ap (λ (l : List ℕ). n ∷ l) (narrow_numbers-same ns parts.1)

narrow_segments-same : (segments : List Segment)
    → list_any (λ (s : Segment). list_any (λ n. not (is_narrow n)) s.numbers) segments ≡ false
    → map narrow_segment segments ≡ segments
narrow_segments-same [] none = refl
narrow_segments-same (s ∷ segments) none =
    let parts = or_false (list_any (λ n. not (is_narrow n)) s.numbers)
    (list_any (λ (s : Segment). list_any (λ n. not (is_narrow n)) s.numbers) segments) none in
    ap (λ (l : List ℕ). record { is_set = s.is_set; numbers = l } ∷ map narrow_segment segments)
    (narrow_numbers-same s.numbers parts.0)
    ∙ ap (λ (l : List Segment). s ∷ l) (narrow_segments-same segments parts.1)

-- a path without a wide number, made narrow and wide
wide_path-narrow_path : (v : List ℕ) → path_ok 4 v ≡ true → AreOctets v → is_wide_path v ≡ false
    → wide_path (narrow_path v) ≡ v
unfolding wide_path
wide_path-narrow_path v ok octets none =
    ap (path_octets 4) (path-narrow_path v ok ∙ narrow_segments-same (path 4 v) none)
    ∙ path_octets-path true v octets ok

-- a path made narrow, with itself beside it
merge-narrow_path : (v : List ℕ) → path_ok 4 v ≡ true → AreOctets v → merge (narrow_path v) v ≡ v
unfolding merge
merge-narrow_path v ok octets =
    let p = path 2 (narrow_path v) in
    let q = path 4 v in
    let same : hops p ≡ hops q = ap hops (path-narrow_path v ok) ∙ hops-narrow q in
    let none : hops p - hops q ≡ 0 = omega (arith, same) in
    ap (λ b. path_octets 4 (if b then p else first_units (hops p - hops q) p ++ q))
    (le-ltb (hops p) (hops q) (omega (arith, same)))
    ∙ ap (λ n. path_octets 4 (first_units n p ++ q)) none
    ∙ ap (λ (l : List Segment). path_octets 4 (l ++ q)) (first_units-zero p)
    ∙ path_octets-path true v octets ok

-- an AGGREGATOR without a wide number, made narrow and wide
wide_aggregator-narrow_aggregator : (v : List ℕ) → length v ≡ 8 → AreOctets v → is_wide_aggregator v ≡ false
    → wide_aggregator (narrow_aggregator v) ≡ v
wide_aggregator-narrow_aggregator v len octets none =
    let n = four_at v 0 in
    let t = drop 4 v in
    let same : narrow_number n ≡ n = ap (λ b. if b then n else AS_TRANS) (not_false (is_narrow n) none) in
    ap (λ k. four_octets k ++ t) (from_be_bytes-to_be_bytes_2 (narrow_number n) (narrow_number_fits n) ∙ same)
    ∙ ap (λ (l : List ℕ). l ++ t) (number_octets-first_number true v (omega (arith, len)) octets)
    ∙ take-append-drop 4 v

-- the AS number of an AGGREGATOR that has a wide one is written as that of RFC 6793
two_at-narrow_aggregator : (v : List ℕ) → is_wide_aggregator v ≡ true
    → (two_at (narrow_aggregator v) 0 == AS_TRANS) ≡ true
two_at-narrow_aggregator v wide =
    let n = four_at v 0 in
    let large : is_narrow n ≡ false = elim (cases_Bool (is_narrow n)) [
      | inl small ↦ let no : false ≡ true = ap not (sym small) ∙ wide in absurd (cc no)
      | inr large ↦ large
    ] in
    ap (λ b. two_at (two_octets (if b then n else AS_TRANS) ++ drop 4 v) 0 == AS_TRANS) large

-- what an attribute of a code must be for this
abbrev IsKept : Attribute → Type 0
IsKept a = kept_flags a.flags ≡ a.flags

record IsGoodPath (a : Attribute) : Type 0 where
  flags : IsKept a
  octets : AreOctets a.value
  path : path_ok 4 a.value ≡ true

record IsGoodAggregator (a : Attribute) : Type 0 where
  flags : IsKept a
  octets : AreOctets a.value
  len : length a.value ≡ 8

kept-valued : (to : List ℕ → List ℕ) (o : Option Attribute) → IfSome o IsKept
    → or_other (kept (valued to o)) o ≡ valued to o
kept-valued to None is = refl
kept-valued to (Some a) is = ap (λ f. Some (record { flags = f; value = to a.value })) is

kept-again : (to : List ℕ → List ℕ) (o : Option Attribute) → IfSome o IsKept
    → or_other (kept o) (or_other (kept (valued to o)) o) ≡ o
kept-again to None is = refl
kept-again to (Some a) is = ap (λ f. Some (record { flags = f; value = a.value })) is

kept-beside : (test : List ℕ → Bool) (o x : Option Attribute) → x ≡ None
    → or_other (kept (beside test o)) x ≡ beside test o
kept-beside test None x none = none
kept-beside test (Some a) x none = elim (cases_Bool (test a.value)) [
  | inl passes ↦ rw passes refl
  | inr fails ↦ rw fails none
]

-- AGGREGATOR was not set after the last speaker of four octets
since-narrow : (o : Option Attribute) → IfSome o IsGoodAggregator
    → aggregated_since (valued narrow_aggregator o) (good is_good_aggregator (beside is_wide_aggregator o)) ≡ false
since-narrow None is = refl
since-narrow (Some a) is = elim (cases_Bool (is_wide_aggregator a.value)) [
  | inl wide ↦
      let fits : (length a.value == 8) ≡ true = eq-eqb (length a.value) 8 is.len in
      rw (wide, fits) (ap not (two_at-narrow_aggregator a.value wide))
  | inr small ↦ rw small refl
]

path-again : (o : Option Attribute) → IfSome o IsGoodPath
    → valued (path_with (good is_good_path (beside is_wide_path o))) (valued narrow_path o) ≡ o
path-again None is = refl
path-again (Some a) is = elim (cases_Bool (is_wide_path a.value)) [
  | inl wide ↦ rw (wide, is.path) (ap (λ (v : List ℕ). Some (record { flags = a.flags; value = v }))
      (merge-narrow_path a.value is.path is.octets))
  | inr small ↦ rw small (ap (λ (v : List ℕ). Some (record { flags = a.flags; value = v }))
      (wide_path-narrow_path a.value is.path is.octets small))
]

aggregator-again : (o : Option Attribute) → IfSome o IsGoodAggregator
    → valued (aggregator_with (good is_good_aggregator (beside is_wide_aggregator o))) (valued narrow_aggregator o) ≡ o
aggregator-again None is = refl
aggregator-again (Some a) is = elim (cases_Bool (is_wide_aggregator a.value)) [
  | inl wide ↦
      let fits : (length a.value == 8) ≡ true = eq-eqb (length a.value) 8 is.len in
      rw (wide, fits) refl
  | inr small ↦ rw small (ap (λ (v : List ℕ). Some (record { flags = a.flags; value = v }))
      (wide_aggregator-narrow_aggregator a.value is.len is.octets small))
]

-- a route without a malformed attribute and without the codes of sessions of two octets
pub record IsPlain (r : Route) : Type 0 where
  pub formed : IsFormed r
  pub sound : HasNoFault r
  pub no_path4 : attribute_at r 17 ≡ None
  pub no_aggregator4 : attribute_at r 18 ≡ None

good_path_at : (r : Route) → IsPlain r → IfSome (attribute_at r 2) IsGoodPath
good_path_at r is = go (attribute_at r 2) refl
  where
    go : (o : Option Attribute) → attribute_at r 2 ≡ o → IfSome o IsGoodPath
    go None e = tt
    go (Some a) e = record {
      flags = is.formed.flags 2 a e;
      octets = is.formed.octets 2 a e;
      path = path_ok-no_fault 4 a.flags a.value (is.sound 2 a e);
    }

good_aggregator_at : (r : Route) → IsPlain r → IfSome (attribute_at r 7) IsGoodAggregator
good_aggregator_at r is = go (attribute_at r 7) refl
  where
    go : (o : Option Attribute) → attribute_at r 7 ≡ o → IfSome o IsGoodAggregator
    go None e = tt
    go (Some a) e = record {
      flags = is.formed.flags 7 a e;
      octets = is.formed.octets 7 a e;
      len = length-AGGREGATOR 4 a.flags a.value (is.sound 7 a e);
    }

kept_at : (r : Route) (code : ℕ) → IsPlain r → IfSome (attribute_at r code) IsKept
kept_at r code is = go (attribute_at r code) refl
  where
    go : (o : Option Attribute) → attribute_at r code ≡ o → IfSome o IsKept
    go None e = tt
    go (Some a) e = is.formed.flags code a e

at-narrow : (r : Route) (code : ℕ)
    → attribute_at (narrow r) code ≡ four_over (narrow_set r) code (attribute_at r code)
at-narrow r code = ap (λ s. attribute_at s code) (narrow-set_four r) ∙ at-set_four (narrow_set r) r code

-- what a narrow route has for the four codes, if it is received
received : (r : Route) → IsPlain r
    → ((wide_four (four_of (narrow r))).path ≡ attribute_at r 2)
    × ((wide_four (four_of (narrow r))).aggregator ≡ attribute_at r 7)
received r is =
    let n = narrow r in
    let o2 = attribute_at r 2 in
    let o7 = attribute_at r 7 in
    let n2 : attribute_at n 2 ≡ valued narrow_path o2 =
    at-narrow r 2 ∙ kept-valued narrow_path o2 (kept_at r 2 is) in
    let n7 : attribute_at n 7 ≡ valued narrow_aggregator o7 =
    at-narrow r 7 ∙ kept-valued narrow_aggregator o7 (kept_at r 7 is) in
    let n17 : attribute_at n 17 ≡ beside is_wide_path o2 =
    at-narrow r 17 ∙ kept-beside is_wide_path o2 (attribute_at r 17) is.no_path4 in
    let n18 : attribute_at n 18 ≡ beside is_wide_aggregator o7 =
    at-narrow r 18 ∙ kept-beside is_wide_aggregator o7 (attribute_at r 18) is.no_aggregator4 in
    let since : aggregated_since (attribute_at n 7) (good_aggregator n) ≡ false =
    ap (λ o. aggregated_since o (good_aggregator n)) n7
    ∙ ap (λ o. aggregated_since (valued narrow_aggregator o7) (good is_good_aggregator o)) n18
    ∙ since-narrow o7 (good_aggregator_at r is) in (
      ap (λ b. valued (path_with (if b then None else good_path n)) (attribute_at n 2)) since
          ∙ ap (λ o. valued (path_with (good is_good_path o)) (attribute_at n 2)) n17
          ∙ ap (λ o. valued (path_with (good is_good_path (beside is_wide_path o2))) o) n2
          ∙ path-again o2 (good_path_at r is),
      ap (λ b. valued (aggregator_with (if b then None else good_aggregator n)) (attribute_at n 7)) since
          ∙ ap (λ o. valued (aggregator_with (good is_good_aggregator o)) (attribute_at n 7)) n18
          ∙ ap (λ o. valued (aggregator_with (good is_good_aggregator (beside is_wide_aggregator o7))) o) n7
          ∙ aggregator-again o7 (good_aggregator_at r is),
    )

-- a route that is made narrow and received again is the route
pub inflow-narrow : (r : Route) → IsPlain r → inflow (narrow r) false ≡ r
inflow-narrow r is =
    let n = narrow r in
    let f = wide_four (four_of n) in
    let g = narrow_set r in
    let both = received r is in
    let n2 = set_if 2 f.path n in
    let n7 = set_if 7 f.aggregator n2 in
    let s : IsStrictlySortedBy nat_cmp (keys_of n) =
    subst (λ (l : Route). IsStrictlySortedBy nat_cmp (keys_of l)) (sym (narrow-set_four r))
    (rising-set_four g r is.formed.rising) in
    let s7 = rising-set_if n2 7 f.aggregator (rising-set_if n 2 f.path s) in
    let s17 = rising-without n7 17 s7 in
    inflow-set_if n
    ∙ same_route (without_narrow n7) r (rising-without (without_attribute n7 17) 18 s17) is.formed.rising
    (λ q. at-without (without_attribute n7 17) 18 q s17
    ∙ ap (less 18 q) (at-without n7 17 q s7)
    ∙ ap (λ x. less 18 q (less 17 q x)) (at-set_if n2 7 f.aggregator q)
    ∙ ap (λ x. less 18 q (less 17 q (over 7 f.aggregator q x))) (at-set_if n 2 f.path q)
    ∙ ap (λ x. less 18 q (less 17 q (over 7 f.aggregator q (over 2 f.path q x)))) (at-narrow r q)
    ∙ by_code (λ k. less 18 k (less 17 k (over 7 f.aggregator k (over 2 f.path k (four_over g k (attribute_at r k)))))
    ≡ attribute_at r k)
    (ap (λ o. or_other (kept o) (or_other (kept (valued narrow_path (attribute_at r 2))) (attribute_at r 2))) both.0
    ∙ kept-again narrow_path (attribute_at r 2) (kept_at r 2 is))
    (ap (λ o. or_other (kept o) (or_other (kept (valued narrow_aggregator (attribute_at r 7))) (attribute_at r 7)))
    both.1
    ∙ kept-again narrow_aggregator (attribute_at r 7) (kept_at r 7 is))
    (sym is.no_path4)
    (sym is.no_aggregator4)
    (λ k f2 f7 f17 f18. rw (f2, f7, f17, f18) refl) q)

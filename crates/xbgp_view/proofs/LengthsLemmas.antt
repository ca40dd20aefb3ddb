-- Lengths of canonical sections: how an edit changes one, and that a section that is read and written again is no longer.
use Rattle.std.proofs.Common.{◌≡◌, inl, inr, refl, sym, ap, subst, ◌∙◌, ℕ, zero, suc, ◌+◌, ◌<◌, ◌≤◌, Bool, true, false}
use Rattle.std.proofs.Common.{cond, List, [], ◌∷◌, ◌++◌, length, take, drop, fold, Some, None, arith, nat_lt}
use Rattle.std.specs.Prelude.{slice_index}
use Rattle.std.specs.List.{AllByRecursion, concat}
use Rattle.std.specs.List.Sorted.{IsStrictlySortedBy}
use Rattle.std.specs.Map.{keys_of}
use Rattle.std.specs.Ordering.{nat_cmp}
use Rattle.std.specs.declared.cmp.Ordering.TheVariants.{Less, Equal, Greater}
use Rattle.std.proofs.lemmas.Bool.{cases_Bool, le-leb, le-ltb}
use Rattle.std.proofs.lemmas.List.{length-append, length-drop, get_or-take}
use Rattle.xb_words.specs.Octets.{AreOctets}
use Rattle.xb_words.specs.Cut.{cut, IsItem, IsLocal}
use Rattle.xb_words.specs.Table.{with_value}
use Rattle.xb_words.proofs.CutLemmas.{IsItem-cut, concat-cut}
use Rattle.xb_words.proofs.ListLemmas.{AllByRecursion-left, AllByRecursion-right}
use Rattle.bgp_attr.specs.declared.TheConstants.{MAX_CANONICAL}
use Rattle.bgp_attr.specs.Attributes.{attribute_size, attr_code, attr_flags, attr_value, has_long_length, header_size}
use Rattle.bgp_attr.specs.Attributes.{value_size, whole_size}
use Rattle.bgp_attr.specs.Routes.{Attribute, Route, attribute_at, canon, canonical, kept_flags, route_of}
use Rattle.bgp_attr.specs.Routes.{with_attribute, IsEntry, IsRoute}
use Rattle.bgp_attr.proofs.AttributesLemmas.{IsSize-attribute_size}
use Rattle.xbgp_view.specs.Sections.{entry_octets}
use Rattle.xbgp_view.proofs.CanonicalLemmas.{attribute_size-some}
use Rattle.xbgp_view.proofs.EditsLemmas.{IsEntry-with_value, IsStrictlySortedBy-with_value, kept_flags-kept_flags}
use Rattle.xbgp_view.proofs.LowerLemmas.{below_none, lt-nat_cmp, eq-nat_cmp, past_all}

-- an edit takes the octets of the old entry from the section, and adds those of the new one
pub length-canon-with_value : (r : Route) (code : ℕ) (a : Attribute) → IsStrictlySortedBy nat_cmp (keys_of r)
    → length (canon (with_value nat_cmp r code a)) + length (entry_octets code (attribute_at r code)) ≡ length (canon r) + length (canonical (code, a))
unfolding IsStrictlySortedBy
length-canon-with_value [] code a rising = omega (arith, length-append (canonical (code, a)) [])
length-canon-with_value (e ∷ r) code a rising =
    elim (nat_cmp code e.0) as (λ o. nat_cmp code e.0 ≡ o
    → length (canon (with_value nat_cmp (e ∷ r) code a)) + length (entry_octets code (attribute_at (e ∷ r) code)) ≡ length (canon (e ∷ r)) + length (canonical (code, a))) [
      | Less ↦ λ is.
          let none : attribute_at r code ≡ None = (below_none code r (past_all code e.0 r (lt-nat_cmp code e.0 is) rising.0)).1 in
          rw (is, none) (omega (arith, length-append (canonical (code, a)) (canonical e ++ canon r)))
      | Equal ↦ λ is.
          let same : code ≡ e.0 = eq-nat_cmp code e.0 is in
          let new : length (canonical (e.0, a)) ≡ length (canonical (code, a)) = ap (λ k. length (canonical (k, a))) (sym same) in
          let old : length (canonical (code, e.1)) ≡ length (canonical e) = ap (λ k. length (canonical (k, e.1))) same in
          rw is (omega (arith, new, old, length-append (canonical (e.0, a)) (canon r), length-append (canonical e) (canon r)))
      | Greater ↦ λ is.
          rw is (omega (
            arith,
            length-canon-with_value r code a rising.1,
            length-append (canonical e) (canon (with_value nat_cmp r code a)),
            length-append (canonical e) (canon r),
          ))
    ] refl

-- octets, each and of a part
pub slice_index-octets : (s : List ℕ) (i : ℕ) → AreOctets s → slice_index s i < 256
slice_index-octets [] i all = omega arith
slice_index-octets (b ∷ s) zero all = all.0
slice_index-octets (b ∷ s) (suc i) all = slice_index-octets s i all.1

octets-drop : (n : ℕ) (s : List ℕ) → AreOctets s → AreOctets (drop n s)
octets-drop zero s all = all
octets-drop (suc n) [] all = tt
octets-drop (suc n) (b ∷ s) all = octets-drop n s all.1

-- a header has at least three octets
pub header_cases : (b : Bool) → 3 ≤ cond b 4 3
header_cases true = omega arith
header_cases false = omega arith

-- a size does not depend on what comes after the attribute
pub IsLocal-attribute_size : IsLocal attribute_size
IsLocal-attribute_size s n e =
    let w = attribute_size-some s n e in
    let t = take n s in
    let header = header_cases (has_long_length (slice_index s 0)) in
    let three : 3 ≤ n = omega (arith, w.1, header) in
    let at0 : slice_index t 0 ≡ slice_index s 0 = get_or-take n s 0 0 (omega (arith, three)) in
    let at2 : slice_index t 2 ≡ slice_index s 2 = get_or-take n s 2 0 (omega (arith, three)) in
    let same : whole_size t ≡ whole_size s = elim (cases_Bool (has_long_length (slice_index s 0))) [
      | inl long ↦
          let header4 : header_size (slice_index s 0) ≡ 4 = rw long refl in
          let four : 4 ≤ n = omega (arith, w.1, header4) in
          let at3 : slice_index t 3 ≡ slice_index s 3 = get_or-take n s 3 0 (omega (arith, four)) in
          rw (at0, at2, at3) refl
      | inr short ↦ rw (at0, short, at2) refl
    ] in
    let fits : whole_size t ≤ length t = omega (arith, same, w.0, w.1, length_front n s (omega (arith, w.0, w.1))) in
    rw (le-leb (whole_size t) (length t) fits) (ap Some (same ∙ w.1))
  where
    length_front : (n : ℕ) (s : List ℕ) → n ≤ length s → n ≤ length (take n s)
    length_front zero s l = omega arith
    length_front (suc n) [] l = absurd (omega (arith, l))
    length_front (suc n) (b ∷ s) l = omega (arith, length_front n s (omega (arith, l)))

-- the length of a canonical form
pub length-canonical : (e : ℕ × Attribute) → length (canonical e) ≡ cond (nat_lt 255 (length e.1.value)) 4 3 + length e.1.value
length-canonical e = elim (cases_Bool (nat_lt 255 (length e.1.value))) [
  | inl long ↦ rw long (omega arith)
  | inr short ↦ rw short (omega arith)
]

-- the canonical form of an attribute is no longer than the attribute
pub canonical_short : (x : List ℕ) → AreOctets x → IsItem attribute_size x
    → length (canonical (attr_code x, record { flags = kept_flags (attr_flags x); value = attr_value x })) ≤ length x
canonical_short x octets item =
    let w = attribute_size-some x (length x) item in
    let value = length-drop (header_size (attr_flags x)) x in
    let form = length-canonical (attr_code x, record { flags = kept_flags (attr_flags x); value = attr_value x }) in
    elim (cases_Bool (has_long_length (slice_index x 0))) [
      | inl long ↦
          let four : header_size (attr_flags x) ≡ 4 = rw long refl in
          let most : cond {A = ℕ} (nat_lt 255 (length (attr_value x))) 4 3 ≤ 4 = at_most (nat_lt 255 (length (attr_value x))) in
          omega (arith, w.1, four, value, form, most)
      | inr short ↦
          let three : header_size (attr_flags x) ≡ 3 = rw short refl in
          let size : value_size x ≡ slice_index x 2 = rw short refl in
          let few : length (attr_value x) ≤ 255 = omega (arith, w.1, three, value, size, slice_index-octets x 2 octets) in
          let form3 : cond {A = ℕ} (nat_lt 255 (length (attr_value x))) 4 3 ≡ 3 = rw (le-ltb 255 (length (attr_value x)) few) refl in
          omega (arith, w.1, three, value, form, form3)
    ]
  where
    at_most : (b : Bool) → cond b 4 3 ≤ 4
    at_most true = omega arith
    at_most false = omega arith

-- what is kept of a route while attributes are set in it
record IsGrown (r : Route) (most : ℕ) : Type 0 where
  rising : IsStrictlySortedBy nat_cmp (keys_of r)
  entries : AllByRecursion IsEntry r
  short : length (canon r) ≤ most

grown : (r : Route) (most : ℕ) (xs : List (List ℕ)) → AreOctets (concat xs) → AllByRecursion (IsItem attribute_size) xs → IsGrown r most
    → IsGrown (fold (λ r a. with_attribute r (attr_code a) (attr_flags a) (attr_value a)) r xs) (most + length (concat xs))
grown r most [] octets items g = record { rising = g.rising; entries = g.entries; short = omega (arith, g.short) }
grown r most (x ∷ xs) octets items g =
    let mine : AreOctets x = AllByRecursion-left (λ b. b < 256) x (concat xs) octets in
    let a : Attribute = record { flags = kept_flags (attr_flags x); value = attr_value x } in
    let code = attr_code x in
    let next = with_value nat_cmp r code a in
    let sum = length-canon-with_value r code a g.rising in
    let rest = grown next (most + length x) xs (AllByRecursion-right (λ b. b < 256) x (concat xs) octets) items.1 (record {
      rising = IsStrictlySortedBy-with_value code a r g.rising;
      entries = IsEntry-with_value code a r g.entries (record { code = slice_index-octets x 1 mine; flags = kept_flags-kept_flags (attr_flags x); value = octets-drop (header_size (attr_flags x)) x mine });
      short = omega (arith, sum, g.short, canonical_short x mine items.0);
    }) in
    record { rising = rest.rising; entries = rest.entries; short = omega (arith, rest.short, length-append x (concat xs)) }

section_grown : (s : List ℕ) → AreOctets s → IsGrown (route_of s) (length s)
unfolding IsStrictlySortedBy
section_grown s octets =
    let p = cut attribute_size s in
    let joined = concat-cut attribute_size s in
    let mine : AreOctets (concat p.items) = AllByRecursion-left (λ b. b < 256) (concat p.items) p.rest (subst AreOctets (sym joined) octets) in
    let g = grown [] 0 p.items mine (IsItem-cut attribute_size IsSize-attribute_size IsLocal-attribute_size s) (record { rising = tt; entries = tt; short = omega arith }) in
    record { rising = g.rising; entries = g.entries; short = omega (arith, g.short, ap length joined, length-append (concat p.items) p.rest) }

-- a section that is read and written again is no longer
pub length-canon-route_of : (s : List ℕ) → AreOctets s → length (canon (route_of s)) ≤ length s
length-canon-route_of s octets = (section_grown s octets).short

-- a short section is read as a route
pub IsRoute-route_of : (s : List ℕ) → AreOctets s → length s ≤ MAX_CANONICAL → IsRoute (route_of s)
IsRoute-route_of s octets short =
    let g = section_grown s octets in
    record { rising = g.rising; entries = g.entries; short = omega (arith, g.short, short) }

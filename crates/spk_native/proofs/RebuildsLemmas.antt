-- What a route with attributes removed and set has for each code, and how long its canonical section is.
use Rattle.std.proofs.Common.{◌≡◌, inl, inr, refl, sym, ap, ◌∙◌, ℕ, ◌+◌, ◌≤◌, Bool, true, false, cond, List, [], ◌∷◌}
use Rattle.std.proofs.Common.{◌++◌, length, Option, Some, None, arith, nat_le, nat_lt}
use Rattle.std.specs.Prelude.{sum_by, if◌then◌else◌}
use Rattle.std.specs.Map.{keys_of, values_of}
use Rattle.std.specs.BTreeMap.{is_at}
use Rattle.std.specs.Ordering.{nat_cmp, is_eq}
use Rattle.std.specs.List.Sorted.{IsStrictlySortedBy}
use Rattle.std.specs.declared.cmp.Ordering.{Ordering}
use Rattle.std.specs.declared.cmp.Ordering.TheVariants.{Less, Equal, Greater}
use Rattle.std.proofs.lemmas.Bool.{cases_Bool, le-leb}
use Rattle.std.proofs.lemmas.Cmp.{nat_cmp_total, eq_by_cmp_equiv}
use Rattle.std.proofs.lemmas.List.{length-append}
use Rattle.std.proofs.lemmas.List.Sums.{sum_by-cons}
use Rattle.std.proofs.lemmas.Map.{lookup-remove_entry}
use Rattle.std.proofs.lemmas.Map.Entries.{sum_by-remove_entry, sum_by-insert_entry}
use Rattle.std.proofs.lemmas.Map.Keys.{IsDistinct-from_sorted}
use Rattle.xb_words.specs.Table.{with_value}
use Rattle.bgp_attr.specs.declared.TheConstants.{MAX_CANONICAL}
use Rattle.bgp_attr.specs.Routes.{Attribute, Route, attribute_at, with_attribute, without_attribute, canon, canonical}
use Rattle.bgp_attr.specs.Routes.{kept_flags, IsRoute}
use Rattle.xbgp_view.specs.Views.{flags_and_length}
use Rattle.xbgp_view.proofs.ViewsLemmas.{flags_and_length-some, value_in, IsEntry-attribute_at}
use Rattle.xbgp_view.proofs.LengthsLemmas.{length-canonical}
use Rattle.xbgp_view.proofs.LowerLemmas.{eq-nat_cmp}
use Rattle.xbgp_view.proofs.EditsLemmas.{IsStrictlySortedBy-with_value, IsStrictlySortedBy-without}
use Rattle.spk_native.specs.declared.four.Four.{Four}
use Rattle.spk_native.specs.Rebuilds.{size_of, size_if, set_if, or_other, bare, four_size, four_of, rebuilt}

-- the length of a canonical section is the sum of its attributes
length-canon : (r : Route) → length (canon r) ≡ sum_by size_of (values_of r)
length-canon [] = refl
length-canon (e ∷ r) = omega (
  arith,
  length-append (canonical e) (canon r),
  length-canonical e,
  length-canon r,
  sum_by-cons size_of e.1 (values_of r),
)

-- a removal takes the octets of the attribute
pub length-without : (r : Route) (code : ℕ)
    → length (canon (without_attribute r code)) + size_if (attribute_at r code) ≡ length (canon r)
length-without r code = omega (
  arith,
  length-canon (without_attribute r code),
  length-canon r,
  sum_by-remove_entry size_of (is_at (nat_cmp code)) r,
)

-- a new attribute adds its octets
pub length-with_value : (r : Route) (code : ℕ) (a : Attribute) → IsStrictlySortedBy nat_cmp (keys_of r)
    → length (canon (with_value nat_cmp r code a)) + size_if (attribute_at r code) ≡ length (canon r) + size_of a
length-with_value r code a rising = omega (
  arith,
  length-canon (with_value nat_cmp r code a),
  length-canon r,
  sum_by-insert_entry size_of nat_cmp_total r code a rising,
)

-- the test of a key is symmetric
at_back : (k q : ℕ) → is_eq (nat_cmp q k) ≡ is_eq (nat_cmp k q)
at_back k q = (eq_by_cmp_equiv nat_cmp_total).symm q k

pub is_eq-true : (r : Ordering) → is_eq r ≡ true → r ≡ Equal
is_eq-true Less e = absurd (cc e)
is_eq-true Equal e = refl
is_eq-true Greater e = absurd (cc e)

-- what a route has for a code after a removal
pub at-without : (r : Route) (code q : ℕ) → IsStrictlySortedBy nat_cmp (keys_of r)
    → attribute_at (without_attribute r code) q ≡ cond (is_at (nat_cmp code) q) None (attribute_at r q)
at-without r code q rising =
    lookup-remove_entry (eq_by_cmp_equiv nat_cmp_total) (is_at (nat_cmp code))
    (λ x y e. (eq_by_cmp_equiv nat_cmp_total).congr code x y e) q r (IsDistinct-from_sorted nat_cmp (keys_of r) rising)

-- and after a write
pub at-with_value : (r : Route) (code : ℕ) (a : Attribute) (q : ℕ)
    → attribute_at (with_value nat_cmp r code a) q ≡ cond (is_at (nat_cmp code) q) (Some a) (attribute_at r q)
at-with_value [] code a q = ap (λ (b : Bool). cond {A = Option Attribute} b (Some a) None) (at_back code q)
at-with_value (e ∷ r) code a q =
    elim (nat_cmp code e.0) as (λ o. nat_cmp code e.0 ≡ o → attribute_at (with_value nat_cmp (e ∷ r) code a) q
    ≡ cond (is_at (nat_cmp code) q) (Some a) (attribute_at (e ∷ r) q)) [
      | Less ↦ λ is. rw is (ap (λ (b : Bool). cond b (Some a) (attribute_at (e ∷ r) q)) (at_back code q))
      | Equal ↦ λ is.
          let same : code ≡ e.0 = eq-nat_cmp code e.0 is in
          let first : is_eq (nat_cmp q e.0) ≡ is_eq (nat_cmp code q) =
          ap (λ k. is_eq (nat_cmp q k)) (sym same) ∙ at_back code q in
          elim (cases_Bool (is_eq (nat_cmp code q))) [
            | inl here ↦ rw (is, here, first ∙ here) refl
            | inr other ↦ rw (is, other, first ∙ other) refl
          ]
      | Greater ↦ λ is.
          elim (cases_Bool (is_eq (nat_cmp q e.0))) [
            | inl here ↦
                let same : q ≡ e.0 = eq-nat_cmp q e.0 (is_eq-true (nat_cmp q e.0) here) in
                let apart : is_eq (nat_cmp code q) ≡ false = ap (λ k. is_eq (nat_cmp code k)) same ∙ ap is_eq is in
                rw (is, here, apart) refl
            | inr other ↦ rw (is, other) (at-with_value r code a q)
          ]
    ] refl

-- an attribute with the flags that a route keeps
abbrev pub kept : Option Attribute → Option Attribute
kept None = None
kept (Some a) = Some (record { flags = kept_flags a.flags; value = a.value })

-- what is left of a code after a removal, and after an attribute was set, if there was one to set
abbrev pub less : ℕ → ℕ → Option Attribute → Option Attribute
less code q x = cond (is_at (nat_cmp code) q) None x

abbrev pub over : ℕ → Option Attribute → ℕ → Option Attribute → Option Attribute
over code o q x = cond (is_at (nat_cmp code) q) (or_other (kept o) x) x

cond_same : (b : Bool) (x : Option Attribute) → cond b x x ≡ x
cond_same true x = refl
cond_same false x = refl

pub at-set_if : (r : Route) (code : ℕ) (o : Option Attribute) (q : ℕ)
    → attribute_at (set_if code o r) q ≡ over code o q (attribute_at r q)
at-set_if r code None q = sym (cond_same (is_at (nat_cmp code) q) (attribute_at r q))
at-set_if r code (Some a) q = at-with_value r code (record { flags = kept_flags a.flags; value = a.value }) q

pub rising-without : (r : Route) (code : ℕ) → IsStrictlySortedBy nat_cmp (keys_of r)
    → IsStrictlySortedBy nat_cmp (keys_of (without_attribute r code))
rising-without r code rising = IsStrictlySortedBy-without code (record { flags = 0; value = [] }) r rising

pub rising-set_if : (r : Route) (code : ℕ) (o : Option Attribute) → IsStrictlySortedBy nat_cmp (keys_of r)
    → IsStrictlySortedBy nat_cmp (keys_of (set_if code o r))
rising-set_if r code None rising = rising
rising-set_if r code (Some a) rising =
    IsStrictlySortedBy-with_value code (record { flags = kept_flags a.flags; value = a.value }) r rising

pub rising-bare : (r : Route) → IsStrictlySortedBy nat_cmp (keys_of r) → IsStrictlySortedBy nat_cmp (keys_of (bare r))
rising-bare r rising =
    rising-without (without_attribute (without_attribute (without_attribute r 2) 7) 17) 18
    (rising-without (without_attribute (without_attribute r 2) 7) 17
    (rising-without (without_attribute r 2) 7 (rising-without r 2 rising)))

pub at-bare : (r : Route) (q : ℕ) → IsStrictlySortedBy nat_cmp (keys_of r)
    → attribute_at (bare r) q ≡ less 18 q (less 17 q (less 7 q (less 2 q (attribute_at r q))))
at-bare r q rising =
    let r2 = without_attribute r 2 in
    let r7 = without_attribute r2 7 in
    let r17 = without_attribute r7 17 in
    let s2 = rising-without r 2 rising in
    let s7 = rising-without r2 7 s2 in
    let s17 = rising-without r7 17 s7 in
    at-without r17 18 q s17
    ∙ ap (less 18 q) (at-without r7 17 q s7)
    ∙ ap (λ x. less 18 q (less 17 q x)) (at-without r2 7 q s2)
    ∙ ap (λ x. less 18 q (less 17 q (less 7 q x))) (at-without r 2 q rising)

-- the bare route has fewer octets by those of the four attributes
pub length-bare : (r : Route) → IsStrictlySortedBy nat_cmp (keys_of r)
    → length (canon (bare r)) + four_size (four_of r) ≡ length (canon r)
length-bare r rising =
    let r2 = without_attribute r 2 in
    let r7 = without_attribute r2 7 in
    let r17 = without_attribute r7 17 in
    let s2 = rising-without r 2 rising in
    let s7 = rising-without r2 7 s2 in
    let at7 = ap size_if (at-without r 2 7 rising) in
    let at17 = ap size_if (at-without r2 7 17 s2 ∙ at-without r 2 17 rising) in
    let at18 = ap size_if (at-without r7 17 18 s7 ∙ at-without r2 7 18 s2 ∙ at-without r 2 18 rising) in
    omega (
      arith,
      length-without r 2,
      length-without r2 7,
      length-without r7 17,
      length-without r17 18,
      at7,
      at17,
      at18,
    )

-- an attribute that is set, if the route did not have one of its code, adds its octets
pub length-set_if : (r : Route) (code : ℕ) (o : Option Attribute) → IsStrictlySortedBy nat_cmp (keys_of r)
    → attribute_at r code ≡ None → length (canon (set_if code o r)) ≡ length (canon r) + size_if o
length-set_if r code None rising none = omega arith
length-set_if r code (Some a) rising none =
    omega (
      arith,
      length-with_value r code (record { flags = kept_flags a.flags; value = a.value }) rising,
      ap size_if none,
    )

-- and so do the four
pub length-rebuilt : (f : Four) (r : Route) → IsStrictlySortedBy nat_cmp (keys_of r)
    → length (canon (rebuilt f r)) ≡ length (canon (bare r)) + four_size f
length-rebuilt f r rising =
    let b = bare r in
    let b2 = set_if 2 f.path b in
    let b7 = set_if 7 f.aggregator b2 in
    let b17 = set_if 17 f.path4 b7 in
    let s = rising-bare r rising in
    let s2 = rising-set_if b 2 f.path s in
    let s7 = rising-set_if b2 7 f.aggregator s2 in
    let s17 = rising-set_if b7 17 f.path4 s7 in
    let none2 = at-bare r 2 rising in
    let none7 = at-set_if b 2 f.path 7 ∙ at-bare r 7 rising in
    let none17 = at-set_if b2 7 f.aggregator 17
    ∙ at-set_if b 2 f.path 17 ∙ at-bare r 17 rising in
    let none18 = at-set_if b7 17 f.path4 18
    ∙ at-set_if b2 7 f.aggregator 18
    ∙ at-set_if b 2 f.path 18 ∙ at-bare r 18 rising in
    omega (
      arith,
      length-set_if b 2 f.path s none2,
      length-set_if b2 7 f.aggregator s2 none7,
      length-set_if b7 17 f.path4 s7 none17,
      length-set_if b17 18 f.aggregator4 s17 none18,
    )

-- the least that an attribute that is set can leave of a section, also if there was one
pub length-with_value-most : (r : Route) (code : ℕ) (a : Attribute)
    → length (canon (with_value nat_cmp r code a)) ≤ length (canon r) + size_of a
length-with_value-most [] code a = omega (arith, length-canonical (code, a), length-append (canonical (code, a)) [])
length-with_value-most (e ∷ r) code a =
    elim (nat_cmp code e.0) as (λ o. nat_cmp code e.0 ≡ o
    → length (canon (with_value nat_cmp (e ∷ r) code a)) ≤ length (canon (e ∷ r)) + size_of a) [
      | Less ↦ λ is. rw is (omega (
        arith,
        length-canonical (code, a),
        length-append (canonical (code, a)) (canonical e ++ canon r),
      ))
      | Equal ↦ λ is. rw is (omega (
        arith,
        length-canonical (e.0, a),
        length-append (canonical (e.0, a)) (canon r),
        length-append (canonical e) (canon r),
      ))
      | Greater ↦ λ is. rw is (omega (
        arith,
        length-with_value-most r code a,
        length-append (canonical e) (canon (with_value nat_cmp r code a)),
        length-append (canonical e) (canon r),
      ))
    ] refl

-- what an attribute is set to, and that there is room
pub record IsSet (r : Route) (code flags : ℕ) (value : List ℕ) (o : Option Attribute) (most : ℕ) : Type 0 where
  pub fits : nat_le (length (canon (with_attribute r code flags value))) most ≡ true
  pub same : with_attribute r code flags value ≡ set_if code o r
  pub bound : length (canon (set_if code o r)) ≤ length (canon r) + size_if o

pub IsSet-some : (r : Route) (code flags : ℕ) (value : List ℕ) (o : Option Attribute) (a : Attribute) (most : ℕ)
    → o ≡ Some a → flags ≡ a.flags → value ≡ a.value → length (canon r) + size_if o ≤ most
    → IsSet r code flags value o most
IsSet-some r code flags value o a most is f v room =
    let b : Attribute = record { flags = kept_flags flags; value = value } in
    let all = length-with_value-most r code b in
    let size : size_of b ≡ size_if o =
    ap (λ (t : List ℕ). size_of (record { flags = kept_flags flags; value = t })) v ∙ ap size_if (sym is) in
    let same : with_attribute r code flags value ≡ set_if code o r =
    ap (λ g. with_attribute r code g value) f ∙ ap (λ t. with_attribute r code a.flags t) v
    ∙ ap (λ p. set_if code p r) (sym is) in
    record {
      fits = le-leb (length (canon (with_attribute r code flags value))) most (omega (arith, all, size, room));
      same = same;
      bound = omega (arith, all, size, ap (λ s. length (canon s)) same);
    }

-- an attribute of a route is short
pub record IsShort (r : Route) (code n : ℕ) : Type 0 where
  pub value : n ≤ MAX_CANONICAL
  pub size : size_if (attribute_at r code) ≡ (if nat_lt 255 n then 4 else 3) + n
  pub whole : size_if (attribute_at r code) ≤ MAX_CANONICAL

pub IsShort-some : (r : Route) (code flags n : ℕ) → IsRoute r
    → ◌≡◌ {A = Option (ℕ × ℕ)} (Some (flags, n)) (flags_and_length r code) → IsShort r code n
IsShort-some r code flags n is told =
    let k = flags_and_length-some (attribute_at r code) flags n told in
    let v = value_in (attribute_at r code) in
    let entry = IsEntry-attribute_at r code (record { flags = flags; value = v }) is.entries k.0 in
    record {
      value = omega (arith, k.1, entry.1, is.short);
      size = ap size_if k.0 ∙ ap (λ m. (if nat_lt 255 m then 4 else 3) + m) k.1;
      whole = omega (arith, length-without r code, is.short);
    }

-- A canonical section is read as the route that it was written from.
use Rattle.std.proofs.Common.{◌≡◌, inl, inr, refl, sym, ap, subst, ◌∙◌, ℕ, ◌+◌, ◌^◌, ◌<◌, ◌≤◌, Bool, true, false, cond}
use Rattle.std.proofs.Common.{List, [], ◌∷◌, ◌++◌, length, map, Some, arith, nat_le, nat_lt}
use Rattle.std.specs.Prelude.{bit_and, bit_or, ◌==◌, not}
use Rattle.std.specs.List.{AllByRecursion, concat}
use Rattle.std.proofs.lemmas.Bool.{cases_Bool, leb-true, le-leb}
use Rattle.std.proofs.lemmas.List.{length-append, append-nil}
use Rattle.std.proofs.lemmas.Nat.{and_assoc, and_or_self, and_or_apart, or_disjoint, from_be_bytes-to_be_bytes_2}
use Rattle.std.specs.Int.Bits.{and_zero_r}
use Rattle.xb_words.specs.Octets.{two_at, two_octets}
use Rattle.xb_words.specs.Cut.{cut, IsStable, IsItem}
use Rattle.xb_words.proofs.CutLemmas.{cut-concat}
use Rattle.bgp_attr.specs.Attributes.{attribute_size, attr_flags, attr_code, attr_value, has_long_length, header_size}
use Rattle.bgp_attr.specs.Attributes.{whole_size}
use Rattle.bgp_attr.specs.declared.TheConstants.{MAX_CANONICAL}
use Rattle.bgp_attr.specs.Routes.{Attribute, Route, canon, canonical, kept_flags, IsEntry, IsRoute}
use Rattle.bgp_attr.proofs.AttributesLemmas.{IsSize-attribute_size}
use Rattle.std.proofs.lemmas.Option.{cond_some}

-- a size means that the whole attribute is there
pub attribute_size-some : (s : List ℕ) (n : ℕ) → attribute_size s ≡ Some n → (whole_size s ≤ length s) × (whole_size s ≡ n)
attribute_size-some s n e =
    let p = cond_some (nat_le (whole_size s) (length s)) (whole_size s) n e in
    (leb-true (whole_size s) (length s) p.0, p.1)

three : (b : Bool) → 3 ≤ cond b 4 3
three true = omega arith
three false = omega arith

-- an attribute that is there is as long if octets come after it
front_size : (s t : List ℕ) → whole_size s ≤ length s → whole_size (s ++ t) ≡ whole_size s
front_size [] t fits = absurd (omega (arith, fits, three (has_long_length 0)))
front_size (f ∷ []) t fits = absurd (omega (arith, fits, three (has_long_length f)))
front_size (f ∷ c ∷ []) t fits = absurd (omega (arith, fits, three (has_long_length f)))
front_size (f ∷ c ∷ l ∷ []) t fits = elim (cases_Bool (has_long_length f)) [
  | inl long ↦
      let four : header_size f ≡ 4 = ap (λ b. cond b 4 3) long in
      absurd (omega (arith, fits, four))
  | inr short ↦ rw short refl
]
front_size (f ∷ c ∷ l ∷ m ∷ s) t fits = refl

-- octets after an attribute do not change its size
pub IsStable-attribute_size : IsStable attribute_size
IsStable-attribute_size s t n e =
    let w = attribute_size-some s n e in
    let same = front_size s t w.0 in
    let fits : whole_size (s ++ t) ≤ length (s ++ t) = omega (arith, w.0, same, length-append s t) in
    rw (le-leb (whole_size (s ++ t)) (length (s ++ t)) fits) (ap Some (same ∙ w.1))

-- the flags that a route keeps do not touch the flag of a long length
pub has_long_length-kept : (f : ℕ) → kept_flags f ≡ f → has_long_length f ≡ false
has_long_length-kept f kept =
    ap (λ n. not (n == 0)) (ap (λ n. bit_and n 16) (sym kept) ∙ and_assoc 16 f 224 ∙ and_zero_r f)

apart : (f : ℕ) → kept_flags f ≡ f → bit_and f 16 ≡ 0
apart f kept = ap (λ n. bit_and n 16) (sym kept) ∙ and_assoc 16 f 224 ∙ and_zero_r f

-- adding the flag of a long length sets its bit
pub extended_is_or : (f : ℕ) → kept_flags f ≡ f → f + 16 ≡ bit_or f 16
extended_is_or f kept = sym (or_disjoint f 16 (apart f kept))

-- then the length has two octets
pub has_long_length-extended : (f : ℕ) → kept_flags f ≡ f → has_long_length (f + 16) ≡ true
has_long_length-extended f kept = ap (λ n. not (n == 0)) (ap (λ n. bit_and n 16) (extended_is_or f kept) ∙ and_or_self 16 f)

-- a route does not keep the flag
pub kept_flags-extended : (f : ℕ) → kept_flags f ≡ f → kept_flags (f + 16) ≡ f
kept_flags-extended f kept = ap kept_flags (extended_is_or f kept) ∙ and_or_apart 224 f 16 refl ∙ kept

-- what is read of a canonical attribute
pub record IsSpelled (e : ℕ × Attribute) : Type 0 where
  pub item : IsItem attribute_size (canonical e)
  pub flags : kept_flags (attr_flags (canonical e)) ≡ e.1.flags
  pub code : attr_code (canonical e) ≡ e.0
  pub value : attr_value (canonical e) ≡ e.1.value

module _ (code flags : ℕ) (value : List ℕ) (kept : kept_flags flags ≡ flags) where
  abbrev e : ℕ × Attribute
  e = (code, record { flags = flags; value = value })

  short_is : nat_lt 255 (length value) ≡ false → IsSpelled e
  short_is short =
      let is : canonical e ≡ flags ∷ code ∷ length value ∷ value = rw short refl in
      let flag = has_long_length-kept flags kept in
      let size : attribute_size (flags ∷ code ∷ length value ∷ value) ≡ Some (3 + length value) =
      rw flag (rw (le-leb (3 + length value) (length (flags ∷ code ∷ length value ∷ value)) (omega arith)) refl) in
      record {
        item = subst (λ (s : List ℕ). IsItem attribute_size s) (sym is) (size ∙ ap Some (omega arith));
        flags = ap (λ s. kept_flags (attr_flags s)) is ∙ kept;
        code = ap attr_code is;
        value = ap attr_value is ∙ (rw flag refl);
      }

  long_is : nat_lt 255 (length value) ≡ true → length value < 2 ^ 16 → IsSpelled e
  long_is long small =
      let is : canonical e ≡ (flags + 16) ∷ code ∷ two_octets (length value) ++ value = rw long refl in
      let flag = has_long_length-extended flags kept in
      let read : two_at (two_octets (length value)) 0 ≡ length value = from_be_bytes-to_be_bytes_2 (length value) small in
      let size : attribute_size ((flags + 16) ∷ code ∷ two_octets (length value) ++ value) ≡ Some (4 + length value) =
      rw (flag, read) (rw (le-leb (4 + length value) (length ((flags + 16) ∷ code ∷ two_octets (length value) ++ value)) (omega arith)) refl) in
      record {
        item = subst (λ (s : List ℕ). IsItem attribute_size s) (sym is) (size ∙ ap Some (omega arith));
        flags = ap (λ s. kept_flags (attr_flags s)) is ∙ kept_flags-extended flags kept;
        code = ap attr_code is;
        value = ap attr_value is ∙ (rw flag refl);
      }

-- an entry with a value that is not too long
pub IsSpelled-entry : (e : ℕ × Attribute) → kept_flags e.1.flags ≡ e.1.flags → length e.1.value < 2 ^ 16 → IsSpelled e
IsSpelled-entry e kept small = elim (cases_Bool (nat_lt 255 (length e.1.value))) [
  | inl long ↦ long_is e.0 e.1.flags e.1.value kept long small
  | inr short ↦ short_is e.0 e.1.flags e.1.value kept short
]

-- the entries of a route are spelled as whole attributes
pub record AreSpelled (r : Route) : Type 0 where
  pub all : AllByRecursion IsSpelled r

-- a value is no longer than its attribute
pub length-value-canonical : (e : ℕ × Attribute) → length e.1.value ≤ length (canonical e)
length-value-canonical e = elim (cases_Bool (nat_lt 255 (length e.1.value))) [
  | inl long ↦ rw long (omega arith)
  | inr short ↦ rw short (omega arith)
]

-- all entries of a route whose canonical section is not too long
pub IsSpelled-all : (r : Route) (n : ℕ) → AllByRecursion IsEntry r → length (canon r) ≤ n → n < 2 ^ 16 → AllByRecursion IsSpelled r
IsSpelled-all [] n entries short small = tt
IsSpelled-all (e ∷ r) n entries short small =
    let sum = length-append (canonical e) (canon r) in (
      IsSpelled-entry e entries.0.flags (omega (arith, length-value-canonical e, sum, short, small)),
      IsSpelled-all r n entries.1 (omega (arith, sum, short)) small,
    )

all_items : (r : Route) → AllByRecursion IsSpelled r → AllByRecursion (IsItem attribute_size) (map canonical r)
all_items [] all = tt
all_items (e ∷ r) all = (all.0.item, all_items r all.1)

canon_joined : (r : Route) → canon r ≡ concat (map canonical r)
canon_joined [] = refl
canon_joined (e ∷ r) = ap (λ s. canonical e ++ s) (canon_joined r)

-- a canonical section is cut into the spellings of its entries
pub cut-canon : (r : Route) → AllByRecursion IsSpelled r → cut attribute_size (canon r) ≡ record { items = map canonical r; rest = [] }
cut-canon r all =
    ap (cut attribute_size) (canon_joined r ∙ sym (append-nil (concat (map canonical r))))
    ∙ cut-concat attribute_size IsSize-attribute_size IsStable-attribute_size (map canonical r) [] (all_items r all) refl

-- a whole route has spelled entries
pub IsSpelled-route : (r : Route) → IsRoute r → AllByRecursion IsSpelled r
IsSpelled-route r is = IsSpelled-all r MAX_CANONICAL is.entries is.short (omega arith)

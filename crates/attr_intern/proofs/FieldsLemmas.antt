-- The fields of a canonical section: how they grow, and what a search among them finds.
use Rattle.std.proofs.Common.{◌≡◌, ℕ, ◌+◌, ◌≤◌, List, [], ◌∷◌, ◌++◌, length, take, drop, find, Option, Some}
use Rattle.std.proofs.Common.{None, option_map, inl, inr, refl, sym, ap, ◌∙◌, subst, arith, append_assoc, length-append}
use Rattle.std.proofs.Common.{add-zero, zero-add}
use Rattle.std.specs.Prelude.{◌==◌, nat_lt, nat_le}
use Rattle.std.specs.Ordering.{nat_cmp}
use Rattle.std.specs.declared.cmp.Ordering.TheVariants.{Less, Equal, Greater}
use Rattle.std.proofs.lemmas.Bool.{cases_Bool}
use Rattle.std.proofs.lemmas.Bool.Decides.{eqb_tells}
use Rattle.std.proofs.lemmas.List.{append-nil, drop_at, take_all, take-append-le}
use Rattle.xb_words.specs.Octets.{two_octets}
use Rattle.bgp_attr.specs.declared.flags.TheConstants.{EXTENDED_LENGTH}
use Rattle.bgp_attr.specs.Routes.{Attribute, Route, attribute_at, canon, canonical, route_of}
use Rattle.xbgp_view.specs.Sections.{below_code, entry_octets, entry_of, IsCanonical}
use Rattle.xbgp_view.specs.Views.{code_from}
use Rattle.xbgp_view.proofs.FoundLemmas.{canon-append}
use Rattle.xbgp_view.proofs.LengthsLemmas.{length-canonical}
use Rattle.xbgp_view.proofs.LowerLemmas.{nat_cmp-equal, eq-nat_cmp}
use Rattle.xbgp_view.proofs.ViewsLemmas.{IsNext}
use Rattle.attr_intern.specs.declared.record.Field.{Field}
use Rattle.attr_intern.specs.Fields.{attribute_in, field_of, fields_at, fields_from, header_of}

-- the fields of two parts of a route
pub fields_from-append : (at : ℕ) (r s : Route)
    → fields_from at (r ++ s) ≡ fields_from at r ++ fields_from (at + length (canon r)) s
fields_from-append at [] s = ap (λ n. fields_from n s) (sym (add-zero at))
fields_from-append at (e ∷ r) s =
    let next = at + length (canonical e) in
    let place : next + length (canon r) ≡ at + length (canon (e ∷ r)) =
    omega (arith, length-append (canonical e) (canon r)) in
    ap (λ l. field_of at e ∷ l)
    (fields_from-append next r s ∙ ap (λ n. fields_from next r ++ fields_from n s) place)

-- a search by the codes of fields is a search by the codes of entries
pub find-fields_from : (at from : ℕ) (r : Route)
    → option_map (λ (f : Field). f.code) (find (λ f. nat_le from f.code) (fields_from at r)) ≡ code_from r from
find-fields_from at from [] = refl
find-fields_from at from (e ∷ r) = elim (cases_Bool (nat_le from e.0)) [
  | inl here ↦ rw here refl
  | inr other ↦ rw other (find-fields_from (at + length (canonical e)) from r)
]

-- the octets of an attribute before its value
record IsHeader (head : List ℕ) (e : ℕ × Attribute) : Type 0 where
  parts : canonical e ≡ head ++ e.1.value
  len : length head ≡ header_of e.1

header : (e : ℕ × Attribute) → (head : List ℕ) × IsHeader head e
header e = elim (cases_Bool (nat_lt 255 (length e.1.value))) [
  | inl long ↦ (
    (e.1.flags + EXTENDED_LENGTH) ∷ e.0 ∷ two_octets (length e.1.value),
    record { parts = rw long refl; len = rw long refl },
  )
  | inr short ↦ (
    e.1.flags ∷ e.0 ∷ length e.1.value ∷ [],
    record { parts = rw short refl; len = rw short refl },
  )
]

value_between : (before head value after : List ℕ) (n : ℕ) → length head ≡ n
    → take (length value) (drop (length before + n) (before ++ ((head ++ value) ++ after))) ≡ value
value_between before head value after n e =
    let parts : before ++ ((head ++ value) ++ after) ≡ (before ++ head) ++ (value ++ after) = simp append_assoc in
    let len : length (before ++ head) ≡ length before + n = omega (arith, length-append before head) in
    let dropped = drop_at (before ++ head) (value ++ after) (length before + n) len in
    rw (parts, dropped)
    (take-append-le (length value) value after (omega arith) ∙ take_all (length value) value (omega arith))

-- the value of an attribute that stands after other octets
value_in : (before after : List ℕ) (e : ℕ × Attribute)
    → take (length e.1.value) (drop (length before + header_of e.1) (before ++ (canonical e ++ after))) ≡ e.1.value
value_in before after e =
    let h = header e in
    rw h.1.parts (value_between before h.0 e.1.value after (header_of e.1) h.1.len)

-- where a field is found, its attribute stands
pub record IsFoundIn (section : List ℕ) (f : Field) (a : Option Attribute) : Type 0 where
  pub attribute : Some (attribute_in section f) ≡ a
  pub inside : f.start + f.len ≤ length section

-- what a search among the fields finds
abbrev pub FindsIn : List ℕ → Option Field → Option Attribute → Type 0
FindsIn section None a = None ≡ a
FindsIn section (Some f) a = IsFoundIn section f a

pub FindsIn-fields_from : (before : List ℕ) (r : Route) (code : ℕ)
    → FindsIn (before ++ canon r) (find (λ f. f.code == code) (fields_from (length before) r)) (attribute_at r code)
FindsIn-fields_from before [] code = refl
FindsIn-fields_from before (e ∷ r) code =
    let section = before ++ canon (e ∷ r) in
    let rest = FindsIn-fields_from (before ++ canonical e) r code in
    let shifted : FindsIn section (find (λ f. f.code == code) (fields_from (length before + length (canonical e)) r))
    (attribute_at r code) = rw (append_assoc, length-append) at rest in
    elim (eqb_tells e.0 code) [
      | inl here ↦
          let found : IsFoundIn section (field_of (length before) e) (Some e.1) = record {
            attribute = ap (λ v. Some (record { flags = e.1.flags; value = v })) (value_in before (canon r) e);
            inside = omega (
              arith,
              length-append before (canon (e ∷ r)),
              length-append (canonical e) (canon r),
              length-canonical e,
            );
          } in
          rw (nat_cmp-equal code e.0 (sym here.1), here.0) found
      | inr other ↦ elim (nat_cmp code e.0) as (λ o. nat_cmp code e.0 ≡ o
          → FindsIn section (find (λ f. f.code == code) (fields_from (length before) (e ∷ r)))
          (attribute_at (e ∷ r) code)) [
            | Less ↦ λ is. rw (other.0, is) shifted
            | Equal ↦ λ is. absurd (other.1 (sym (eq-nat_cmp code e.0 is)))
            | Greater ↦ λ is. rw (other.0, is) shifted
          ] refl
    ]

-- the fields of the entries below a number, and then that of the next entry
pub fields_from-next : (r : Route) (from code n at m : ℕ) (old new : List Field) → IsNext r from code
    → old ≡ fields_from 0 (below_code from r) → at ≡ length (canon (below_code from r))
    → new ≡ old ++ fields_at at code (attribute_at r code) → m ≡ at + length (entry_octets code (attribute_at r code))
    → n ≡ code → (new ≡ fields_from 0 (below_code (n + 1) r)) × (m ≡ length (canon (below_code (n + 1) r)))
fields_from-next r from code n at m old new next is place more moved same =
    let step : (o : Option Attribute)
    → (fields_from 0 (below_code from r) ++ fields_at (length (canon (below_code from r))) code o
    ≡ fields_from 0 (below_code from r ++ entry_of code o))
    × (length (canon (below_code from r)) + length (entry_octets code o)
    ≡ length (canon (below_code from r ++ entry_of code o))) =
    λ o. step_at (below_code from r) code o in
    let both = step (attribute_at r code) in (
      more ∙ ap (λ l. l ++ fields_at at code (attribute_at r code)) is
          ∙ ap (λ k. fields_from 0 (below_code from r) ++ fields_at k code (attribute_at r code)) place
          ∙ both.0 ∙ ap (fields_from 0) (sym next.lower)
          ∙ ap (λ k. fields_from 0 (below_code (k + 1) r)) (sym same),
      moved ∙ ap (λ k. k + length (entry_octets code (attribute_at r code))) place
          ∙ both.1 ∙ ap (λ l. length (canon l)) (sym next.lower)
          ∙ ap (λ k. length (canon (below_code (k + 1) r))) (sym same),
    )
  where
    step_at : (l : Route) (code : ℕ) (o : Option Attribute)
        → (fields_from 0 l ++ fields_at (length (canon l)) code o ≡ fields_from 0 (l ++ entry_of code o))
        × (length (canon l) + length (entry_octets code o) ≡ length (canon (l ++ entry_of code o)))
    step_at l code None = (
      append-nil _ ∙ ap (fields_from 0) (sym (append-nil l)),
      add-zero _ ∙ ap (λ k. length (canon k)) (sym (append-nil l)),
    )
    step_at l code (Some a) = (
      sym (fields_from-append 0 l ((code, a) ∷ [])
          ∙ ap (λ n. fields_from 0 l ++ fields_from n ((code, a) ∷ [])) (zero-add _)),
      sym (ap length (canon-append l ((code, a) ∷ [])) ∙ length-append (canon l) (canonical (code, a) ++ [])
          ∙ ap (λ k. length (canon l) + length k) (append-nil (canonical (code, a)))),
    )

-- a search among the fields of a canonical section, for a code
pub found_in : (section : List ℕ) (fields : List Field) (code : ℕ) (found : Option Field) → IsCanonical section
    → fields ≡ fields_from 0 (route_of section) → found ≡ find (λ f. f.code == code) fields
    → FindsIn section found (attribute_at (route_of section) code)
found_in section fields code found canonical are is =
    let r = route_of section in
    let whole : FindsIn section (find (λ f. f.code == code) (fields_from 0 r)) (attribute_at r code) =
    subst (λ (s : List ℕ). FindsIn s (find (λ f. f.code == code) (fields_from 0 r)) (attribute_at r code))
    canonical.octets (FindsIn-fields_from [] r code) in
    subst (λ (f : Option Field). FindsIn section f (attribute_at r code))
    (sym (is ∙ ap (find (λ f. f.code == code)) are)) whole

-- and for the least code from a number on
pub code_found : (fields : List Field) (r : Route) (from : ℕ) (found : Option Field) → fields ≡ fields_from 0 r
    → found ≡ find (λ f. nat_le from f.code) fields → option_map (λ (f : Field). f.code) found ≡ code_from r from
code_found fields r from found are is =
    ap (option_map (λ (f : Field). f.code)) (is ∙ ap (find (λ f. nat_le from f.code)) are) ∙ find-fields_from 0 from r

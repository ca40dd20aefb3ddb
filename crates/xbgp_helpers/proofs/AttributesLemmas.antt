-- Which attribute of a route is the least from a code on.
use Rattle.std.proofs.Common.{◌≡◌, inl, inr, refl, sym, ap, ◌∙◌, ℕ, ◌+◌, ◌*◌, ◌<◌, List, [], ◌∷◌, Option}
use Rattle.std.proofs.Common.{Some, None, arith, nat_le, find}
use Rattle.std.specs.Option.{unwrap_or}
use Rattle.std.specs.List.{AllByRecursion}
use Rattle.std.specs.List.Sorted.{IsStrictlySortedBy}
use Rattle.std.specs.Map.{keys_of}
use Rattle.std.specs.Ordering.{nat_cmp}
use Rattle.std.proofs.lemmas.Bool.{cases_Bool, leb-false}
use Rattle.bgp_attr.specs.Routes.{Attribute, Route, attribute_at, IsEntry}
use Rattle.xbgp_view.specs.Views.{code_from, flags_and_length}
use Rattle.xbgp_view.proofs.LowerLemmas.{nat_cmp-greater, nat_cmp-equal}
use Rattle.xbgp_view.proofs.ViewsLemmas.{value_in, flags_and_length-some, IsNext-code_from}
use Rattle.xbgp_helpers.specs.Helping.{code_and_flags}

-- the first entry of a route from a code on
pub record IsFirst (r : Route) (from code : ℕ) (e : ℕ × Attribute) : Type 0 where
  pub found : find (λ e. nat_le from e.0) r ≡ Some e
  pub same : e.0 ≡ code
  pub attribute : attribute_at r code ≡ Some e.1

-- the entry of the least code from a number on
pub first-code_from : (r : Route) (from code : ℕ) → AllByRecursion IsEntry r → IsStrictlySortedBy nat_cmp (keys_of r)
    → Some code ≡ code_from r from
    → (e : ℕ × Attribute) × IsFirst r from code e
unfolding IsStrictlySortedBy
first-code_from [] from code all rising h = absurd (cc h)
first-code_from (x ∷ r) from code all rising h = elim (cases_Bool (nat_le from x.0)) [
  | inl from_here ↦
      let same : x.0 ≡ code = (let found : Some code ≡ Some x.0 = rw from_here at h in cc found) in
      (x, record { found = rw from_here refl; same = same; attribute = rw (nat_cmp-equal code x.0 (sym same)) refl })
  | inr later ↦
      let tail : Some code ≡ code_from r from = rw later at h in
      let past = (IsNext-code_from r from code all.1 rising.1 tail).past in
      let before : x.0 < code = omega (arith, past, leb-false from x.0 later) in
      let rest = first-code_from r from code all.1 rising.1 tail in (
        rest.0,
        record {
          found = rw later rest.1.found;
          same = rest.1.same;
          attribute = rw
              (nat_cmp-greater code x.0 before) rest.1.attribute;
        },
      )
]

-- what a helper gives of it
pub code_and_flags-first : (r : Route) (from code flags len : ℕ) (e : ℕ × Attribute) → IsFirst r from code e
    → ◌≡◌ {A = Option (ℕ × ℕ)} (Some (flags, len)) (flags_and_length r code)
    → code_and_flags (find (λ e. nat_le from e.0) r) ≡ code + 256 * flags
code_and_flags-first r from code flags len e first told =
    let k = flags_and_length-some (attribute_at r code) flags len told in
    let a : Attribute = record { flags = flags; value = value_in (attribute_at r code) } in
    let entry : Some e.1 ≡ Some a = sym first.attribute ∙ k.0 in
    let same : e.1.flags ≡ flags = ap (λ (o : Option Attribute). (unwrap_or o e.1).flags) entry in
    rw (first.found, first.same, same) refl

-- an entry that a route has is shown
pub shown-first : (r : Route) (from code : ℕ) (e : ℕ × Attribute) → IsFirst r from code e
    → None ≡ flags_and_length r code → ⊥
shown-first r from code e first none = let some = rw first.attribute at none in cc some

-- Received routes without faults.
use Rattle.std.proofs.Common.{◌≡◌, inl, inr, sym, ◌∙◌, subst, ℕ, Bool, List, [], ◌∷◌, fold}
use Rattle.std.proofs.Common.{Option, Some}
use Rattle.std.specs.Prelude.{if◌then◌else◌}
use Rattle.std.specs.List.Sorted.{IsStrictlySortedBy}
use Rattle.std.specs.Ordering.{nat_cmp, is_eq}
use Rattle.std.proofs.lemmas.Bool.{cases_Bool}
use Rattle.std.proofs.lemmas.Cmp.{nat_cmp_total}
use Rattle.xb_words.specs.Table.{IsRising}
use Rattle.xb_words.proofs.TableLemmas.{IsRising-with_value}
use Rattle.xb_domain.specs.declared.side.Side.{Side}
use Rattle.bgp_attr.specs.declared.codes.TheConstants.{LOCAL_PREF}
use Rattle.bgp_attr.specs.Attributes.{attributes, attr_code, attr_flags, attr_value}
use Rattle.bgp_attr.specs.Routes.{Attribute, Route, attribute_at, with_attribute, without_attribute, kept_flags}
use Rattle.bgp_attr.specs.Routes.{route_of}
use Rattle.spk_native.specs.Filters.{as_received, is_external}
use Rattle.spk_native.specs.Values.{IsFaultless}
use Rattle.spk_native.proofs.RebuildsLemmas.{less, at-without}

-- the codes of a route that attributes make rise
rising_from : (attrs : List (List ℕ)) (r : Route) → IsRising nat_cmp r
    → IsRising nat_cmp (fold (λ r a. with_attribute r (attr_code a) (attr_flags a) (attr_value a)) r attrs)
rising_from [] r rising = rising
rising_from (a ∷ attrs) r rising =
    rising_from attrs (with_attribute r (attr_code a) (attr_flags a) (attr_value a))
    (IsRising-with_value nat_cmp nat_cmp_total r (attr_code a)
    (record { flags = kept_flags (attr_flags a); value = attr_value a }) rising)

rising_none : IsRising {X = Attribute} nat_cmp []
unfolding IsStrictlySortedBy
rising_none = tt

pub rising-route_of : (s : List ℕ) → IsRising nat_cmp (route_of s)
rising-route_of s = rising_from (attributes s) [] rising_none

less_some : (code q : ℕ) (x : Option Attribute) (a : Attribute) → less code q x ≡ Some a → x ≡ Some a
less_some code q x a is = elim (cases_Bool (is_eq (nat_cmp code q))) [
  | inl here ↦ absurd (cc (rw here at is))
  | inr other ↦ rw other at is
]

-- a removal makes no fault
faultless-without : (w : ℕ) (r : Route) (code : ℕ) → IsRising nat_cmp r → IsFaultless w r
    → IsFaultless w (without_attribute r code)
faultless-without w r code rising none q a at =
    none q a (less_some code q (attribute_at r q) a (sym (at-without r code q rising) ∙ at))

-- what programs see of a received route has none
pub faultless-as_received : (w : ℕ) (peer : Side) (s : List ℕ) → IsFaultless w (route_of s)
    → IsFaultless w (as_received peer (route_of s))
faultless-as_received w peer s none = elim (cases_Bool (is_external peer)) [
  | inl external ↦ subst (λ (b : Bool). IsFaultless w (if b then without_attribute (route_of s) LOCAL_PREF else route_of s))
      (sym external) (faultless-without w (route_of s) LOCAL_PREF (rising-route_of s) none)
  | inr other ↦ subst (λ (b : Bool). IsFaultless w (if b then without_attribute (route_of s) LOCAL_PREF else route_of s))
      (sym other) none
]

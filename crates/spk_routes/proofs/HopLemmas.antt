-- The NEXT_HOP of a route without faults.
use Rattle.std.proofs.Common.{◌≡◌, inl, inr, refl, sym, ap, ℕ, Bool, true, false, List, length, Option, Some, None}
use Rattle.std.specs.Prelude.{IfSome, ◌==◌}
use Rattle.std.proofs.lemmas.Bool.Decides.{eqb_tells}
use Rattle.bgp_attr.specs.Routes.{Attribute, Route, attribute_at}
use Rattle.bgp_attr.specs.Rules.{attr_fault, row_fault}
use Rattle.bgp_attr.specs.declared.rule.AttrFault.{AttrFault}
use Rattle.spk_native.specs.Values.{HasNoFault, next_hop}
use Rattle.xbgp_view.specs.Views.{length_that_fits}
use Rattle.xb_words.specs.Octets.{four_at}
use Rattle.std.specs.Option.{option_map, unwrap_or}

length_row : (flags fits : Bool) (o : Option AttrFault) → row_fault flags fits o ≡ None → fits ≡ true
length_row false fits o e = absurd (cc e)
length_row true true o e = refl
length_row true false o e = absurd (cc e)

length-NEXT_HOP : (flags : ℕ) (value : List ℕ) → attr_fault 4 3 flags value ≡ None → length value ≡ 4
unfolding attr_fault
length-NEXT_HOP flags value e = elim (eqb_tells (length value) 4) [
  | inl here ↦ here.1
  | inr other ↦ absurd (cc (other.0, length_row _ (length value == 4) _ e))
]

-- it has four octets
pub faultless_next_hop : (r : Route) (o : Option Attribute) → HasNoFault r → o ≡ attribute_at r 3
    → IfSome o (λ a. length a.value ≡ 4)
faultless_next_hop r None none e = tt
faultless_next_hop r (Some a) none e = length-NEXT_HOP a.flags a.value (none 3 a (sym e))

none_fits : (o : Option Attribute) (n : Option ℕ) → IfSome o (λ a. length a.value ≡ 4) → n ≡ length_that_fits o 4
    → n ≡ None → o ≡ None
none_fits None n four is none = refl
none_fits (Some a) n four is none =
    let fits : length_that_fits (Some a) 4 ≡ Some (length a.value) = rw four refl in
    absurd (cc (is, none, fits))

-- a NEXT_HOP that four octets do not hold is not there
pub next_hop_none : (r : Route) (n : Option ℕ) → HasNoFault r → n ≡ length_that_fits (attribute_at r 3) 4
    → n ≡ None → 0 ≡ next_hop r
next_hop_none r n none is absent =
    ap (λ (o : Option Attribute). unwrap_or (option_map (λ v. four_at v 0) (option_map (λ a. a.value) o)) 0)
    (sym (none_fits (attribute_at r 3) n (faultless_next_hop r (attribute_at r 3) none refl) is absent))

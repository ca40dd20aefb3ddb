-- What is read of a route: the value that a view lends, and the AS_PATH of a route without faults.
use Rattle.std.proofs.Common.{◌≡◌, refl, sym, ap, ◌∙◌, ℕ, Bool, true, false, List, [], Option, Some, None}
use Rattle.std.proofs.Common.{Bor, not, ◌&&◌, ◌==◌, unwrap_or}
use Rattle.std.specs.Option.{option_map}
use Rattle.xb_words.specs.Cut.{cut}
use Rattle.bgp_attr.specs.declared.codes.TheConstants.{AS_PATH}
use Rattle.bgp_attr.specs.declared.flags.TheConstants.{WELL_KNOWN}
use Rattle.bgp_attr.specs.declared.rule.AttrFault.TheVariants.{Path}
use Rattle.bgp_attr.specs.Routes.{Attribute, Route, attribute_at, kept_flags}
use Rattle.bgp_attr.specs.Rules.{attr_fault, fault_if, row_fault}
use Rattle.bgp_attr.specs.Paths.{path, path_ok, contains}
use Rattle.spk_native.specs.Values.{HasNoFault, value_at, path_of}
use Rattle.spk_native.specs.Filters.{has_as}

-- if no value is lent, the route has none
pub none-lent : (o : Option (Bor (List ℕ))) (x : Option (List ℕ)) → option_map (λ v. v.now) o ≡ x → o ≡ None
    → x ≡ None
none-lent o x e none = sym e ∙ ap (λ (l : Option (Bor (List ℕ))). option_map (λ v. v.now) l) none

-- a route without AS_PATH has no segments
pub path_of-absent : (r : Route) → value_at r AS_PATH ≡ None → path_of r ≡ []
unfolding cut
path_of-absent r e = ap (λ (o : Option (List ℕ)). path 4 (unwrap_or o [])) e

pub has_as-absent : (asn : ℕ) (r : Route) → value_at r AS_PATH ≡ None → has_as asn r ≡ false
unfolding cut
has_as-absent asn r e =
    ap (λ (o : Option (List ℕ)). path_ok 4 (unwrap_or o []) && contains asn (path 4 (unwrap_or o []))) e

row_of_path : (b c : Bool) → row_fault b true (fault_if (not c) Path) ≡ None → c ≡ true
row_of_path b true e = refl
row_of_path true false e = absurd (cc e)
row_of_path false false e = absurd (cc e)

-- segments fill an AS_PATH without fault
pub path_ok-no_fault : (w flags : ℕ) (value : List ℕ) → attr_fault w AS_PATH flags value ≡ None
    → path_ok w value ≡ true
unfolding attr_fault
path_ok-no_fault w flags value e = row_of_path (kept_flags flags == WELL_KNOWN) (path_ok w value) e

-- so they do in a route without faults
pub path_ok-value_at : (r : Route) (v : List ℕ) → HasNoFault r → value_at r AS_PATH ≡ Some v → path_ok 4 v ≡ true
path_ok-value_at r v sound e =
    elim (attribute_at r AS_PATH) as (λ o. attribute_at r AS_PATH ≡ o
    → option_map (λ (a : Attribute). a.value) o ≡ Some v → path_ok 4 v ≡ true) [
      | None ↦ λ _ none. absurd (cc none)
      | Some a ↦ λ found some.
          let same : a.value ≡ v = cc some in
          ap (path_ok 4) (sym same) ∙ path_ok-no_fault 4 a.flags a.value (sound AS_PATH a found)
    ] refl e

-- A canonical section is read as the route that it was written from.
use Rattle.std.proofs.Common.{◌≡◌, refl, sym, ap, subst, ◌∙◌, ℕ, List, [], ◌∷◌, ◌++◌, map, fold, arith, append_assoc}
use Rattle.std.specs.Prelude.{bit_and}
use Rattle.std.proofs.lemmas.List.{append-nil}
use Rattle.std.specs.List.{AllByRecursion}
use Rattle.std.specs.List.Sorted.{IsStrictlySortedBy}
use Rattle.std.specs.Map.{keys_of}
use Rattle.std.specs.Ordering.{nat_cmp, ordering_reverse}
use Rattle.std.specs.declared.cmp.Ordering.TheVariants.{Less}
use Rattle.std.proofs.lemmas.Cmp.{nat_cmp_total}
use Rattle.xb_words.specs.Cut.{Pieces, cut}
use Rattle.xb_words.specs.Table.{with_value}
use Rattle.bgp_attr.specs.Attributes.{attr_flags, attr_code, attr_value}
use Rattle.bgp_attr.specs.declared.TheConstants.{MAX_CANONICAL}
use Rattle.bgp_attr.specs.declared.flags.TheConstants.{KEPT}
use Rattle.bgp_attr.specs.Routes.{Attribute, Route, route_of, canon, canonical, neutral, with_attribute, IsRoute}
use Rattle.xbgp_view.specs.Sections.{IsCanonical}
use Rattle.xbgp_view.proofs.CanonicalLemmas.{IsSpelled, IsSpelled-all, cut-canon}

-- every key is below a code
abbrev pub Below : ℕ → Route → Type 0
Below code r = AllByRecursion (λ k. nat_cmp k code ≡ Less) (keys_of r)

-- an attribute after all others is appended
pub add_last : (r : Route) (code : ℕ) (a : Attribute) → Below code r → with_value nat_cmp r code a ≡ r ++ (code, a) ∷ []
add_last [] code a below = refl
add_last (e ∷ r) code a below =
    let greater = nat_cmp_total.antisymm code e.0 ∙ ap ordering_reverse below.0 in
    rw greater (ap (λ (l : Route). e ∷ l) (add_last r code a below.1))

-- an entry below a code may follow entries below it
pub below_more : (r : Route) (code : ℕ) (e : ℕ × Attribute) → Below code r → nat_cmp e.0 code ≡ Less
    → Below code (r ++ e ∷ [])
below_more [] code e below less = (less, tt)
below_more (x ∷ r) code e below less = (below.0, below_more r code e below.1 less)

abbrev AllBelow : Route → Route → Type 0
AllBelow acc r = AllByRecursion (λ k. Below k acc) (keys_of r)

all_below_more : (acc r : Route) (e : ℕ × Attribute) → AllBelow acc r → AllByRecursion (λ k. nat_cmp e.0 k ≡ Less) (keys_of r) → AllBelow (acc ++ e ∷ []) r
all_below_more acc [] e below less = tt
all_below_more acc (x ∷ r) e below less = (below_more acc x.0 e below.0 less.0, all_below_more acc r e below.1 less.1)

-- an attribute as it is read enters a route
abbrev enter : Route → List ℕ → Route
enter r a = with_attribute r (attr_code a) (attr_flags a) (attr_value a)

entered : (acc : Route) (e : ℕ × Attribute) → IsSpelled e → Below e.0 acc → enter acc (canonical e) ≡ acc ++ e ∷ []
entered acc e is below =
    ap (λ c. with_value nat_cmp acc c (record { flags = (bit_and (attr_flags (canonical e)) KEPT); value = attr_value (canonical e) })) is.code
    ∙ ap (λ f. with_value nat_cmp acc e.0 (record { flags = f; value = attr_value (canonical e) })) is.flags
    ∙ ap (λ v. with_value nat_cmp acc e.0 (record { flags = e.1.flags; value = v })) is.value
    ∙ add_last acc e.0 e.1 below

entered_all : (acc r : Route) → AllByRecursion IsSpelled r → IsStrictlySortedBy nat_cmp (keys_of r) → AllBelow acc r
    → fold (λ r a. with_attribute r (attr_code a) (attr_flags a) (attr_value a)) acc (map canonical r) ≡ acc ++ r
unfolding IsStrictlySortedBy
entered_all acc [] all rising below = sym (append-nil acc)
entered_all acc (e ∷ r) all rising below =
    ap (λ x. fold (λ r a. with_attribute r (attr_code a) (attr_flags a) (attr_value a)) x (map canonical r)) (entered acc e all.0 below.0)
    ∙ entered_all (acc ++ e ∷ []) r all.1 rising.1 (all_below_more acc r e below.1 rising.0)
    ∙ append_assoc acc (e ∷ []) r

none_below : (r : Route) → AllBelow [] r
none_below [] = tt
none_below (e ∷ r) = (tt, none_below r)

-- a route is what its canonical section is read as
pub route_of-canon : (r : Route) → IsRoute r → route_of (canon r) ≡ r
route_of-canon r is =
    let all = IsSpelled-all r MAX_CANONICAL is.entries is.short (omega arith) in
    ap (λ (p : Pieces). neutral p.items) (cut-canon r all) ∙ entered_all [] r all is.rising (none_below r)

-- the canonical section of a route is canonical
pub IsCanonical-canon : (r : Route) → IsRoute r → IsCanonical (canon r)
IsCanonical-canon r is = record { route = subst IsRoute (sym (route_of-canon r is)) is; octets = ap canon (route_of-canon r is) }

-- the section of no attributes
pub route_of_nothing : route_of [] ≡ []
unfolding cut
route_of_nothing = refl

-- the empty section is canonical
pub empty_is_canonical : IsCanonical []
unfolding IsStrictlySortedBy
empty_is_canonical = IsCanonical-canon [] (record { rising = tt; entries = tt; short = omega arith })

-- the empty section
pub ruleset empty_section = (empty_is_canonical, route_of_nothing)

-- A section whose codes rise: its route is its attributes in order.
use Rattle.std.proofs.Common.{◌≡◌, sym, ap, subst, ◌∙◌, ℕ, ◌+◌, ◌<◌, ◌≤◌, List, [], ◌∷◌, ◌++◌, length, arith}
use Rattle.std.proofs.Common.{append_assoc}
use Rattle.std.proofs.Common.{append-nil}
use Rattle.std.specs.Prelude.{Result, Ok, Err}
use Rattle.std.specs.List.{AllByRecursion, concat}
use Rattle.std.proofs.lemmas.List.{length-append}
use Rattle.xb_words.specs.Cut.{cut, IsItem, walk, walk_from}
use Rattle.xb_words.specs.Octets.{AreOctets}
use Rattle.xb_words.proofs.CutLemmas.{IsItem-cut, concat-cut}
use Rattle.xb_words.proofs.ListLemmas.{AllByRecursion-left, AllByRecursion-right}
use Rattle.bgp_attr.specs.declared.attrs.Overrun.{Overrun}
use Rattle.bgp_attr.specs.Attributes.{attribute_size, attr_code, attr_flags, attr_value}
use Rattle.bgp_attr.specs.Routes.{Attribute, Route, IsRoute, canon, canonical, kept_flags, route_of}
use Rattle.bgp_attr.specs.Walks.{FoundAttr, found_attr, overrun, attributes_from}
use Rattle.bgp_attr.proofs.AttributesLemmas.{IsSize-attribute_size}
use Rattle.xbgp_view.specs.Indexes.{entries_of, walked_route}
use Rattle.xbgp_view.specs.Sections.{IsCanonical}
use Rattle.xbgp_view.proofs.LowerLemmas.{nat_cmp-less, lt-nat_cmp}
use Rattle.xbgp_view.proofs.ReadingLemmas.{Below, add_last, below_more}
use Rattle.xbgp_view.proofs.EditsLemmas.{IsCanonical-spelled}
use Rattle.xbgp_view.proofs.IndexesLemmas.{walked_route-all}
use Rattle.xbgp_view.proofs.LengthsLemmas.{canonical_short, IsLocal-attribute_size}

-- the codes of the entries rise, the first being at least a number
abbrev pub RiseFrom : ℕ → Route → Type 0
RiseFrom from [] = Unit {0}
RiseFrom from (e ∷ r) = (from ≤ e.0) × RiseFrom (e.0 + 1) r

below_later : (from code : ℕ) (r : Route) → from ≤ code → Below from r → Below code r
below_later from code [] l below = tt
below_later from code (e ∷ r) l below =
    (nat_cmp-less e.0 code (omega (arith, l, lt-nat_cmp e.0 from below.0)), below_later from code r l below.1)

-- steps whose codes rise from one that is above those of a route follow its entries
walked_route-rising : (r : Route) (from : ℕ) (steps : List (Result FoundAttr Overrun)) → Below from r
    → RiseFrom from (entries_of steps) → walked_route r steps ≡ r ++ entries_of steps
walked_route-rising r from [] below rise = sym (append-nil r)
walked_route-rising r from (Err o ∷ steps) below rise = sym (append-nil r)
walked_route-rising r from (Ok a ∷ steps) below rise =
    let e : Attribute = record { flags = kept_flags a.flags; value = a.value } in
    let mine = below_later from a.code r rise.0 below in
    let more = below_more r (a.code + 1) (a.code, e) (below_later from (a.code + 1) r (omega (arith, rise.0)) below)
    (nat_cmp-less a.code (a.code + 1) (omega arith)) in
    ap (λ t. walked_route t steps) (add_last r a.code e mine)
    ∙ walked_route-rising (r ++ (a.code, e) ∷ []) (a.code + 1) steps more rise.1
    ∙ append_assoc r ((a.code, e) ∷ []) (entries_of steps)

-- the route of a section whose codes rise
pub route_of-rising : (s : List ℕ) → RiseFrom 0 (entries_of (attributes_from 0 s))
    → route_of s ≡ entries_of (attributes_from 0 s)
route_of-rising s rise = sym (walked_route-all s) ∙ walked_route-rising [] 0 (attributes_from 0 s) tt rise

entries_short : (at : ℕ) (xs : List (List ℕ)) (rest : List ℕ) → AreOctets (concat xs)
    → AllByRecursion (IsItem attribute_size) xs
    → length (canon (entries_of (walk found_attr overrun at xs rest))) ≤ length (concat xs)
entries_short at [] [] octets items = omega arith
entries_short at [] (b ∷ rest) octets items = omega arith
entries_short at (x ∷ xs) rest octets items =
    let mine = AllByRecursion-left (λ b. b < 256) x (concat xs) octets in
    let later = AllByRecursion-right (λ b. b < 256) x (concat xs) octets in
    let steps = walk found_attr overrun (at + length x) xs rest in
    let e : ℕ × Attribute = (attr_code x, record { flags = kept_flags (attr_flags x); value = attr_value x }) in
    omega (
      arith,
      canonical_short x mine items.0,
      entries_short (at + length x) xs rest later items.1,
      length-append x (concat xs),
      length-append (canonical e) (canon (entries_of steps)),
    )

-- the attributes of a section in their canonical forms are no longer than the section
pub length-canon-entries_of : (s : List ℕ) → AreOctets s
    → length (canon (entries_of (attributes_from 0 s))) ≤ length s
unfolding walk_from
length-canon-entries_of s octets =
    let p = cut attribute_size s in
    let joined = concat-cut attribute_size s in
    let mine = AllByRecursion-left (λ b. b < 256) (concat p.items) p.rest (subst AreOctets (sym joined) octets) in
    let items = IsItem-cut attribute_size IsSize-attribute_size IsLocal-attribute_size s in
    omega (
      arith,
      entries_short 0 p.items p.rest mine items,
      ap length joined,
      length-append (concat p.items) p.rest,
    )

-- the canonical form of the next attribute fits after those before it where the section fits
pub canonical-fits : (s done : List ℕ) (a : FoundAttr) (old steps : List (Result FoundAttr Overrun)) → AreOctets s
    → old ≡ Ok a ∷ steps → done ++ canon (entries_of old) ≡ canon (entries_of (attributes_from 0 s))
    → length done + length (canonical (a.code, record { flags = kept_flags a.flags; value = a.value })) ≤ length s
canonical-fits s done a old steps octets item is =
    let x = canonical (a.code, record { flags = kept_flags a.flags; value = a.value }) in
    omega (
      arith,
      length-canon-entries_of s octets,
      ap length (sym is) ∙ length-append done (canon (entries_of old)),
      ap (λ t. length (canon (entries_of t))) item ∙ length-append x (canon (entries_of steps)),
    )

-- what was written of a section whose codes rise, when no attribute is left
pub IsCanonical-rising : (s done : List ℕ) (from : ℕ) (left : List (Result FoundAttr Overrun)) → IsRoute (route_of s)
    → entries_of left ≡ [] → (RiseFrom from (entries_of left) → RiseFrom 0 (entries_of (attributes_from 0 s)))
    → done ++ canon (entries_of left) ≡ canon (entries_of (attributes_from 0 s))
    → IsCanonical done × (route_of done ≡ route_of s)
IsCanonical-rising s done from left is none rising written =
    let rise = rising (subst (RiseFrom from) (sym none) tt) in
    IsCanonical-spelled done (route_of s) is
    (sym (append-nil done)
    ∙ ap (λ r. done ++ canon r) (sym none)
    ∙ written
    ∙ ap canon (sym (route_of-rising s rise)))

-- Lemmas on paths in two widths: by their units, and that they are paths.
use Rattle.std.proofs.Common.{◌≡◌, refl, sym, ap, ◌∙◌, ℕ, ◌-◌, ◌<◌, ◌≤◌, true, false, List, [], ◌∷◌, ◌++◌, length, map}
use Rattle.std.proofs.Common.{flat_map}
use Rattle.std.proofs.lemmas.Bool.{lt-ltb, le-ltb, ltb-true, ltb-false}
use Rattle.std.proofs.lemmas.Grind.{flat_map-append}
use Rattle.std.proofs.lemmas.List.{append-nil, length-map}
use Rattle.std.proofs.lemmas.List.Folds.{flat_map-map}
use Rattle.std.specs.Prelude.{nat_lt, if◌then◌else◌}
use Rattle.xb_words.specs.Cut.{cut}
use Rattle.xb_words.specs.Octets.{AreOctets}
use Rattle.bgp_attr.specs.declared.segments.TheConstants.{AS_SET, AS_SEQUENCE}
use Rattle.bgp_attr.specs.Paths.{Segment, number_octets, path, path_ok, path_octets, segment_octets, hops}
use Rattle.bgp_path.specs.Widths.{first_units, narrow_number, narrow_segment, wide_path, narrow_path, merge}
use Rattle.bgp_path.specs.Units.{other_octets, other_path, units_octets}
use Rattle.bgp_path.proofs.PrependLemmas.{path_octets-path}
use Rattle.bgp_path.proofs.UnitsLemmas.{first_units-all, hops_le_length, path_ok-units}

-- all of a path in two octets
other_path-narrow : (segments : List Segment) → other_path true segments ≡ path_octets 2 (map narrow_segment segments)
other_path-narrow [] = refl
other_path-narrow (s ∷ segments) =
    ap (λ n. ((if s.is_set then AS_SET else AS_SEQUENCE) ∷ n ∷ flat_map (other_octets true) s.numbers) ++ other_path true segments) (sym (length-map s.numbers narrow_number))
    ∙ ap (λ t. ((if s.is_set then AS_SET else AS_SEQUENCE) ∷ length (map narrow_number s.numbers) ∷ t) ++ other_path true segments) (sym (flat_map-map (number_octets 2) narrow_number s.numbers))
    ∙ ap (λ t. segment_octets 2 (narrow_segment s) ++ t) (other_path-narrow segments)

-- all units of a path, and nothing after them
pub units_octets-wide : (s : List ℕ) → path_ok 2 s ≡ true → units_octets false (length s) s ++ [] ≡ wide_path s
unfolding wide_path
units_octets-wide s ok =
    append-nil (units_octets false (length s) s) ∙ ap (path_octets 4) (first_units-all false (length s) s ok (hops_le_length false s ok))

pub units_octets-narrow : (s : List ℕ) → path_ok 4 s ≡ true → units_octets true (length s) s ++ [] ≡ narrow_path s
unfolding narrow_path
units_octets-narrow s ok =
    append-nil (units_octets true (length s) s)
    ∙ ap (other_path true) (first_units-all true (length s) s ok (hops_le_length true s ok))
    ∙ other_path-narrow (path 4 s)

-- a path of two octets with fewer hops than the other
pub merge-fewer : (p q : List ℕ) → hops (path 2 p) < hops (path 4 q) → wide_path p ≡ merge p q
unfolding wide_path merge
merge-fewer p q h = ap (λ b. path_octets 4 (if b then path 2 p else first_units (hops (path 2 p) - hops (path 4 q)) (path 2 p) ++ path 4 q)) (sym (lt-ltb (hops (path 2 p)) (hops (path 4 q)) h))

-- and one with as many hops or more
pub merge-more : (p q : List ℕ) → AreOctets q → path_ok 4 q ≡ true → hops (path 4 q) ≤ hops (path 2 p)
    → units_octets false (hops (path 2 p) - hops (path 4 q)) p ++ q ≡ merge p q
unfolding merge
merge-more p q o ok h =
    let kept = first_units (hops (path 2 p) - hops (path 4 q)) (path 2 p) in
    ap (λ t. path_octets 4 kept ++ t) (sym (path_octets-path true q o ok))
    ∙ sym (flat_map-append (segment_octets 4) kept (path 4 q))
    ∙ ap (λ b. path_octets 4 (if b then path 2 p else kept ++ path 4 q)) (sym (le-ltb (hops (path 2 p)) (hops (path 4 q)) h))

path_ok-nil : (w : ℕ) → path_ok w [] ≡ true
unfolding cut
path_ok-nil w = refl

-- what is written is a path
pub path_ok-wide_path : (s : List ℕ) → path_ok 2 s ≡ true → path_ok 4 (wide_path s) ≡ true
path_ok-wide_path s ok = ap (path_ok 4) (sym (units_octets-wide s ok)) ∙ path_ok-units false (length s) s [] ok ∙ path_ok-nil 4

pub path_ok-narrow_path : (s : List ℕ) → path_ok 4 s ≡ true → path_ok 2 (narrow_path s) ≡ true
path_ok-narrow_path s ok = ap (path_ok 2) (sym (units_octets-narrow s ok)) ∙ path_ok-units true (length s) s [] ok ∙ path_ok-nil 2

pub path_ok-merge : (p q : List ℕ) → AreOctets q → path_ok 2 p ≡ true → path_ok 4 q ≡ true → path_ok 4 (merge p q) ≡ true
path_ok-merge p q o ok ok4 =
    let own = hops (path 2 p) in
    let other = hops (path 4 q) in
    elim (nat_lt own other) as (λ b. nat_lt own other ≡ b → path_ok 4 (merge p q) ≡ true) [
      | true ↦ λ e. ap (path_ok 4) (sym (merge-fewer p q (ltb-true own other e))) ∙ path_ok-wide_path p ok
      | false ↦ λ e. ap (path_ok 4) (sym (merge-more p q o ok4 (ltb-false own other e))) ∙ path_ok-units false (own - other) p q ok ∙ ok4
    ] refl

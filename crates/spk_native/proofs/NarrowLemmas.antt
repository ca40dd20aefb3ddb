-- Paths in two octets a number, and numbers that two octets cannot hold.
use Rattle.std.proofs.Common.{◌≡◌, refl, sym, ap, subst, ◌∙◌, ℕ, ◌-◌, ◌*◌, ◌<◌, ◌≤◌, Bool, true, false, List, [], ◌∷◌}
use Rattle.std.proofs.Common.{length, map, take, drop, Option, Some, None, arith, unwrap_or}
use Rattle.std.specs.Prelude.{flat_map, not, ◌||◌}
use Rattle.std.specs.List.{list_any, AllByRecursion}
use Rattle.std.proofs.lemmas.List.{length-append, take_at}
use Rattle.xb_words.specs.Octets.{four_at}
use Rattle.xb_words.specs.Cut.{cut}
use Rattle.bgp_attr.specs.Paths.{Segment, segment_size, segment_of, segment_octets, number_octets, numbers_of, path}
use Rattle.bgp_attr.specs.Paths.{path_ok, path_octets}
use Rattle.bgp_path.specs.Fronts.{WritesFront}
use Rattle.bgp_path.specs.Parts.{Part, part_of, part_segment, path_parts}
use Rattle.bgp_path.specs.Splits.{BeginsWith}
use Rattle.bgp_path.specs.Widths.{is_narrow, narrow_number, narrow_segment, narrow_path}
use Rattle.bgp_path.proofs.NumbersLemmas.{length-numbers_of, numbers_of-cons}
use Rattle.bgp_path.proofs.PrependLemmas.{length-number_octets}
use Rattle.bgp_path.proofs.SplitsLemmas.{HasNoSegment-empty, by_segments, length-split}
use Rattle.spk_native.specs.Receipt.{is_wide_path}

-- two octets are written for each number
pub length-narrow_numbers : (ns : List ℕ) → length (flat_map (number_octets 2) (map narrow_number ns)) ≡ 2 * length ns
length-narrow_numbers [] = refl
length-narrow_numbers (n ∷ ns) = omega (
  arith,
  length-append (number_octets 2 (narrow_number n)) (flat_map (number_octets 2) (map narrow_number ns)),
  length-number_octets false (narrow_number n),
  length-narrow_numbers ns,
)

abbrev narrow_octets : List Segment → List ℕ
narrow_octets segments = path_octets 2 (map narrow_segment segments)

narrow_step : (s : List ℕ) (p : Part) (rest : List ℕ) → BeginsWith 4 s p rest
    → length (narrow_octets (path 4 rest)) ≤ length rest → length (narrow_octets (path 4 s)) ≤ length s
narrow_step s p rest split ih =
    let first = segment_octets 2 (narrow_segment (part_segment 4 p)) in
    omega (
      arith,
      ap (λ t. length (narrow_octets t)) split.segments,
      length-append first (narrow_octets (path 4 rest)),
      length-narrow_numbers (numbers_of 4 p.count p.octets),
      length-numbers_of 4 p.count p.octets,
      length-split 4 s p rest split,
      ih,
    )

-- a path is no longer in two octets a number
pub length-narrow_path : (s : List ℕ) → path_ok 4 s ≡ true → length (narrow_path s) ≤ length s
unfolding narrow_path
length-narrow_path s ok =
    by_segments 4 (λ t. length (narrow_octets (path 4 t)) ≤ length t)
    (omega (arith, ap (λ t. length (narrow_octets t)) (HasNoSegment-empty 4 [] refl).segments)) narrow_step s ok

-- what was written to the front of a slice that has room
pub take-written : (written : Option ℕ) (old new text : List ℕ) (n most : ℕ) → WritesFront written old new text
    → length old ≡ most → length text ≤ most → n ≡ unwrap_or written 0 → take n new ≡ text
take-written None old new text n most w size fits e = absurd (cc (w.fits.1 (omega (arith, size, fits))))
take-written (Some m) old new text n most w size fits e =
    ap (take n) w.after.1 ∙ take_at text (drop m old) n (sym w.after.0 ∙ sym e)

abbrev is_wide : ℕ → Bool
is_wide n = not (is_narrow n)

-- a number that is not wide is not the one that is
pub list_any-wide-rest : (n : ℕ) (s t : List ℕ) → 0 < n → is_narrow (four_at s 0) ≡ true → t ≡ drop 4 s
    → list_any (λ x. not (is_narrow x)) (numbers_of 4 (n - 1) t) ≡ list_any (λ x. not (is_narrow x)) (numbers_of 4 n s)
list_any-wide-rest n s t some small rest =
    ap (λ r. list_any is_wide (numbers_of 4 (n - 1) r)) rest
    ∙ ap (λ b. b || list_any is_wide (numbers_of 4 (n - 1) (drop 4 s))) (sym (ap not small))
    ∙ ap (list_any is_wide) (sym (numbers_of-cons 4 n s some))

pub list_any-wide-first : (n : ℕ) (s : List ℕ) → 0 < n → is_narrow (four_at s 0) ≡ false
    → list_any (λ x. not (is_narrow x)) (numbers_of 4 n s) ≡ true
list_any-wide-first n s some large =
    ap (list_any is_wide) (numbers_of-cons 4 n s some)
    ∙ ap (λ b. b || list_any is_wide (numbers_of 4 (n - 1) (drop 4 s))) (ap not large)

-- the octets of a segment are those of its numbers
abbrev pub HasOctets : Part → Type 0
HasOctets p = length p.octets ≡ 4 * p.count

pub HasOctets-parts : (s : List ℕ) → path_ok 4 s ≡ true → AllByRecursion HasOctets (path_parts 4 s)
HasOctets-parts s ok =
    by_segments 4 (λ t. AllByRecursion HasOctets (path_parts 4 t))
    (subst (AllByRecursion HasOctets) (sym (HasNoSegment-empty 4 [] refl).pieces) tt)
    (λ t p rest split more. subst (AllByRecursion HasOctets) (sym split.pieces) (split.octets, more)) s ok

segments_of_parts : (items : List (List ℕ)) → map (part_segment 4) (map part_of items) ≡ map (segment_of 4) items
segments_of_parts [] = refl
segments_of_parts (x ∷ items) = ap (λ (l : List Segment). segment_of 4 x ∷ l) (segments_of_parts items)

-- whether a segment that a walk returns has a wide number
abbrev pub has_wide : Part → Bool
has_wide p = list_any (λ n. not (is_narrow n)) (numbers_of 4 p.count p.octets)

any_has_wide : (parts : List Part)
    → list_any has_wide parts
    ≡ list_any (λ (s : Segment). list_any (λ n. not (is_narrow n)) s.numbers) (map (part_segment 4) parts)
any_has_wide [] = refl
any_has_wide (p ∷ parts) = ap (λ b. has_wide p || b) (any_has_wide parts)

pub list_any-has_wide : (s : List ℕ) → list_any has_wide (path_parts 4 s) ≡ is_wide_path s
unfolding path_parts
list_any-has_wide s =
    any_has_wide (path_parts 4 s)
    ∙ ap (list_any (λ (t : Segment). list_any (λ n. not (is_narrow n)) t.numbers))
    (segments_of_parts (cut (segment_size 4) s).items)

-- Lemmas on the first units of a path, also in the other width of AS numbers.
use Rattle.std.proofs.Common.{◌≡◌, refl, sym, ap, ◌∙◌, ℕ, zero, suc, ◌+◌, ◌-◌, ◌*◌, ◌<◌, ◌≤◌, Bool, true, false, not}
use Rattle.std.proofs.Common.{List, [], ◌∷◌, ◌++◌, length, take, drop, flat_map, append_assoc, arith}
use Rattle.std.proofs.Math.Dec.{eqb-suc-zero}
use Rattle.std.proofs.lemmas.List.{length-append, take_all, take_min, get_or-take, drop-take}
use Rattle.std.specs.Prelude.{min, slice_index, if◌then◌else◌}
use Rattle.std.specs.Int.{w16, w32, from_be_bytes}
use Rattle.bgp_attr.specs.declared.segments.TheConstants.{AS_SET, AS_SEQUENCE}
use Rattle.bgp_attr.specs.Paths.{Segment, width_of, first_number, numbers_of, path, path_ok, hops}
use Rattle.bgp_path.specs.Parts.{Part, part_segment}
use Rattle.bgp_path.specs.Splits.{BeginsWith}
use Rattle.bgp_path.specs.Widths.{first_units}
use Rattle.bgp_path.specs.Units.{IsCutTo, other_number, other_octets, other_segment, other_path, units_octets}
use Rattle.bgp_path.proofs.NumbersLemmas.{length-numbers_of, numbers_of-cons}
use Rattle.bgp_path.proofs.PrependLemmas.{length-number_octets, path_ok-segment}
use Rattle.bgp_path.proofs.SplitsLemmas.{HasNoSegment-empty, by_segments, counted_le, hops-split, length-split}

-- the number at the front is in the first octets
first_number-take : (wide : Bool) (n : ℕ) (s : List ℕ) → width_of wide ≤ n → first_number (width_of wide) (take n s) ≡ first_number (width_of wide) s
first_number-take false n s h =
    ap (λ b. from_be_bytes w16 (b ∷ slice_index (take n s) 1 ∷ [])) (get_or-take n s 0 0 (omega (arith, h)))
    ∙ ap (λ b. from_be_bytes w16 (slice_index s 0 ∷ b ∷ [])) (get_or-take n s 1 0 (omega (arith, h)))
first_number-take true n s h =
    ap (λ b. from_be_bytes w32 (b ∷ slice_index (take n s) 1 ∷ slice_index (take n s) 2 ∷ slice_index (take n s) 3 ∷ [])) (get_or-take n s 0 0 (omega (arith, h)))
    ∙ ap (λ b. from_be_bytes w32 (slice_index s 0 ∷ b ∷ slice_index (take n s) 2 ∷ slice_index (take n s) 3 ∷ [])) (get_or-take n s 1 0 (omega (arith, h)))
    ∙ ap (λ b. from_be_bytes w32 (slice_index s 0 ∷ slice_index s 1 ∷ b ∷ slice_index (take n s) 3 ∷ [])) (get_or-take n s 2 0 (omega (arith, h)))
    ∙ ap (λ b. from_be_bytes w32 (slice_index s 0 ∷ slice_index s 1 ∷ slice_index s 2 ∷ b ∷ [])) (get_or-take n s 3 0 (omega (arith, h)))

-- fewer AS numbers are the first of them
numbers_of-take : (wide : Bool) (m n : ℕ) (s : List ℕ) → m ≤ n → numbers_of (width_of wide) m (take (width_of wide * m) s) ≡ take m (numbers_of (width_of wide) n s)
numbers_of-take wide zero n s h = refl
numbers_of-take wide (suc m) zero s h = absurd (omega (arith, h))
numbers_of-take wide (suc m) (suc n) s h =
    let w = width_of wide in
    let more : w * suc m ≡ w + w * m = omega arith in
    ap (λ k. numbers_of w (suc m) (take k s)) more
    ∙ ap (λ k. k ∷ numbers_of w m (drop w (take (w + w * m) s))) (first_number-take wide (w + w * m) s (omega arith))
    ∙ ap (λ t. first_number w s ∷ numbers_of w m t) (drop-take w (w * m) s)
    ∙ ap (λ ns. first_number w s ∷ ns) (numbers_of-take wide m n (drop w s) (omega (arith, h)))

-- no unit
pub first_units-zero : (segments : List Segment) → first_units 0 segments ≡ []
first_units-zero [] = refl
first_units-zero (s ∷ segments) = refl

-- one unit or more, by whether the first segment is a set
abbrev some_units : Bool → ℕ → Segment → List Segment → List Segment
some_units set n s segments =
    if set then s ∷ first_units (n - 1) segments
    else record { is_set = false; numbers = take n s.numbers } ∷ first_units (n - length s.numbers) segments

first_units-cons : (n : ℕ) (s : Segment) (segments : List Segment) → 0 < n → first_units n (s ∷ segments) ≡ some_units s.is_set n s segments
first_units-cons zero s segments h = absurd (omega (arith, h))
first_units-cons (suc n) s segments h = ap (λ b. if b then [] else some_units s.is_set (suc n) s segments) (eqb-suc-zero n)

-- the AS numbers of a segment that is cut
numbers-cut : (wide : Bool) (n : ℕ) (p first : Part) → IsCutTo (width_of wide) n p first → first.count ≤ p.count
    → numbers_of (width_of wide) first.count first.octets ≡ take first.count (numbers_of (width_of wide) p.count p.octets)
numbers-cut wide n p first cut le =
    ap (numbers_of (width_of wide) first.count) cut.octets ∙ numbers_of-take wide first.count p.count p.octets le

units-cut : (wide : Bool) (n : ℕ) (p first : Part) (segments : List Segment) (set : Bool) → 0 < n → p.set ≡ set → IsCutTo (width_of wide) n p first
    → some_units set n (part_segment (width_of wide) p) segments ≡ part_segment (width_of wide) first ∷ first_units (n - (if first.set then 1 else first.count)) segments
units-cut wide n p first segments true some e cut =
    let w = width_of wide in
    let ns = numbers_of w p.count p.octets in
    let same : first.count ≡ p.count = cut.count ∙ ap (λ b. if b then p.count else min n p.count) e in
    let kept : ns ≡ numbers_of w first.count first.octets =
    sym (numbers-cut wide n p first cut (omega (arith, same)) ∙ take_all first.count ns (omega (arith, same, length-numbers_of w p.count p.octets))) in
    let one : 1 ≡ (if first.set then 1 else first.count) = ap (λ b. if b then 1 else first.count) (sym (cut.set ∙ e)) in
    ap (λ b. record { is_set = b; numbers = ns } ∷ first_units (n - 1) segments) (sym cut.set)
    ∙ ap (λ l. record { is_set = first.set; numbers = l } ∷ first_units (n - 1) segments) kept
    ∙ ap (λ k. part_segment w first ∷ first_units (n - k) segments) one
units-cut wide n p first segments false some e cut =
    let w = width_of wide in
    let ns = numbers_of w p.count p.octets in
    let len = length-numbers_of w p.count p.octets in
    let same : first.count ≡ min n p.count = cut.count ∙ ap (λ b. if b then p.count else min n p.count) e in
    let kept : take n ns ≡ numbers_of w first.count first.octets =
    sym (numbers-cut wide n p first cut (omega (arith, same)) ∙ ap (λ m. take m ns) (same ∙ ap (min n) (sym len)) ∙ take_min n ns) in
    let own : first.count ≡ (if first.set then 1 else first.count) = ap (λ b. if b then 1 else first.count) (sym (cut.set ∙ e)) in
    let left : n - length ns ≡ n - (if first.set then 1 else first.count) = omega (arith, same, len, own) in
    ap (λ b. record { is_set = b; numbers = take n ns } ∷ first_units (n - length ns) segments) (sym (cut.set ∙ e))
    ∙ ap (λ l. record { is_set = first.set; numbers = l } ∷ first_units (n - length ns) segments) kept
    ∙ ap (λ m. part_segment w first ∷ first_units m segments) left

-- the first units of a path, by its first segment and the path after it
pub first_units-split : (wide : Bool) (n : ℕ) (s : List ℕ) (p first : Part) (rest : List ℕ) → 0 < n → BeginsWith (width_of wide) s p rest → IsCutTo (width_of wide) n p first
    → first_units n (path (width_of wide) s)
    ≡ part_segment (width_of wide) first ∷ first_units (n - (if first.set then 1 else first.count)) (path (width_of wide) rest)
first_units-split wide n s p first rest some split cut =
    let w = width_of wide in
    ap (first_units n) split.segments
    ∙ first_units-cons n (part_segment w p) (path w rest) some
    ∙ units-cut wide n p first (path w rest) p.set some refl cut

-- AS numbers are not more than their octets
count_le : (wide : Bool) (n : ℕ) → n ≤ width_of wide * n
count_le true n = omega arith
count_le false n = omega arith

-- a path has at most as many hops as octets
pub hops_le_length : (wide : Bool) (s : List ℕ) → path_ok (width_of wide) s ≡ true → hops (path (width_of wide) s) ≤ length s
hops_le_length wide s ok =
    let w = width_of wide in
    by_segments w (λ t. hops (path w t) ≤ length t)
    (let none = ap hops ((HasNoSegment-empty w [] refl).segments) in omega (arith, none))
    (λ t p rest split later.
    let counts = hops-split w t p rest split in
    let own = count_le wide p.count in
    omega (arith, later, counts, counted_le p.set p.count, length-split w t p rest split, own))
    s ok

-- a segment of at most n units is not cut
count-whole : (set : Bool) (n count : ℕ) → (if set then 1 else count) ≤ n → count ≡ (if set then count else min n count)
count-whole true n count h = refl
count-whole false n count h = omega (arith, h)

one_le : (set : Bool) (count : ℕ) → 0 < count → 1 ≤ (if set then 1 else count)
one_le true count h = omega arith
one_le false count h = h

-- a path of at most n hops has no more than n units
pub first_units-all : (wide : Bool) (n : ℕ) (s : List ℕ) → path_ok (width_of wide) s ≡ true → hops (path (width_of wide) s) ≤ n
    → first_units n (path (width_of wide) s) ≡ path (width_of wide) s
first_units-all wide n s ok h =
    let w = width_of wide in
    by_segments w (λ t. (m : ℕ) → hops (path w t) ≤ m → first_units m (path w t) ≡ path w t)
    (λ m le. let none = (HasNoSegment-empty w [] refl).segments in ap (first_units m) none ∙ sym none)
    (λ t p rest split later m le.
    let counts = hops-split w t p rest split in
    let own = if p.set then 1 else p.count in
    let some : 0 < m = omega (arith, le, counts, one_le p.set p.count split.full) in
    let cut : IsCutTo w m p p = record {
      set = refl;
      count = count-whole p.set m p.count (omega (arith, le, counts));
      octets = sym (take_all (w * p.count) p.octets (omega (arith, split.octets)));
    } in
    first_units-split wide m t p p rest some split cut
    ∙ ap (λ (segments : List Segment). part_segment w p ∷ segments) (later (m - own) (omega (arith, le, counts)))
    ∙ sym split.segments)
    s ok n h

-- two octets or four are written for each AS number
length-other_octets : (wide : Bool) (ns : List ℕ) → length (flat_map (other_octets wide) ns) ≡ width_of (not wide) * length ns
length-other_octets wide [] = omega arith
length-other_octets wide (n ∷ ns) =
    length-append (other_octets wide n) (flat_map (other_octets wide) ns)
    ∙ ap (λ k. k + length (flat_map (other_octets wide) ns)) (length-number_octets (not wide) (other_number wide n))
    ∙ ap (λ k. width_of (not wide) + k) (length-other_octets wide ns)
    ∙ omega arith

pub length-numbers_in_other : (wide : Bool) (n : ℕ) (s : List ℕ) → length (flat_map (other_octets wide) (numbers_of (width_of wide) n s)) ≡ width_of (not wide) * n
length-numbers_in_other wide n s =
    length-other_octets wide (numbers_of (width_of wide) n s) ∙ ap (λ k. width_of (not wide) * k) (length-numbers_of (width_of wide) n s)

-- the length of a segment in the other width
pub length-other_segment : (wide : Bool) (p : Part) → length (other_segment wide (part_segment (width_of wide) p)) ≡ 2 + width_of (not wide) * p.count
length-other_segment wide p = ap (λ n. suc (suc n)) (length-numbers_in_other wide p.count p.octets) ∙ omega arith

-- the octets of segments in the other width, by the first, `old` being the width that its walk has
pub other_path-split : (wide old : Bool) (p : Part) (coming more : List Segment) → old ≡ wide → coming ≡ part_segment (width_of old) p ∷ more
    → other_path wide coming ≡ other_segment wide (part_segment (width_of wide) p) ++ other_path wide more
other_path-split wide old p coming more same e =
    ap (other_path wide) e ∙ ap (λ b. other_segment wide (part_segment (width_of b) p) ++ other_path wide more) same

-- AS numbers in the other width, by the first
pub other_octets-split : (wide : Bool) (n : ℕ) (s rest : List ℕ) → 0 < n → rest ≡ drop (width_of wide) s
    → flat_map (other_octets wide) (numbers_of (width_of wide) n s)
    ≡ other_octets wide (first_number (width_of wide) s) ++ flat_map (other_octets wide) (numbers_of (width_of wide) (n - 1) rest)
other_octets-split wide n s rest some e =
    let w = width_of wide in
    ap (flat_map (other_octets wide)) (numbers_of-cons w n s some)
    ∙ ap (λ t. other_octets wide (first_number w s) ++ flat_map (other_octets wide) (numbers_of w (n - 1) t)) (sym e)

-- the octets of a segment in the other width, by its count
pub other_segment-part : (wide : Bool) (p : Part)
    → other_segment wide (part_segment (width_of wide) p) ≡ (if p.set then AS_SET else AS_SEQUENCE) ∷ p.count ∷ flat_map (other_octets wide) (numbers_of (width_of wide) p.count p.octets)
other_segment-part wide p =
    let ns = numbers_of (width_of wide) p.count p.octets in
    ap (λ n. (if p.set then AS_SET else AS_SEQUENCE) ∷ n ∷ flat_map (other_octets wide) ns) (length-numbers_of (width_of wide) p.count p.octets)

-- the segment that is left of one
abbrev cut_part : ℕ → ℕ → Part → Part
cut_part w n p = record {
  set = p.set;
  count = if p.set then p.count else min n p.count;
  octets = take (w * (if p.set then p.count else min n p.count)) p.octets;
}

cut_le : (set : Bool) (n count : ℕ) → (if set then count else min n count) ≤ count
cut_le true n count = omega arith
cut_le false n count = omega arith

other_le : (wide : Bool) (m n : ℕ) → m ≤ n → width_of (not wide) * m ≤ 2 * (width_of wide * n)
other_le true m n h = omega (arith, h)
other_le false m n h = omega (arith, h)

units_more : (wide : Bool) (m : ℕ) (t : List ℕ) (p : Part) (rest : List ℕ) → BeginsWith (width_of wide) t p rest
    → ((k : ℕ) → length (units_octets wide k rest) ≤ 2 * length rest) → length (units_octets wide m t) ≤ 2 * length t
units_more wide zero t p rest split later =
    let none = ap (λ segments. length (other_path wide segments)) (first_units-zero (path (width_of wide) t)) in omega (arith, none)
units_more wide (suc m) t p rest split later =
    let w = width_of wide in
    let first = cut_part w (suc m) p in
    let cut : IsCutTo w (suc m) p first = record { set = refl; count = refl; octets = refl } in
    let left = suc m - (if first.set then 1 else first.count) in
    let segment = other_segment wide (part_segment w first) in
    let whole = ap (λ segments. length (other_path wide segments)) (first_units-split wide (suc m) t p first rest (omega arith) split cut) in
    let parts = length-append segment (units_octets wide left rest) in
    let own = length-other_segment wide first in
    let twice = other_le wide first.count p.count (cut_le p.set (suc m) p.count) in
    omega (arith, whole, parts, own, twice, later left, length-split w t p rest split)

-- the first units of a path have at most twice its octets
pub length-units_octets : (wide : Bool) (n : ℕ) (s : List ℕ) → path_ok (width_of wide) s ≡ true → length (units_octets wide n s) ≤ 2 * length s
length-units_octets wide n s ok =
    let w = width_of wide in
    by_segments w (λ t. (m : ℕ) → length (units_octets wide m t) ≤ 2 * length t)
    (λ m. let none = ap (λ segments. length (other_path wide (first_units m segments))) ((HasNoSegment-empty w [] refl).segments) in omega (arith, none))
    (λ t p rest split later m. units_more wide m t p rest split later)
    s ok n

cut_positive : (set : Bool) (n count : ℕ) → 0 < n → 0 < count → 0 < (if set then count else min n count)
cut_positive true n count h some = some
cut_positive false n count h some = omega (arith, h, some)

path_ok-more : (wide : Bool) (m : ℕ) (t : List ℕ) (p : Part) (rest after : List ℕ) → BeginsWith (width_of wide) t p rest
    → ((k : ℕ) → path_ok (width_of (not wide)) (units_octets wide k rest ++ after) ≡ path_ok (width_of (not wide)) after)
    → path_ok (width_of (not wide)) (units_octets wide m t ++ after) ≡ path_ok (width_of (not wide)) after
path_ok-more wide zero t p rest after split later =
    ap (λ segments. path_ok (width_of (not wide)) (other_path wide segments ++ after)) (first_units-zero (path (width_of wide) t))
path_ok-more wide (suc m) t p rest after split later =
    let w = width_of wide in
    let other = width_of (not wide) in
    let first = cut_part w (suc m) p in
    let cut : IsCutTo w (suc m) p first = record { set = refl; count = refl; octets = refl } in
    let left = suc m - (if first.set then 1 else first.count) in
    let numbers = numbers_of w first.count first.octets in
    let octets = flat_map (other_octets wide) numbers in
    let kind = if first.set then AS_SET else AS_SEQUENCE in
    ap (λ segments. path_ok other (other_path wide segments ++ after)) (first_units-split wide (suc m) t p first rest (omega arith) split cut)
    ∙ ap (λ s. path_ok other ((s ++ units_octets wide left rest) ++ after)) (other_segment-part wide first)
    ∙ ap (λ s. path_ok other (kind ∷ first.count ∷ s)) (append_assoc octets (units_octets wide left rest) after)
    ∙ path_ok-segment other first.set first.count octets (units_octets wide left rest ++ after) (cut_positive p.set (suc m) p.count (omega arith) split.full)
    (length-numbers_in_other wide first.count first.octets)
    ∙ later left

-- the first units of a path are a path
pub path_ok-units : (wide : Bool) (n : ℕ) (s after : List ℕ) → path_ok (width_of wide) s ≡ true
    → path_ok (width_of (not wide)) (units_octets wide n s ++ after) ≡ path_ok (width_of (not wide)) after
path_ok-units wide n s after ok =
    let w = width_of wide in
    let other = width_of (not wide) in
    by_segments w (λ t. (m : ℕ) → path_ok other (units_octets wide m t ++ after) ≡ path_ok other after)
    (λ m. ap (λ segments. path_ok other (other_path wide (first_units m segments) ++ after)) ((HasNoSegment-empty w [] refl).segments))
    (λ t p rest split later m. path_ok-more wide m t p rest after split later)
    s ok n

-- Lemmas on the octets of a path, also with an AS number prepended.
use Rattle.std.proofs.Common.{◌≡◌, refl, sym, ap, ◌∙◌, subst, ℕ, suc, ◌+◌, ◌*◌, ◌<◌, ◌≤◌, Bool, true, false, Some, None}
use Rattle.std.proofs.Common.{List, [], ◌∷◌, ◌++◌, length, drop, flat_map, append_assoc, arith}
use Rattle.std.proofs.lemmas.List.{length-append, append-nil, drop_at}
use Rattle.std.proofs.lemmas.Bool.{le-leb}
use Rattle.std.specs.Prelude.{◌||◌, ◌&&◌, ◌==◌, nat_le, if◌then◌else◌}
use Rattle.xb_words.specs.Octets.{AreOctets}
use Rattle.xb_words.proofs.ListLemmas.{AllByRecursion-left, AllByRecursion-right}
use Rattle.xb_words.specs.Cut.{cut}
use Rattle.bgp_attr.specs.declared.segments.TheConstants.{AS_SET, AS_SEQUENCE, MAX_NUMBERS}
use Rattle.bgp_attr.specs.Paths.{Segment, segment_size, path, path_ok, path_octets, segment_octets, number_octets}
use Rattle.bgp_attr.specs.Paths.{numbers_of, prepend}
use Rattle.bgp_attr.proofs.PathsLemmas.{segments_rest-some}
use Rattle.bgp_path.specs.Parts.{Part, part_octets, path_parts, part_segment, segments_join}
use Rattle.bgp_attr.specs.Paths.{width_of}
use Rattle.bgp_path.specs.Splits.{HasNoSegment, BeginsWith}
use Rattle.bgp_path.proofs.NumbersLemmas.{length-numbers_of, flat_map-numbers_of}
use Rattle.bgp_path.proofs.SplitsLemmas.{HasNoSegment-empty, by_segments}

pub segments_join_holds : segments_join
segments_join_holds w value ok =
    by_segments w (λ s. flat_map part_octets (path_parts w s) ≡ s) (ap (flat_map part_octets) ((HasNoSegment-empty w [] refl).pieces))
    (λ s p rest split later. ap (flat_map part_octets) split.pieces ∙ ap (λ t. part_octets p ++ t) later ∙ split.joined)
    value ok

-- the octets of a segment that was read from octets
pub segment_octets-part_segment : (wide : Bool) (p : Part) → length p.octets ≡ width_of wide * p.count → AreOctets p.octets → segment_octets (width_of wide) (part_segment (width_of wide) p) ≡ part_octets p
segment_octets-part_segment wide p e o =
    let w = width_of wide in
    ap (λ n. (if p.set then AS_SET else AS_SEQUENCE) ∷ n ∷ flat_map (number_octets w) (numbers_of w p.count p.octets)) (length-numbers_of w p.count p.octets)
    ∙ ap (λ t. (if p.set then AS_SET else AS_SEQUENCE) ∷ p.count ∷ t) (flat_map-numbers_of wide p.count p.octets e o)

-- the octets of a path that was read from octets
pub path_octets-path : (wide : Bool) (s : List ℕ) → AreOctets s → path_ok (width_of wide) s ≡ true → path_octets (width_of wide) (path (width_of wide) s) ≡ s
path_octets-path wide s o ok =
    let w = width_of wide in
    by_segments w (λ t. AreOctets t → path_octets w (path w t) ≡ t) (λ none. ap (path_octets w) ((HasNoSegment-empty w [] refl).segments))
    (λ t p rest split later octets.
    let P : List ℕ → Type 0 = λ l. AreOctets l in
    let joined : AreOctets (part_octets p ++ rest) = subst P (sym split.joined) octets in
    let first = AllByRecursion-left (λ b. b < 256) (part_octets p) rest joined in
    ap (path_octets w) split.segments
    ∙ ap (λ l. l ++ path_octets w (path w rest)) (segment_octets-part_segment wide p split.octets first.1.1)
    ∙ ap (λ l. part_octets p ++ l) (later (AllByRecursion-right (λ b. b < 256) (part_octets p) rest joined))
    ∙ split.joined)
    s ok o

-- the octets of a path after a new sequence of one AS number
pub path_octets-prepend-new : (wide : Bool) (s : List ℕ) (asn : ℕ) → AreOctets s → path_ok (width_of wide) s ≡ true
    → prepend asn (path (width_of wide) s) ≡ record { is_set = false; numbers = asn ∷ [] } ∷ path (width_of wide) s
    → path_octets (width_of wide) (prepend asn (path (width_of wide) s)) ≡ AS_SEQUENCE ∷ 1 ∷ number_octets (width_of wide) asn ++ s
path_octets-prepend-new wide s asn o ok e =
    let w = width_of wide in
    ap (path_octets w) e
    ∙ ap (λ t. AS_SEQUENCE ∷ 1 ∷ (t ++ path_octets w (path w s))) (append-nil (number_octets w asn))
    ∙ ap (λ t. AS_SEQUENCE ∷ 1 ∷ (number_octets w asn ++ t)) (path_octets-path wide s o ok)

-- before an empty path, and before a first segment that is a set or full, the AS number is in a sequence of its own
pub prepend-no_segment : (w asn : ℕ) (s : List ℕ) → HasNoSegment w s → prepend asn (path w s) ≡ record { is_set = false; numbers = asn ∷ [] } ∷ path w s
prepend-no_segment w asn s end =
    let alone : Segment = record { is_set = false; numbers = asn ∷ [] } in
    ap (prepend asn) end.segments ∙ ap (λ (t : List Segment). alone ∷ t) (sym end.segments)

-- a prepended AS number, by whether the first segment is a set or full
prepend-split : (w asn : ℕ) (s : List ℕ) (p : Part) (rest : List ℕ) (full : Bool) → BeginsWith w s p rest → (p.set || nat_le MAX_NUMBERS p.count) ≡ full
    → prepend asn (path w s) ≡
    (if full then record { is_set = false; numbers = asn ∷ [] } ∷ part_segment w p ∷ path w rest
    else record { is_set = false; numbers = asn ∷ numbers_of w p.count p.octets } ∷ path w rest)
prepend-split w asn s p rest full split e =
    let alone : Segment = record { is_set = false; numbers = asn ∷ [] } in
    let longer : Segment = record { is_set = false; numbers = asn ∷ numbers_of w p.count p.octets } in
    ap (prepend asn) split.segments
    ∙ ap (λ n. if p.set || nat_le MAX_NUMBERS n then alone ∷ part_segment w p ∷ path w rest else (longer ∷ path w rest)) (length-numbers_of w p.count p.octets)
    ∙ ap (λ b. if b then alone ∷ part_segment w p ∷ path w rest else (longer ∷ path w rest)) e

pub prepend-full_or_set : (w asn : ℕ) (s : List ℕ) (p : Part) (rest : List ℕ) → BeginsWith w s p rest → (p.set || nat_le MAX_NUMBERS p.count) ≡ true
    → prepend asn (path w s) ≡ record { is_set = false; numbers = asn ∷ [] } ∷ path w s
prepend-full_or_set w asn s p rest split full =
    let alone : Segment = record { is_set = false; numbers = asn ∷ [] } in
    prepend-split w asn s p rest true split full ∙ ap (λ (t : List Segment). alone ∷ t) (sym split.segments)

-- the octets of a path whose first sequence has room for the AS number
pub path_octets-prepend-open : (wide : Bool) (asn : ℕ) (s : List ℕ) (p : Part) (rest : List ℕ) → AreOctets s → BeginsWith (width_of wide) s p rest → (p.set || nat_le MAX_NUMBERS p.count) ≡ false
    → path_octets (width_of wide) (prepend asn (path (width_of wide) s)) ≡ AS_SEQUENCE ∷ (p.count + 1) ∷ number_octets (width_of wide) asn ++ drop 2 s
path_octets-prepend-open wide asn s p rest o split room =
    let w = width_of wide in
    let ns = numbers_of w p.count p.octets in
    let number = number_octets w asn in
    let P : List ℕ → Type 0 = λ t. AreOctets t in
    let joined : AreOctets (part_octets p ++ rest) = subst P (sym split.joined) o in
    let first = AllByRecursion-left (λ b. b < 256) (part_octets p) rest joined in
    let later = AllByRecursion-right (λ b. b < 256) (part_octets p) rest joined in
    let count = length-numbers_of w p.count p.octets in
    ap (path_octets w) (prepend-split w asn s p rest false split room)
    ∙ ap (λ n. AS_SEQUENCE ∷ n ∷ ((number ++ flat_map (number_octets w) ns) ++ path_octets w (path w rest))) (let more : suc (length ns) ≡ p.count + 1 = omega (arith, count) in more)
    ∙ ap (λ t. AS_SEQUENCE ∷ (p.count + 1) ∷ ((number ++ t) ++ path_octets w (path w rest))) (flat_map-numbers_of wide p.count p.octets split.octets first.1.1)
    ∙ ap (λ t. AS_SEQUENCE ∷ (p.count + 1) ∷ ((number ++ p.octets) ++ t)) (path_octets-path wide rest later split.ok)
    ∙ ap (λ t. AS_SEQUENCE ∷ (p.count + 1) ∷ t) (append_assoc number p.octets rest)
    ∙ ap (λ t. AS_SEQUENCE ∷ (p.count + 1) ∷ (number ++ drop 2 t)) split.joined

-- two octets or four are written for an AS number
pub length-number_octets : (wide : Bool) (asn : ℕ) → length (number_octets (width_of wide) asn) ≡ width_of wide
length-number_octets true asn = refl
length-number_octets false asn = refl

-- a path after a segment is a path
kind_fits : (set : Bool) → ((if set then AS_SET else AS_SEQUENCE) == AS_SET || (if set then AS_SET else AS_SEQUENCE) == AS_SEQUENCE) ≡ true
kind_fits true = refl
kind_fits false = refl

pub path_ok-segment : (w : ℕ) (set : Bool) (count : ℕ) (numbers rest : List ℕ) → 0 < count → length numbers ≡ w * count
    → path_ok w ((if set then AS_SET else AS_SEQUENCE) ∷ count ∷ (numbers ++ rest)) ≡ path_ok w rest
path_ok-segment w set count numbers rest some whole =
    let s = (if set then AS_SET else AS_SEQUENCE) ∷ count ∷ (numbers ++ rest) in
    let x = w * count in
    let fits : 2 + x ≤ length s = omega (arith, whole, length-append numbers rest) in
    let size : segment_size w s ≡ Some (2 + x) =
    ap (λ b. if (b && nat_le 1 count) && nat_le (2 + x) (length s) then Some (2 + x) else None) (kind_fits set)
    ∙ ap (λ b. if b && nat_le (2 + x) (length s) then Some (2 + x) else None) (le-leb 1 count some)
    ∙ ap (λ b. if b then Some (2 + x) else None) (le-leb (2 + x) (length s) fits) in
    let two : 2 + x ≡ suc (suc x) = omega arith in
    let drops : drop (2 + x) s ≡ rest = ap (λ n. drop n s) two ∙ drop_at numbers rest x whole in
    ap (λ (r : List ℕ). length r == 0) (segments_rest-some w s (2 + x) size ∙ ap (λ d. (cut (segment_size w) d).rest) drops)

-- a path after a new sequence of one AS number is a path
pub path_ok-prepend-new : (wide : Bool) (asn : ℕ) (s : List ℕ) → path_ok (width_of wide) s ≡ true
    → path_ok (width_of wide) (AS_SEQUENCE ∷ 1 ∷ number_octets (width_of wide) asn ++ s) ≡ true
path_ok-prepend-new wide asn s ok =
    let w = width_of wide in
    path_ok-segment w false 1 (number_octets w asn) s (omega arith) (length-number_octets wide asn ∙ omega arith) ∙ ok

-- a path whose first sequence has one AS number more is a path
pub path_ok-prepend-open : (wide : Bool) (asn : ℕ) (s : List ℕ) (p : Part) (rest : List ℕ) → BeginsWith (width_of wide) s p rest
    → path_ok (width_of wide) (AS_SEQUENCE ∷ (p.count + 1) ∷ number_octets (width_of wide) asn ++ drop 2 s) ≡ true
path_ok-prepend-open wide asn s p rest split =
    let w = width_of wide in
    let number = number_octets w asn in
    let longer : length (number ++ p.octets) ≡ w * (p.count + 1) =
    length-append number p.octets ∙ omega (arith, length-number_octets wide asn, split.octets) in
    ap (λ t. path_ok w (AS_SEQUENCE ∷ (p.count + 1) ∷ (number ++ drop 2 t))) (sym split.joined)
    ∙ ap (λ t. path_ok w (AS_SEQUENCE ∷ (p.count + 1) ∷ t)) (sym (append_assoc number p.octets rest))
    ∙ path_ok-segment w false (p.count + 1) (number ++ p.octets) rest (omega arith) longer
    ∙ split.ok

-- the length of a text that begins with a sequence's header and an AS number
pub length-prepended : (wide : Bool) (asn count : ℕ) (text after : List ℕ) → text ≡ AS_SEQUENCE ∷ count ∷ number_octets (width_of wide) asn ++ after
    → length text ≡ 2 + width_of wide + length after
length-prepended wide asn count text after e =
    ap length e ∙ omega (arith, length-append (number_octets (width_of wide) asn) after, length-number_octets wide asn)

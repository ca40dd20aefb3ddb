-- Lemmas on a path as its first segment and the path after it.
use Rattle.std.proofs.Common.{◌≡◌, refl, sym, ap, ◌∙◌, subst, ℕ, zero, suc, ◌+◌, ◌*◌, ◌<◌, ◌≤◌, Bool, true, false, List}
use Rattle.std.proofs.Common.{[], ◌∷◌, ◌++◌, length, take, drop, map, Some, None, arith}
use Rattle.std.proofs.lemmas.Bool.{and_parts, eqb-true, leb-true}
use Rattle.std.proofs.lemmas.Bool.Decides.{nat_tests}
use Rattle.std.proofs.lemmas.List.{length-append, length-take-le, take-append-drop}
use Rattle.std.proofs.lemmas.List.Sums.{sum_by-cons}
use Rattle.std.specs.Prelude.{◌&&◌, ◌||◌, ◌==◌, nat_le, slice_index, if◌then◌else◌}
use Rattle.std.specs.List.{list_any}
use Rattle.xb_words.specs.Cut.{Pieces, after_item, cut}
use Rattle.xb_words.proofs.CutLemmas.{cut-some}
use Rattle.bgp_attr.specs.declared.segments.TheConstants.{AS_SET, AS_SEQUENCE}
use Rattle.bgp_attr.specs.Paths.{segment_size, segment_of, path_ok, path, numbers_of, first_number, segment_hops, hops}
use Rattle.bgp_attr.specs.Paths.{contains, leftmost}
use Rattle.std.proofs.lemmas.Option.{cond_some}
use Rattle.bgp_attr.proofs.PathsLemmas.{IsSize-segment_size, segments_rest-none}
use Rattle.bgp_path.specs.Parts.{Part, part_of, part_segment, path_parts}
use Rattle.bgp_path.specs.Splits.{HasNoSegment, BeginsWith}
use Rattle.bgp_path.proofs.NumbersLemmas.{length-numbers_of, numbers_of-cons}

-- a segment's type is that of a set or of a sequence, by the test for a set
segment_type-is_set : (a : ℕ) → (a == AS_SET || a == AS_SEQUENCE) ≡ true → (if a == AS_SET then AS_SET else AS_SEQUENCE) ≡ a
segment_type-is_set a e = grind (arith, nat_tests)

-- the size of the segment that a path begins with
pub segment_size-front : (w : ℕ) (s : List ℕ) → path_ok w s ≡ true → 0 < length s → segment_size w s ≡ Some (2 + w * slice_index s 1)
segment_size-front w s ok e =
    elim (segment_size w s) as (λ o. segment_size w s ≡ o → segment_size w s ≡ Some (2 + w * slice_index s 1)) [
      | None ↦ λ none.
          let empty : (length s == 0) ≡ true = sym (ap (λ (r : List ℕ). length r == 0) (segments_rest-none w s none)) ∙ ok in
          absurd (omega (arith, e, eqb-true (length s) 0 empty))
      | Some n ↦ λ some. some ∙ ap Some (sym (cond_some ((slice_index s 0 == 1 || slice_index s 0 == 2) && nat_le 1 (slice_index s 1) && nat_le (2 + w * slice_index s 1) (length s)) (2 + w * slice_index s 1) n some).1)
    ] refl

-- a path whose first two octets are known
splits_by : (w a b : ℕ) (t : List ℕ) → path_ok w (a ∷ b ∷ t) ≡ true → segment_size w (a ∷ b ∷ t) ≡ Some (2 + w * b)
    → BeginsWith w (a ∷ b ∷ t) (record { set = a == 1; count = b; octets = take (w * b) t }) (drop (w * b) t)
unfolding path_parts
splits_by w a b t ok e =
    let s = a ∷ b ∷ t in
    let x = w * b in
    let kind = a == 1 || a == 2 in
    let tests = and_parts (kind && nat_le 1 b) (nat_le (2 + x) (length s)) (cond_some (kind && nat_le 1 b && nat_le (2 + x) (length s)) (2 + x) (2 + x) e).0 in
    let starts = and_parts kind (nat_le 1 b) tests.0 in
    let within : 2 + x ≤ length s = leb-true (2 + x) (length s) tests.1 in
    let two : 2 + x ≡ suc (suc x) = omega arith in
    let cuts : cut (segment_size w) s ≡ after_item (a ∷ b ∷ take x t) (cut (segment_size w) (drop x t)) =
    cut-some (segment_size w) (IsSize-segment_size w) s (2 + x) e ∙ ap (λ m. after_item (take m s) (cut (segment_size w) (drop m s))) two in
    record {
      pieces = ap (λ (p : Pieces). map part_of p.items) cuts;
      segments = ap (λ (p : Pieces). map (segment_of w) p.items) cuts;
      ok = ap (λ (p : Pieces). length p.rest == 0) (sym cuts) ∙ ok;
      joined = ap (λ k. k ∷ b ∷ (take x t ++ drop x t)) (segment_type-is_set a starts.0) ∙ ap (λ r. a ∷ b ∷ r) (take-append-drop x t);
      full = leb-true 1 b starts.1;
      octets = length-take-le x t (omega (arith, within));
    }

-- a path that is not empty is split at the size of its first segment
pub BeginsWith-front : (w : ℕ) (s : List ℕ) (n : ℕ) → path_ok w s ≡ true → 0 < length s → n ≡ 2 + w * slice_index s 1
    → BeginsWith w s (record { set = slice_index (take n s) 0 == 1; count = slice_index s 1; octets = drop 2 (take n s) }) (drop n s)
BeginsWith-front w [] n ok e size = absurd (omega (arith, e))
BeginsWith-front w (a ∷ []) n ok e size =
    let size_is = segment_size-front w (a ∷ []) ok e in
    let within = (IsSize-segment_size w (a ∷ []) (2 + w * 0) size_is).1 in
    absurd (omega (arith, within))
BeginsWith-front w (a ∷ b ∷ t) n ok e size =
    let P : ℕ → Type 0 = λ m. BeginsWith w (a ∷ b ∷ t) (record { set = slice_index (take m (a ∷ b ∷ t)) 0 == 1; count = b; octets = drop 2 (take m (a ∷ b ∷ t)) }) (drop m (a ∷ b ∷ t)) in
    let two : suc (suc (w * b)) ≡ n = omega (arith, size) in
    subst P two (splits_by w a b t ok (segment_size-front w (a ∷ b ∷ t) ok e))

-- an empty path has no segment
pub HasNoSegment-empty : (w : ℕ) (s : List ℕ) → length s ≡ 0 → HasNoSegment w s
unfolding path_parts cut
HasNoSegment-empty w [] e = record { pieces = refl; segments = refl; nothing = refl }
HasNoSegment-empty w (b ∷ s) e = absurd (omega (arith, e))

shorter : (w : ℕ) (s : List ℕ) (p : Part) (rest : List ℕ) (n : ℕ) → BeginsWith w s p rest → length s ≤ suc n → length rest ≤ n
shorter w s p rest n split h = let whole = ap length split.joined in omega (arith, whole, h, length-append p.octets rest)

segments_below : (n w : ℕ) (P : List ℕ → Type 0) → P [] → ((s : List ℕ) (p : Part) (rest : List ℕ) → BeginsWith w s p rest → P rest → P s)
    → (s : List ℕ) → length s ≤ n → path_ok w s ≡ true → P s
segments_below n w P none more [] h ok = none
segments_below zero w P none more (b ∷ s) h ok = absurd (omega (arith, h))
segments_below (suc n) w P none more (b ∷ s) h ok =
    let v = b ∷ s in
    let k = 2 + w * slice_index v 1 in
    let split = BeginsWith-front w v k ok (omega arith) refl in
    more v _ (drop k v) split (segments_below n w P none more (drop k v) (shorter w v _ (drop k v) n split h) split.ok)

-- what an empty path has, and a path has if the path after its first segment has it, every path has
pub by_segments : (w : ℕ) (P : List ℕ → Type 0) → P [] → ((s : List ℕ) (p : Part) (rest : List ℕ) → BeginsWith w s p rest → P rest → P s)
    → (s : List ℕ) → path_ok w s ≡ true → P s
by_segments w P none more s ok = segments_below (length s) w P none more s (omega arith) ok

-- a path's length, by its first segment and the path after it
pub length-split : (w : ℕ) (s : List ℕ) (p : Part) (rest : List ℕ) → BeginsWith w s p rest → length s ≡ 2 + w * p.count + length rest
length-split w s p rest split = let whole = ap length split.joined in omega (arith, whole, length-append p.octets rest, split.octets)

-- the first segment of a path does not run past its end
pub front_le_length : (w : ℕ) (s : List ℕ) → path_ok w s ≡ true → 0 < length s → 2 + w * slice_index s 1 ≤ length s
front_le_length w s ok e = (IsSize-segment_size w s (2 + w * slice_index s 1) (segment_size-front w s ok e)).1

pub positive_from_test : (n : ℕ) → (n == 0) ≡ false → 0 < n
positive_from_test zero e = cc
positive_from_test (suc n) e = omega arith

-- a segment counts at most one more than its AS numbers
pub counted_le : (set : Bool) (n : ℕ) → (if set then 1 else n) ≤ n + 1
counted_le true n = omega arith
counted_le false n = omega arith

-- the calls on a whole path, by its first segment and the path after it
pub hops-split : (w : ℕ) (s : List ℕ) (p : Part) (rest : List ℕ) → BeginsWith w s p rest → hops (path w s) ≡ (if p.set then 1 else p.count) + hops (path w rest)
hops-split w s p rest split =
    ap hops split.segments ∙ sum_by-cons segment_hops (part_segment w p) (path w rest) ∙ ap (λ n. (if p.set then 1 else n) + hops (path w rest)) (length-numbers_of w p.count p.octets)

pub contains-split : (w asn : ℕ) (s : List ℕ) (p : Part) (rest : List ℕ) → BeginsWith w s p rest
    → contains asn (path w s) ≡ (list_any (λ n. n == asn) (numbers_of w p.count p.octets) || contains asn (path w rest))
contains-split w asn s p rest split = ap (contains asn) split.segments

pub leftmost-split : (w : ℕ) (s : List ℕ) (p : Part) (rest : List ℕ) → BeginsWith w s p rest → leftmost (path w s) ≡ (if p.set then None else Some (first_number w p.octets))
leftmost-split w s p rest split =
    ap leftmost split.segments ∙ ap (λ ns. if p.set then None else Some (slice_index ns 0)) (numbers_of-cons w p.count p.octets split.full)

-- the same, for goals that a path's first segment decides
pub ruleset whole_path = (contains-split, leftmost-split)

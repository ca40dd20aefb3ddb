-- Lemmas on the segments of an AS_PATH.
use Rattle.std.proofs.Common.{◌≡◌, ap, ℕ, ◌+◌, ◌*◌, ◌≤◌, List, length, drop, Some, None, arith}
use Rattle.std.proofs.lemmas.Bool.{and_parts, leb-true}
use Rattle.std.proofs.lemmas.Option.{cond_some}
use Rattle.std.specs.Prelude.{◌&&◌, ◌||◌, ◌==◌, nat_le, slice_index}
use Rattle.xb_words.specs.Cut.{Pieces, IsSize, cut}
use Rattle.xb_words.proofs.CutLemmas.{cut-some, cut-none}
use Rattle.bgp_attr.specs.declared.segments.TheConstants.{AS_SET, AS_SEQUENCE}
use Rattle.bgp_attr.specs.Paths.{segment_size}

-- a value can be cut into segments: one is not empty and does not run past the end
pub IsSize-segment_size : (w : ℕ) → IsSize (segment_size w)
IsSize-segment_size w s n e =
    let size = 2 + w * slice_index s 1 in
    let begins = (slice_index s 0 == AS_SET || slice_index s 0 == AS_SEQUENCE) && nat_le 1 (slice_index s 1) in
    let p = cond_some (begins && nat_le size (length s)) size n e in
    let fits : size ≤ length s = leb-true size (length s) (and_parts begins (nat_le size (length s)) p.0).1 in
    (omega (arith, p.1), omega (arith, fits, p.1))

-- a segment at the front leaves what the octets after it leave
pub segments_rest-some : (w : ℕ) (s : List ℕ) (n : ℕ) → segment_size w s ≡ Some n → (cut (segment_size w) s).rest ≡ (cut (segment_size w) (drop n s)).rest
segments_rest-some w s n e = ap (λ (p : Pieces). p.rest) (cut-some (segment_size w) (IsSize-segment_size w) s n e)

-- without a segment at the front, all octets are left
pub segments_rest-none : (w : ℕ) (s : List ℕ) → segment_size w s ≡ None → (cut (segment_size w) s).rest ≡ s
segments_rest-none w s e = ap (λ (p : Pieces). p.rest) (cut-none (segment_size w) (IsSize-segment_size w) s e)

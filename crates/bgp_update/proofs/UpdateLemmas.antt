-- The parts of an UPDATE join to its body.
use Rattle.std.proofs.Common.{◌≡◌, ℕ, ◌+◌, ◌≤◌, List, ◌++◌, length, take, drop, sym, ◌∙◌, ap, arith, take-append-drop}
use Rattle.std.specs.Prelude.{slice_range}
use Rattle.xb_words.specs.Octets.{two_at}
use Rattle.std.proofs.lemmas.List.Folds.{drop_split}
use Rattle.xb_words.proofs.ListLemmas.{length-slice_range}
use Rattle.bgp_update.specs.Joins.{Joins}

-- the three parts and the two length fields
pub parts_join : (body : List ℕ) (w a : ℕ) → two_at body 0 ≡ w → two_at body (2 + w) ≡ a → 4 + w + a ≤ length body
    → Joins body (record { withdrawn = slice_range body 2 (2 + w); section = slice_range body (4 + w) (4 + w + a); nlri = drop (4 + w + a) body })
parts_join body w a w_is a_is fits =
    let withdrawn : length (slice_range body 2 (2 + w)) ≡ w = length-slice_range body 2 (2 + w) (omega arith) ∙ omega arith in
    let section : length (slice_range body (4 + w) (4 + w + a)) ≡ a = length-slice_range body (4 + w) (4 + w + a) (omega arith) ∙ omega arith in
    let one = drop_split body 2 (2 + w) (omega arith) in
    let two = drop_split body (2 + w) (4 + w) (omega arith) in
    let three = drop_split body (4 + w) (4 + w + a) (omega arith) in
    record {
      first = w_is ∙ sym withdrawn;
      second = rw withdrawn (a_is ∙ sym section);
      whole = rw withdrawn (
          sym (take-append-drop 2 body)
          ∙ ap (λ l. take 2 body ++ l) (one ∙ ap (λ l. slice_range body 2 (2 + w) ++ l) (two ∙ ap (λ l. slice_range body (2 + w) (4 + w) ++ l) three)));
    }

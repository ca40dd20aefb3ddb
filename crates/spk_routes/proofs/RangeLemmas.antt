-- Numbers from one on.
use Rattle.std.proofs.Common.{◌≡◌, ◌∙◌, ap, ℕ, zero, suc, ◌+◌, [], ◌∷◌, ◌++◌, arith, add-one}
use Rattle.std.specs.List.{range_with_len}

range_with_len-suc : (a n : ℕ) → range_with_len a (suc n) ≡ range_with_len a n ++ (a + n) ∷ []
range_with_len-suc a zero = let e : a ≡ a + 0 = omega arith in ap (λ k. k ∷ []) e
range_with_len-suc a (suc n) =
    let e : a + 1 + n ≡ a + suc n = omega arith in
    ap (λ l. a ∷ l) (range_with_len-suc (a + 1) n ∙ ap (λ k. range_with_len (a + 1) n ++ k ∷ []) e)

-- with one number more
pub range_with_len-more : (a n : ℕ) → range_with_len a (n + 1) ≡ range_with_len a n ++ (a + n) ∷ []
range_with_len-more a n = rw add-one (range_with_len-suc a n)

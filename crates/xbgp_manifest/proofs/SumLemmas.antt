-- Sums over lists that grow at their ends.
use Rattle.std.proofs.Common.{◌≡◌, ℕ, ◌+◌, ◌<◌, List, [], ◌∷◌, ◌++◌, length, map, take, get_or, ap, sym, ◌∙◌, arith}
use Rattle.std.specs.List.{sum_by}
use Rattle.std.proofs.lemmas.List.{take_more, map-append}
use Rattle.std.proofs.lemmas.List.Sums.{sum_by-append}

-- one more element of a list that is walked over
pub sum_by-more : {X Y : Type 0} (f : Y → ℕ) (h : X → Y) (xs : List X) (i : ℕ) (x : X) → i < length xs → x ≡ get_or xs i x
    → sum_by f (map h (take (i + 1) xs)) ≡ sum_by f (map h (take i xs)) + f (h x)
sum_by-more f h xs i x inside at =
    ap (λ ys. sum_by f (map h ys)) (take_more xs i x inside ∙ ap (λ y. take i xs ++ y ∷ []) (sym at))
    ∙ ap (sum_by f) (map-append h (take i xs) (x ∷ []))
    ∙ omega (arith, sum_by-append f (map h (take i xs)) (h x ∷ []))

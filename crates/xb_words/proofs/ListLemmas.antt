-- Laws of lists: what holds of every element of a list in two parts, and the length of a part.
use Rattle.std.proofs.Common.{◌≡◌, ℕ, ◌-◌, ◌≤◌, List, [], ◌∷◌, ◌++◌, length, drop, arith, length-drop}
use Rattle.std.proofs.lemmas.List.{length-take-le}
use Rattle.std.specs.Prelude.{slice_range}
use Rattle.std.specs.List.{AllByRecursion}

module _ {A : Type 0} (P : A → Type 0) where
  -- what holds of every element of two lists holds of the first
  pub AllByRecursion-left : (xs ys : List A) → AllByRecursion P (xs ++ ys) → AllByRecursion P xs
  AllByRecursion-left [] ys all = tt
  AllByRecursion-left (x ∷ xs) ys all = (all.0, AllByRecursion-left xs ys all.1)

  -- and of the second
  pub AllByRecursion-right : (xs ys : List A) → AllByRecursion P (xs ++ ys) → AllByRecursion P ys
  AllByRecursion-right [] ys all = all
  AllByRecursion-right (x ∷ xs) ys all = AllByRecursion-right xs ys all.1

  -- and it holds of a list with one more element of which it holds
  pub AllByRecursion-push : (xs : List A) (y : A) → AllByRecursion P xs → P y → AllByRecursion P (xs ++ y ∷ [])
  AllByRecursion-push [] y all here = (here, tt)
  AllByRecursion-push (x ∷ xs) y all here = (all.0, AllByRecursion-push xs y all.1 here)

-- the length of a part is the difference of its bounds
pub length-slice_range : (s : List ℕ) (i j : ℕ) → j ≤ length s → length (slice_range s i j) ≡ j - i
length-slice_range s i j fits = length-take-le (j - i) (drop i s) (omega (arith, length-drop i s))

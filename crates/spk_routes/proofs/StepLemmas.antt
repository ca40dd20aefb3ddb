-- A list from an index on, by the element there.
use Rattle.std.proofs.Common.{◌≡◌, refl, ◌∙◌, ap, ℕ, ◌+◌, Bool, true, false, List, ◌∷◌, drop, Some}
use Rattle.std.specs.Prelude.{find}
use Rattle.std.specs.List.{list_any, slice_get}
use Rattle.std.proofs.lemmas.List.{at_drop_more}
use Rattle.std.proofs.lemmas.Option.{slice_get_within, get_or_from_slice_get}

module _ {A : Type 0} where
  -- the element, and what comes after it
  pub drop-at : (xs : List A) (i : ℕ) (x : A) → slice_get xs i ≡ Some x → drop i xs ≡ x ∷ drop (i + 1) xs
  drop-at xs i x is =
      at_drop_more (λ l. l) xs i x (slice_get_within xs i x is)
      ∙ ap (λ y. y ∷ drop (i + 1) xs) (get_or_from_slice_get xs i x x is)

  -- the first that passes a test
  pub find-here : (test : A → Bool) (xs : List A) (i : ℕ) (x : A) → slice_get xs i ≡ Some x → test x ≡ true
      → find test (drop i xs) ≡ Some x
  find-here test xs i x is passes = ap (find test) (drop-at xs i x is) ∙ rw passes refl

  pub find-later : (test : A → Bool) (xs : List A) (i : ℕ) (x : A) → slice_get xs i ≡ Some x → test x ≡ false
      → find test (drop i xs) ≡ find test (drop (i + 1) xs)
  find-later test xs i x is fails = ap (find test) (drop-at xs i x is) ∙ rw fails refl

  -- whether one passes a test
  pub list_any-here : (test : A → Bool) (xs : List A) (i : ℕ) (x : A) → slice_get xs i ≡ Some x → test x ≡ true
      → list_any test (drop i xs) ≡ true
  list_any-here test xs i x is passes = ap (list_any test) (drop-at xs i x is) ∙ rw passes refl

  pub list_any-later : (test : A → Bool) (xs : List A) (i : ℕ) (x : A) → slice_get xs i ≡ Some x → test x ≡ false
      → list_any test (drop i xs) ≡ list_any test (drop (i + 1) xs)
  list_any-later test xs i x is fails = ap (list_any test) (drop-at xs i x is) ∙ rw fails refl

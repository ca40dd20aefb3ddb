-- Names that were met beside the entries that have them.
use Rattle.std.proofs.Common.{◌≡◌, ℕ, Bool, true, false, ◌||◌, not, List, [], ◌∷◌, ◌++◌, map, refl, ap, sym, ◌∙◌}
use Rattle.std.proofs.Common.{if◌then◌else◌}
use Rattle.std.specs.Borrow.{Bor}
use Rattle.std.specs.List.{list_any}
use Rattle.std.specs.Str.{bytes_eq}
use Rattle.std.proofs.lemmas.List.{map-append}

-- what an insertion says of a key
pub is_there-insert : (added there : Bool) → added ≡ not there → added ≡ false → there ≡ true
is_there-insert added true says old = refl
is_there-insert added false says old = sym old ∙ says

pub is_new-insert : (added there : Bool) → added ≡ not there → added ≡ true → there ≡ false
is_new-insert added false says new = refl
is_new-insert added true says new = sym new ∙ says

module _ {E : Type 0} (name : E → List ℕ) (s : Bor (List ℕ)) (met : List (Bor (List ℕ))) (es : List E) (same : map (λ k. k.now) met ≡ map name es) where
  list_any-map : {X : Type 0} (h : X → List ℕ) (xs : List X) → list_any (λ x. bytes_eq s.now (h x)) xs ≡ list_any (bytes_eq s.now) (map h xs)
  list_any-map h [] = refl
  list_any-map h (x ∷ xs) = ap (λ b. bytes_eq s.now (h x) || b) (list_any-map h xs)

  -- a name is among those that were met exactly if an entry has it
  pub list_any-names : list_any (λ k. bytes_eq s.now k.now) met ≡ list_any (λ e. bytes_eq s.now (name e)) es
  list_any-names = list_any-map (λ k. k.now) met ∙ ap (list_any (bytes_eq s.now)) same ∙ sym (list_any-map name es)

  -- a new name is met with its entry
  pub map-insert : (others : List (Bor (List ℕ))) (e : E) → others ≡ (if list_any (λ k. bytes_eq s.now k.now) met then met else met ++ s ∷ [])
      → list_any (λ k. bytes_eq s.now k.now) met ≡ false → s.now ≡ name e → map (λ k. k.now) others ≡ map name (es ++ e ∷ [])
  map-insert others e inserted absent is =
      ap (map (λ k. k.now)) (inserted ∙ ap (λ b. if b then met else met ++ s ∷ []) absent)
      ∙ map-append (λ k. k.now) met (s ∷ []) ∙ ap (λ names. names ++ s.now ∷ []) same ∙ ap (λ n. map name es ++ n ∷ []) is ∙ sym (map-append name es (e ∷ []))

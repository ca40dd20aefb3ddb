-- Laws of `cut`, and of walks over the items that it cuts.
use Rattle.std.proofs.Common.{◌≡◌, refl, sym, ap, ◌∙◌, ℕ, zero, suc, ◌+◌, ◌<◌, ◌≤◌, List, [], ◌∷◌, ◌++◌, length, take}
use Rattle.std.proofs.Common.{drop, Option, Some, None, Ok, Err, arith}
use Rattle.std.proofs.lemmas.List.{length-drop, length-take-le, take-append-drop, append_assoc, take-append-le}
use Rattle.std.proofs.lemmas.List.{drop-append-le, take_at, drop_at}
use Rattle.std.specs.List.{concat, AllByRecursion}
use Rattle.xb_words.specs.Cut.{Pieces, after_item, items_then, cut, cut_turns, walk, walk_from, IsSize, IsStable}
use Rattle.xb_words.specs.Cut.{IsLocal, IsItem}

-- a cut by what the size says of the item at the front
abbrev pub cut_by : (List ℕ → Option ℕ) → List ℕ → ℕ → Option ℕ → Pieces
cut_by size s turns None = record { items = []; rest = s }
cut_by size s turns (Some n) = after_item (take n s) (cut_turns size turns (drop n s))

-- one turn, by what the size says
cut_turns-suc : (size : List ℕ → Option ℕ) (turns : ℕ) (s : List ℕ) (o : Option ℕ) → size s ≡ o
    → cut_turns size (suc turns) s ≡ cut_by size s turns o
cut_turns-suc size turns s o e = ap (λ (r : Option ℕ). cut_by size s turns r) e

-- if the turns suffice, more of them make no difference
cut_turns-enough : (size : List ℕ → Option ℕ) → IsSize size → (n m : ℕ) (s : List ℕ) → length s ≤ n → length s ≤ m
    → cut_turns size n s ≡ cut_turns size m s
cut_turns-enough size is zero zero s a b = refl
cut_turns-enough size is zero (suc m) s a b =
    elim (size s) as (λ o. size s ≡ o → cut_turns size zero s ≡ cut_turns size (suc m) s) [
      | None ↦ λ e. sym (cut_turns-suc size m s None e)
      | Some k ↦ λ e. let h = is s k e in absurd (omega (arith, h.0, h.1, a))
    ] refl
cut_turns-enough size is (suc n) zero s a b =
    elim (size s) as (λ o. size s ≡ o → cut_turns size (suc n) s ≡ cut_turns size zero s) [
      | None ↦ λ e. cut_turns-suc size n s None e
      | Some k ↦ λ e. let h = is s k e in absurd (omega (arith, h.0, h.1, b))
    ] refl
cut_turns-enough size is (suc n) (suc m) s a b =
    elim (size s) as (λ o. size s ≡ o → cut_turns size (suc n) s ≡ cut_turns size (suc m) s) [
      | None ↦ λ e. cut_turns-suc size n s None e ∙ sym (cut_turns-suc size m s None e)
      | Some k ↦ λ e.
          let h = is s k e in
          let l = length-drop k s in
          cut_turns-suc size n s (Some k) e
          ∙ ap (after_item (take k s)) (cut_turns-enough size is n m (drop k s) (omega (arith, h.0, h.1, a, l))
          (omega (arith, h.0, h.1, b, l)))
          ∙ sym (cut_turns-suc size m s (Some k) e)
    ] refl

-- if no whole item is at the front, there are no items
pub cut-none : (size : List ℕ → Option ℕ) → IsSize size → (s : List ℕ) → size s ≡ None
    → cut size s ≡ record { items = []; rest = s }
unfolding cut
cut-none size is s e =
    cut_turns-enough size is (length s) (suc (length s)) s (omega arith) (omega arith)
    ∙ cut_turns-suc size (length s) s None e

-- an item at the front is the first, and the others are those after it
pub cut-some : (size : List ℕ → Option ℕ) → IsSize size → (s : List ℕ) (n : ℕ) → size s ≡ Some n
    → cut size s ≡ after_item (take n s) (cut size (drop n s))
unfolding cut
cut-some size is s n e =
    let h = is s n e in
    let l = length-drop n s in
    cut_turns-enough size is (length s) (suc (length s)) s (omega arith) (omega arith)
    ∙ cut_turns-suc size (length s) s (Some n) e
    ∙ ap (after_item (take n s)) (cut_turns-enough size is (length s) (length (drop n s)) (drop n s) (omega (arith, l))
    (omega arith))

-- the items and the rest join to the whole
concat-cut_turns : (size : List ℕ → Option ℕ) (turns : ℕ) (s : List ℕ)
    → concat (cut_turns size turns s).items ++ (cut_turns size turns s).rest ≡ s
concat-cut_turns size zero s = refl
concat-cut_turns size (suc turns) s =
    elim (size s) as (λ o. concat (cut_by size s turns o).items ++ (cut_by size s turns o).rest ≡ s) [
      | None ↦ refl
      | Some n ↦ append_assoc (take n s) _ _ ∙ ap (λ t. take n s ++ t) (concat-cut_turns size turns (drop n s))
          ∙ take-append-drop n s
    ]

-- the same of all items
pub concat-cut : (size : List ℕ → Option ℕ) (s : List ℕ) → concat (cut size s).items ++ (cut size s).rest ≡ s
unfolding cut
concat-cut size s = concat-cut_turns size (length s) s

-- no whole item is at the front of what is left
size-cut_turns-rest : (size : List ℕ → Option ℕ) → IsSize size → (turns : ℕ) (s : List ℕ) → length s ≤ turns
    → size (cut_turns size turns s).rest ≡ None
size-cut_turns-rest size is zero s a =
    elim (size s) as (λ o. size s ≡ o → size s ≡ None) [
      | None ↦ λ e. e
      | Some k ↦ λ e. let h = is s k e in absurd (omega (arith, h.0, h.1, a))
    ] refl
size-cut_turns-rest size is (suc turns) s a =
    elim (size s) as (λ o. size s ≡ o → size (cut_by size s turns o).rest ≡ None) [
      | None ↦ λ e. e
      | Some k ↦ λ e. let h = is s k e in let l = length-drop k s in size-cut_turns-rest size is turns (drop k s)
          (omega (arith, h.0, h.1, a, l))
    ] refl

-- the same of all turns
pub size-cut-rest : (size : List ℕ → Option ℕ) → IsSize size → (s : List ℕ) → size (cut size s).rest ≡ None
unfolding cut
size-cut-rest size is s = size-cut_turns-rest size is (length s) s (omega arith)

items_then-none : (size : List ℕ → Option ℕ) → IsSize size → (s t : List ℕ) → size s ≡ None
    → cut size (s ++ t) ≡ items_then (cut size s).items (cut size ((cut size s).rest ++ t))
items_then-none size is s t e =
    sym (ap (λ (p : Pieces). items_then p.items (cut size (p.rest ++ t))) (cut-none size is s e))

cut-append-turns : (size : List ℕ → Option ℕ) → IsSize size → IsStable size → (turns : ℕ) (s t : List ℕ)
    → length s ≤ turns → cut size (s ++ t) ≡ items_then (cut size s).items (cut size ((cut size s).rest ++ t))
cut-append-turns size is stable zero s t a =
    elim (size s) as (λ o. size s ≡ o → cut size (s ++ t) ≡ items_then (cut size s).items
    (cut size ((cut size s).rest ++ t))) [
      | None ↦ λ e. items_then-none size is s t e
      | Some k ↦ λ e. let h = is s k e in absurd (omega (arith, h.0, h.1, a))
    ] refl
cut-append-turns size is stable (suc turns) s t a =
    elim (size s) as (λ o. size s ≡ o → cut size (s ++ t) ≡ items_then (cut size s).items
    (cut size ((cut size s).rest ++ t))) [
      | None ↦ λ e. items_then-none size is s t e
      | Some k ↦ λ e.
          let h = is s k e in
          let l = length-drop k s in
          cut-some size is (s ++ t) k (stable s t k e)
          ∙ ap (λ x. after_item x (cut size (drop k (s ++ t)))) (take-append-le k s t h.1)
          ∙ ap (λ d. after_item (take k s) (cut size d)) (drop-append-le k s t h.1)
          ∙ ap (after_item (take k s)) (cut-append-turns size is stable turns (drop k s) t
          (omega (arith, h.0, h.1, a, l)))
          ∙ sym (ap (λ (p : Pieces). items_then p.items (cut size (p.rest ++ t))) (cut-some size is s k e))
    ] refl

-- octets that follow are cut together with what was left
pub cut-append : (size : List ℕ → Option ℕ) → IsSize size → IsStable size → (s t : List ℕ)
    → cut size (s ++ t) ≡ items_then (cut size s).items (cut size ((cut size s).rest ++ t))
cut-append size is stable s t = cut-append-turns size is stable (length s) s t (omega arith)

cut_turns-items : (size : List ℕ → Option ℕ) → IsSize size → IsLocal size → (turns : ℕ) (s : List ℕ)
    → AllByRecursion (IsItem size) (cut_turns size turns s).items
cut_turns-items size is local zero s = tt
cut_turns-items size is local (suc turns) s =
    elim (size s) as (λ o. size s ≡ o → AllByRecursion (IsItem size) (cut_by size s turns o).items) [
      | None ↦ λ e. tt
      | Some n ↦ λ e. (
        local s n e ∙ ap Some (sym (length-take-le n s (is s n e).1)),
        cut_turns-items size is local
            turns (drop n s),
      )
    ] refl

-- each item of a cut is one whole item
pub IsItem-cut : (size : List ℕ → Option ℕ) → IsSize size → IsLocal size → (s : List ℕ)
    → AllByRecursion (IsItem size) (cut size s).items
unfolding cut
IsItem-cut size is local s = cut_turns-items size is local (length s) s

-- items that are joined are cut into the same items again
pub cut-concat : (size : List ℕ → Option ℕ) → IsSize size → IsStable size → (xs : List (List ℕ)) (rest : List ℕ)
    → AllByRecursion (IsItem size) xs → size rest ≡ None
    → cut size (concat xs ++ rest) ≡ record { items = xs; rest = rest }
cut-concat size is stable [] rest each e = cut-none size is rest e
cut-concat size is stable (x ∷ xs) rest each e =
    let more = concat xs ++ rest in
    ap (cut size) (append_assoc x (concat xs) rest)
    ∙ cut-some size is (x ++ more) (length x) (stable x more (length x) each.0)
    ∙ ap (λ t. after_item t (cut size (drop (length x) (x ++ more)))) (take_at x more (length x) refl)
    ∙ ap (λ d. after_item x (cut size d)) (drop_at x more (length x) refl)
    ∙ ap (after_item x) (cut-concat size is stable xs rest each.1 e)

module _ {A E : Type 0} (size : List ℕ → Option ℕ) (is : IsSize size) (f : ℕ → List ℕ → A) (e : ℕ → E) where
  -- an item at the front is the next
  pub walk_from-some : (at : ℕ) (s : List ℕ) (n : ℕ) → size s ≡ Some n
      → walk_from size f e at s ≡ Ok (f at (take n s)) ∷ walk_from size f e (at + n) (drop n s)
  unfolding walk_from
  walk_from-some at s n h =
      ap (λ (p : Pieces). walk f e at p.items p.rest) (cut-some size is s n h)
      ∙ ap (λ m. Ok (f at (take n s)) ∷ walk_from size f e (at + m) (drop n s)) (length-take-le n s (is s n h).1)

  -- octets that are left and begin with no item are an error
  pub walk_from-error : (at : ℕ) (s : List ℕ) → size s ≡ None → 0 < length s → walk_from size f e at s ≡ Err (e at) ∷ []
  unfolding walk_from
  walk_from-error at [] h some = absurd (omega arith)
  walk_from-error at (b ∷ s) h some = ap (λ (p : Pieces). walk f e at p.items p.rest) (cut-none size is (b ∷ s) h)

  -- no octets give nothing
  pub walk_from-nil : (at : ℕ) (s : List ℕ) → length s ≡ 0 → walk_from size f e at s ≡ []
  unfolding walk_from cut
  walk_from-nil at [] none = refl
  walk_from-nil at (b ∷ s) none = absurd (omega arith)

module _ {A E : Type 0} (f : List ℕ → A) (e : E) where
  -- if the item and the error do not depend on the offset, it makes no difference
  walk-anywhere : (at from : ℕ) (xs : List (List ℕ)) (rest : List ℕ)
      → walk (λ i. f) (λ i. e) at xs rest ≡ walk (λ i. f) (λ i. e) from xs rest
  walk-anywhere at from [] [] = refl
  walk-anywhere at from [] (b ∷ rest) = refl
  walk-anywhere at from (x ∷ xs) rest = ap (λ r. Ok (f x) ∷ r) (walk-anywhere (at + length x) (from + length x) xs rest)

  -- the same of octets that begin at an offset
  pub walk_from-anywhere : (size : List ℕ → Option ℕ) (at from : ℕ) (s : List ℕ)
      → walk_from size (λ i. f) (λ i. e) at s ≡ walk_from size (λ i. f) (λ i. e) from s
  unfolding walk_from
  walk_from-anywhere size at from s = walk-anywhere at from (cut size s).items (cut size s).rest

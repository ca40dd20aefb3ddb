-- Items that follow one another: messages of a stream, prefixes, attributes, segments, parameters, lines (this
-- project's own). A `size` says of a list how many octets the item at its front has; it is None if there is no whole
-- item at the front.
use Rattle.std.specs.Prelude.{◌≡◌, ℕ, zero, suc, ◌+◌, ◌<◌, ◌≤◌, List, [], ◌∷◌, ◌++◌, length, take, drop, Option, Some}
use Rattle.std.specs.Prelude.{None, Result, Ok, Err}

-- the items, each with all its octets, and what is left after the last of them
pub record Pieces : Type 0 where
  pub items : List (List ℕ)
  pub rest : List ℕ

-- the pieces with one more item before them
abbrev pub after_item : List ℕ → Pieces → Pieces
after_item x p = record { items = x ∷ p.items; rest = p.rest }

-- at most that many items (for `cut`)
abbrev pub cut_turns : (List ℕ → Option ℕ) → ℕ → List ℕ → Pieces
cut_turns size zero s = record { items = []; rest = s }
cut_turns size (suc turns) s =
    elim (size s) [
      | None ↦ record { items = []; rest = s }
      | Some n ↦ after_item (take n s) (cut_turns size turns (drop n s))
    ]

-- all whole items from the front, in order, and the rest
unfoldable pub cut : (List ℕ → Option ℕ) → List ℕ → Pieces
cut size s = cut_turns size (length s) s

-- a size that `cut` can use: an item is not empty and does not pass the end
abbrev pub IsSize : (List ℕ → Option ℕ) → Type 0
IsSize size = (s : List ℕ) (n : ℕ) → size s ≡ Some n → (0 < n) × (n ≤ length s)

-- each item with the offset at which it begins, the first at `at`
abbrev pub with_offsets : ℕ → List (List ℕ) → List (ℕ × List ℕ)
with_offsets at [] = []
with_offsets at (x ∷ xs) = (at, x) ∷ with_offsets (at + length x) xs

-- a size that more octets after an item do not change
abbrev pub IsStable : (List ℕ → Option ℕ) → Type 0
IsStable size = (s t : List ℕ) (n : ℕ) → size s ≡ Some n → size (s ++ t) ≡ Some n

-- items before those of some pieces
abbrev pub items_then : List (List ℕ) → Pieces → Pieces
items_then xs p = record { items = xs ++ p.items; rest = p.rest }

-- a size that does not depend on what follows the item
abbrev pub IsLocal : (List ℕ → Option ℕ) → Type 0
IsLocal size = (s : List ℕ) (n : ℕ) → size s ≡ Some n → size (take n s) ≡ Some n

-- one whole item, and nothing else
abbrev pub IsItem : (List ℕ → Option ℕ) → List ℕ → Type 0
IsItem size x = size x ≡ Some (length x)

-- What a walk over items gives, in order: each item by its offset and its octets, and an error at the offset of the
-- octets that are left, if there are any.
abbrev pub walk : {A E : Type 0} → (ℕ → List ℕ → A) → (ℕ → E) → ℕ → List (List ℕ) → List ℕ → List (Result A E)
walk f e at [] [] = []
walk f e at [] (b ∷ rest) = Err (e at) ∷ []
walk f e at (x ∷ xs) rest = Ok (f at x) ∷ walk f e (at + length x) xs rest

-- a walk over the items of octets that begin at an offset
unfoldable pub walk_from
    : {A E : Type 0} → (List ℕ → Option ℕ) → (ℕ → List ℕ → A) → (ℕ → E) → ℕ → List ℕ → List (Result A E)
walk_from size f e at s = walk f e at (cut size s).items (cut size s).rest

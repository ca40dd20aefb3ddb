-- Entries whose values are read by a function: what a write, a removal and a walk make of them.
use Rattle.std.proofs.Common.{◌≡◌, refl, sym, ◌∙◌, ap, subst, List, [], ◌∷◌, map, filter, Option, Some, None}
use Rattle.std.specs.Option.{option_map}
use Rattle.std.specs.List.Sorted.{IsStrictlySortedBy}
use Rattle.std.specs.Map.{keys_of}
use Rattle.std.specs.Ordering.{is_lt}
use Rattle.std.specs.declared.cmp.Ordering.{Ordering}
use Rattle.xb_words.specs.Table.{value_at, with_value, without, entry_after, first_of, IsRising}
use Rattle.attr_intern.proofs.LookupLemmas.{by_ordering}

module _ {K A B : Type 0} (c : K → K → Ordering) (f : A → B) where
  abbrev pub mapped : List (K × A) → List (K × B)
  mapped es = map (λ e. (e.0, f e.1)) es

  -- a write, read
  pub mapped-with_value : (es : List (K × A)) (k : K) (v : A)
      → mapped (with_value c es k v) ≡ with_value c (mapped es) k (f v)
  mapped-with_value [] k v = refl
  mapped-with_value (e ∷ es) k v = by_ordering (c k e.0)
      (λ l. rw l refl)
      (λ q. rw q refl)
      (λ g. rw g (ap (λ (t : List (K × B)). (e.0, f e.1) ∷ t) (mapped-with_value es k v)))

  -- a removal, read
  pub mapped-without : (es : List (K × A)) (k : K) → mapped (without c es k) ≡ without c (mapped es) k
  mapped-without [] k = refl
  mapped-without (e ∷ es) k = by_ordering (c k e.0)
      (λ l. rw l (ap (λ (t : List (K × B)). (e.0, f e.1) ∷ t) (mapped-without es k)))
      (λ q. rw q refl)
      (λ g. rw g (ap (λ (t : List (K × B)). (e.0, f e.1) ∷ t) (mapped-without es k)))

  first_key : (es : List (K × A)) → option_map (λ e. e.0) (first_of (mapped es)) ≡ option_map (λ e. e.0) (first_of es)
  first_key [] = refl
  first_key (e ∷ es) = refl

  mapped-after : (es : List (K × A)) (k : K)
      → filter (λ e. is_lt (c k e.0)) (mapped es) ≡ mapped (filter (λ e. is_lt (c k e.0)) es)
  mapped-after [] k = refl
  mapped-after (e ∷ es) k = by_ordering (c k e.0)
      (λ l. rw l (ap (λ (t : List (K × B)). (e.0, f e.1) ∷ t) (mapped-after es k)))
      (λ q. rw q (mapped-after es k))
      (λ g. rw g (mapped-after es k))

  -- a look-up, read
  pub value_at-mapped : (es : List (K × A)) (k : K) → value_at c (mapped es) k ≡ option_map f (value_at c es k)
  value_at-mapped [] k = refl
  value_at-mapped (e ∷ es) k = by_ordering (c k e.0)
      (λ l. rw l (value_at-mapped es k))
      (λ q. rw q refl)
      (λ g. rw g (value_at-mapped es k))

  -- the keys are the same
  pub keys-mapped : (es : List (K × A)) → keys_of (mapped es) ≡ keys_of es
  keys-mapped [] = refl
  keys-mapped (e ∷ es) = ap (λ (ks : List K). e.0 ∷ ks) (keys-mapped es)

  pub rising-mapped : (es : List (K × A)) → IsRising c es → IsRising c (mapped es)
  rising-mapped es rising = subst (IsStrictlySortedBy c) (sym (keys-mapped es)) rising

  -- the next key is the same
  pub next_key-mapped : (es : List (K × A)) (after : Option K)
      → option_map (λ e. e.0) (entry_after c (mapped es) after) ≡ option_map (λ e. e.0) (entry_after c es after)
  next_key-mapped es None = first_key es
  next_key-mapped es (Some k) =
      ap (λ (t : List (K × B)). option_map (λ e. e.0) (first_of t)) (mapped-after es k)
      ∙ first_key (filter (λ e. is_lt (c k e.0)) es)

-- The entry that a walk finds is the one that a look-up finds.
use Rattle.std.proofs.Common.{◌≡◌, refl, sym, ◌∙◌, ap, subst, inl, inr, List, [], ◌∷◌, filter, Option, Some, None}
use Rattle.std.specs.Cmp.{IsTotalOrder}
use Rattle.std.specs.Option.{option_map}
use Rattle.std.specs.Ordering.{is_lt}
use Rattle.std.specs.declared.cmp.Ordering.{Ordering}
use Rattle.std.specs.declared.cmp.Ordering.TheVariants.{Less, Equal}
use Rattle.std.proofs.lemmas.Bool.{cases_Bool}
use Rattle.std.proofs.lemmas.Cmp.{tied_itself}
use Rattle.xb_words.specs.Table.{entry_after, first_of, value_at, IsRising}
use Rattle.xb_words.proofs.TableLemmas.{value_at-some}
use Rattle.xb_words.proofs.TableSplitLemmas.{IsRising-head, IsRising-tail}
use Rattle.attr_intern.proofs.LookupLemmas.{by_ordering}

first_entry : {A : Type 0} (xs : List A) (x : A) → first_of xs ≡ Some x → (rest : List A) × (xs ≡ x ∷ rest)
first_entry [] x is = absurd (cc is)
first_entry (y ∷ ys) x is = let same : y ≡ x = cc is in (ys, ap (λ z. z ∷ ys) same)

module _ {K X : Type 0} (c : K → K → Ordering) (o : IsTotalOrder c) where
  first_found : (es rest : List (K × X)) (e : K × X) → es ≡ e ∷ rest → value_at c es e.0 ≡ Some e.1
  first_found es rest e is =
      ap (λ (l : List (K × X)). value_at c l e.0) is ∙ rw (tied_itself o e.0) refl

  found_above : (k : K) (es rest : List (K × X)) (e : K × X) → IsRising c es
      → filter (λ e. is_lt (c k e.0)) es ≡ e ∷ rest → value_at c es e.0 ≡ Some e.1
  found_above k [] rest e rising is = absurd (cc is)
  found_above k (x ∷ es) rest e rising is = elim (cases_Bool (is_lt (c k x.0))) [
    | inl passes ↦
        let here : x ∷ filter (λ e. is_lt (c k e.0)) es ≡ e ∷ rest = rw passes at is in
        let same : x ≡ e = cc here in
        subst (λ (y : K × X). value_at c (x ∷ es) y.0 ≡ Some y.1) same (first_found (x ∷ es) es x refl)
    | inr fails ↦
        let later : value_at c es e.0 ≡ Some e.1 =
        found_above k es rest e (IsRising-tail c o x es rising) (rw fails at is) in
        let w = value_at-some c (λ (y : K × X). c x.0 y.0 ≡ Less) es e.0 e.1 (IsRising-head c o x es rising) later in
        by_ordering (c e.0 x.0)
        (λ l. rw l later)
        (λ q.
        let apart : Equal ≡ Less = sym w.1 ∙ o.congr e.0 x.0 w.0 q ∙ w.2 in
        absurd (cc apart))
        (λ g. rw g later)
  ]

  -- a walk's entry is found
  pub entry_there : (es : List (K × X)) (after : Option K) (e : K × X) → IsRising c es → entry_after c es after ≡ Some e
      → value_at c es e.0 ≡ Some e.1
  entry_there es None e rising is = let f = first_entry es e is in first_found es f.0 e f.1
  entry_there es (Some k) e rising is =
      let f = first_entry (filter (λ e. is_lt (c k e.0)) es) e is in
      found_above k es f.0 e rising f.1

  entry_of : (e : Option (K × X)) (k : K) → Some k ≡ option_map (λ e. e.0) e
      → (f : K × X) × (e ≡ Some f) × (f.0 ≡ k)
  entry_of None k is = absurd (cc is)
  entry_of (Some f) k is = (f, refl, cc is)

  abbrev pub of_key : K → X → K × X
  of_key k x = (k, x)

  -- the entry of a key, by a walk and a look-up
  pub entry_at : (es : List (K × X)) (after : Option K) (k : K) (found : Option X) → IsRising c es
      → Some k ≡ option_map (λ e. e.0) (entry_after c es after) → found ≡ value_at c es k
      → option_map (of_key k) found ≡ entry_after c es after
  entry_at es after k found rising is found_is =
      let w = entry_of (entry_after c es after) k is in
      let there : value_at c es k ≡ Some (w.0).1 =
      subst (λ (y : K). value_at c es y ≡ Some (w.0).1) w.2 (entry_there es after w.0 rising w.1) in
      ap (option_map (of_key k)) (found_is ∙ there)
      ∙ sym (w.1 ∙ ap (λ (y : K). Some (of_key y (w.0).1)) w.2)

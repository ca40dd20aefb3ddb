-- Sets as their keys in rising order: which keys they have, and how many.
use Rattle.std.proofs.Common.{◌≡◌, ◌<◌, Bool, true, false, inl, inr, List, [], ◌∷◌, refl, sym, ◌∙◌, ap, length, ◌||◌}
use Rattle.std.specs.Cmp.{IsTotalOrder}
use Rattle.std.specs.BTreeMap.{is_at}
use Rattle.std.specs.List.{AllByRecursion, list_any, IsDistinct}
use Rattle.std.specs.List.Sorted.{IsStrictlySortedBy}
use Rattle.std.specs.Ordering.{is_eq}
use Rattle.std.specs.declared.cmp.Ordering.{Ordering}
use Rattle.std.specs.declared.cmp.Ordering.TheVariants.{Less, Equal, Greater}
use Rattle.std.proofs.lemmas.Bool.{cases_Bool}
use Rattle.std.proofs.lemmas.Cmp.{eq_by_cmp_equiv}
use Rattle.std.proofs.lemmas.Map.Keys.{IsDistinct-from_sorted}
use Rattle.std.proofs.lemmas.Map.Made.{length-le_from_is_member}
use Rattle.std.proofs.lemmas.Map.Steps.{list_any_congr}
use Rattle.xb_words.specs.Table.{has_key, with_key, with_keys}
use Rattle.xb_words.proofs.TableSplitLemmas.{less_from_greater}

-- an ordering is one of three
pub by_ordering : {P : Type 0} (r : Ordering) → (r ≡ Less → P) → (r ≡ Equal → P) → (r ≡ Greater → P) → P
by_ordering Less l e g = l refl
by_ordering Equal l e g = e refl
by_ordering Greater l e g = g refl

or_same : (a b : Bool) → (a || b) ≡ (a || (a || b))
or_same true b = refl
or_same false b = refl

or_swap : (a b r : Bool) → (a || (b || r)) ≡ (b || (a || r))
or_swap true true r = refl
or_swap true false r = refl
or_swap false true r = refl
or_swap false false r = refl

or_assoc : (a b r : Bool) → ((a || b) || r) ≡ (a || (b || r))
or_assoc true b r = refl
or_assoc false b r = refl

none_passes : {K : Type 0} (test : K → Bool) (ks : List K) → list_any test ks ≡ false
    → AllByRecursion (λ k. test k ≡ false) ks
none_passes test [] none = tt
none_passes test (k ∷ ks) none = elim (cases_Bool (test k)) [
  | inl passes ↦ absurd (cc (rw passes at none))
  | inr fails ↦ (fails, none_passes test ks (rw fails at none))
]

module _ {K : Type 0} (c : K → K → Ordering) (o : IsTotalOrder c) where
  -- the keys with one more
  pub has_key-with_key : (ks : List K) (k q : K) → has_key c (with_key c ks k) q ≡ (is_at (c q) k || has_key c ks q)
  has_key-with_key [] k q = refl
  has_key-with_key (x ∷ xs) k q = by_ordering (c k x)
      (λ l. rw l refl)
      (λ e.
      let eq = eq_by_cmp_equiv o in
      let same : is_at (c q) k ≡ is_at (c q) x = eq.symm q k ∙ eq.congr k x q (ap is_eq e) ∙ eq.symm x q in
      rw (e, same) (or_same (is_at (c q) x) (has_key c xs q)))
      (λ g. rw g (ap (λ b. is_at (c q) x || b) (has_key-with_key xs k q)
      ∙ or_swap (is_at (c q) x) (is_at (c q) k) (has_key c xs q)))

  -- and with those of a list
  pub has_key-with_keys : (ks set : List K) (q : K)
      → has_key c (with_keys c set ks) q ≡ (list_any (is_at (c q)) ks || has_key c set q)
  has_key-with_keys [] set q = refl
  has_key-with_keys (k ∷ ks) set q =
      has_key-with_keys ks (with_key c set k) q
      ∙ ap (λ b. list_any (is_at (c q)) ks || b) (has_key-with_key set k q)
      ∙ or_swap (list_any (is_at (c q)) ks) (is_at (c q) k) (has_key c set q)
      ∙ sym (or_assoc (is_at (c q) k) (list_any (is_at (c q)) ks) (has_key c set q))

  after-with_key : (x : K) (ks : List K) (k : K) → c x k ≡ Less → AllByRecursion (λ y. c x y ≡ Less) ks
      → AllByRecursion (λ y. c x y ≡ Less) (with_key c ks k)
  after-with_key x [] k less all = (less, tt)
  after-with_key x (y ∷ ks) k less all = by_ordering (c k y)
      (λ l. rw l (less, all))
      (λ e. rw e all)
      (λ g. rw g (all.0, after-with_key x ks k less all.1))

  after_less : (k x : K) (ks : List K) → c k x ≡ Less → AllByRecursion (λ y. c x y ≡ Less) ks
      → AllByRecursion (λ y. c k y ≡ Less) ks
  after_less k x [] less all = tt
  after_less k x (y ∷ ks) less all = (o.trans k x y less all.0, after_less k x ks less all.1)

  -- the keys rise
  pub IsStrictlySortedBy-with_key : (ks : List K) (k : K) → IsStrictlySortedBy c ks
      → IsStrictlySortedBy c (with_key c ks k)
  unfolding IsStrictlySortedBy
  IsStrictlySortedBy-with_key [] k rises = (tt, tt)
  IsStrictlySortedBy-with_key (x ∷ ks) k rises = by_ordering (c k x)
      (λ l. rw l ((l, after_less k x ks l rises.0), rises))
      (λ e. rw e rises)
      (λ g. rw g (
        after-with_key x ks k (less_from_greater c o x k g) rises.0,
        IsStrictlySortedBy-with_key ks k rises.1,
      ))

  pub IsStrictlySortedBy-with_keys : (ks set : List K) → IsStrictlySortedBy c set
      → IsStrictlySortedBy c (with_keys c set ks)
  IsStrictlySortedBy-with_keys [] set rises = rises
  IsStrictlySortedBy-with_keys (k ∷ ks) set rises =
      IsStrictlySortedBy-with_keys ks (with_key c set k) (IsStrictlySortedBy-with_key set k rises)

  -- a set that another one has, and one key more, has more keys
  pub length-more : (xs ys : List K) (x : K) → IsStrictlySortedBy c xs → has_key c xs x ≡ false
      → has_key c ys x ≡ true → ((q : K) → has_key c xs q ≡ true → has_key c ys q ≡ true) → length xs < length ys
  unfolding IsDistinct
  length-more xs ys x rises absent here others =
      length-le_from_is_member (eq_by_cmp_equiv o) (x ∷ xs) ys
      (none_passes (is_at (c x)) xs absent, IsDistinct-from_sorted c xs rises) from
    where
      from : (q : K) → has_key c (x ∷ xs) q ≡ true → has_key c ys q ≡ true
      from q in_first = elim (cases_Bool (is_at (c q) x)) [
        | inl same ↦ list_any_congr (eq_by_cmp_equiv o) q x ys same ∙ here
        | inr other ↦ others q (rw other at in_first)
      ]

-- Lists of entries by rising key: what a write and a removal leave at other keys, and that lists with the same values
-- are the same.
use Rattle.std.proofs.Common.{◌≡◌, false, List, [], ◌∷◌, Option, Some, None, if◌then◌else◌, refl, ◌∙◌, ap, sym}
use Rattle.std.specs.Cmp.{IsTotalOrder}
use Rattle.std.specs.Ordering.{is_eq}
use Rattle.std.specs.declared.cmp.Ordering.{Ordering}
use Rattle.std.specs.declared.cmp.Ordering.TheVariants.{Less, Equal, Greater}
use Rattle.std.proofs.lemmas.Cmp.{tied_itself, alike_right}
use Rattle.xb_words.specs.Table.{value_at, with_value, without, IsRising}
use Rattle.xb_words.proofs.TableSplitLemmas.{Each-congr, Each-trans, IsRising-head, IsRising-tail, less_from_greater}
use Rattle.xb_words.proofs.TableSplitLemmas.{value_at-above}

-- an ordering is one of three
pub by_ordering : {P : Type 0} (r : Ordering) → (r ≡ Less → P) → (r ≡ Equal → P) → (r ≡ Greater → P) → P
by_ordering Less l e g = l refl
by_ordering Equal l e g = e refl
by_ordering Greater l e g = g refl

module _ {K : Type 0} (c : K → K → Ordering) (o : IsTotalOrder c) where
  -- a key that is not equal to one is not equal to what that one is equal to
  apart : (q k x : K) → is_eq (c q k) ≡ false → c k x ≡ Equal → is_eq (c q x) ≡ false
  apart q k x other same = ap is_eq (sym (alike_right o k x q same)) ∙ other

module _ {K X : Type 0} (c : K → K → Ordering) (o : IsTotalOrder c) where
  -- a write changes no other value
  pub value_at-with_value-other : (es : List (K × X)) (k q : K) (v : X) → is_eq (c q k) ≡ false
      → value_at c (with_value c es k v) q ≡ value_at c es q
  value_at-with_value-other [] k q v other = rw other refl
  value_at-with_value-other (e ∷ es) k q v other = by_ordering (c k e.0)
      (λ l. rw (l, other) refl)
      (λ same. rw (same, apart c o q k e.0 other same) refl)
      (λ g. rw g (ap (λ (x : Option X). if is_eq (c q e.0) then Some e.1 else x)
      (value_at-with_value-other es k q v other)))

  -- a removed key has no value
  pub value_at-without : (es : List (K × X)) (k : K) → IsRising c es → value_at c (without c es k) k ≡ None
  value_at-without [] k rising = refl
  value_at-without (e ∷ es) k rising = by_ordering (c k e.0)
      (λ l. rw (l, l) (value_at-without es k (IsRising-tail c o e es rising)))
      (λ same. rw same (value_at-above c o k es (Each-congr c o k e es same (IsRising-head c o e es rising))))
      (λ g. rw (g, g) (value_at-without es k (IsRising-tail c o e es rising)))

  -- a removal changes no other value
  pub value_at-without-other : (es : List (K × X)) (k q : K) → is_eq (c q k) ≡ false
      → value_at c (without c es k) q ≡ value_at c es q
  value_at-without-other [] k q other = refl
  value_at-without-other (e ∷ es) k q other =
      let more = ap (λ (x : Option X). if is_eq (c q e.0) then Some e.1 else x) (value_at-without-other es k q other) in
      by_ordering (c k e.0)
      (λ l. rw l more)
      (λ same. rw (same, apart c o q k e.0 other same) refl)
      (λ g. rw g more)

  -- a key below all entries has no value, so it is no key of a list with the same values
  not_first : {P : Type 0} (x : K × X) (xs : List (K × X)) (y : K × X) (ys : List (K × X)) → c x.0 y.0 ≡ Less
      → IsRising c (y ∷ ys) → value_at c (x ∷ xs) x.0 ≡ value_at c (y ∷ ys) x.0 → P
  not_first x xs y ys l ry same =
      let none : value_at c (y ∷ ys) x.0 ≡ None =
      value_at-above c o x.0 (y ∷ ys) (l, Each-trans c o x.0 y ys l (IsRising-head c o y ys ry)) in
      let some : Some x.1 ≡ value_at c (y ∷ ys) x.0 = rw (tied_itself o x.0) at same in
      absurd (cc (some, none))

  -- values after the first entries, whose keys are equal, are the same
  same_after : (x : K × X) (xs : List (K × X)) (y : K × X) (ys : List (K × X)) (k : K) → c x.0 y.0 ≡ Equal
      → IsRising c (x ∷ xs) → IsRising c (y ∷ ys) → value_at c (x ∷ xs) k ≡ value_at c (y ∷ ys) k
      → value_at c xs k ≡ value_at c ys k
  same_after x xs y ys k e rx ry same =
      let alike : c k x.0 ≡ c k y.0 = alike_right o x.0 y.0 k e in
      let past : (r : Ordering) → c k x.0 ≡ r → is_eq r ≡ false → value_at c xs k ≡ value_at c ys k =
      λ r is other. rw (sym alike ∙ is, is, other) at same in
      by_ordering (c k x.0)
      (λ l. past Less l refl)
      (λ here. value_at-above c o k xs (Each-congr c o k x xs here (IsRising-head c o x xs rx))
      ∙ sym (value_at-above c o k ys (Each-congr c o k y ys (sym alike ∙ here) (IsRising-head c o y ys ry))))
      (λ g. past Greater g refl)

  -- lists with the same values are the same
  pub same_values : ((x y : K) → c x y ≡ Equal → x ≡ y) → (xs ys : List (K × X)) → IsRising c xs → IsRising c ys
      → ((k : K) → value_at c xs k ≡ value_at c ys k) → xs ≡ ys
  same_values exact [] [] rx ry same = refl
  same_values exact [] (y ∷ ys) rx ry same =
      let here : None ≡ value_at c (y ∷ ys) y.0 = same y.0 in
      let none : None ≡ Some y.1 = rw (tied_itself o y.0) at here in
      absurd (cc none)
  same_values exact (x ∷ xs) [] rx ry same =
      let here : value_at c (x ∷ xs) x.0 ≡ None = same x.0 in
      let none : Some x.1 ≡ None = rw (tied_itself o x.0) at here in
      absurd (cc none)
  same_values exact (x ∷ xs) (y ∷ ys) rx ry same = by_ordering (c x.0 y.0)
      (λ l. not_first x xs y ys l ry (same x.0))
      (λ e.
      let key : x.0 ≡ y.0 = exact x.0 y.0 e in
      let here : value_at c (x ∷ xs) x.0 ≡ value_at c (y ∷ ys) x.0 = same x.0 in
      let found : Some x.1 ≡ Some y.1 = rw (tied_itself o x.0, e) at here in
      let value : x.1 ≡ y.1 = cc found in
      let first : x ≡ y = λ i. (key i, value i) in
      let rest : xs ≡ ys = same_values exact xs ys (IsRising-tail c o x xs rx) (IsRising-tail c o y ys ry)
      (λ k. same_after x xs y ys k e rx ry (same k)) in
      λ i. first i ∷ rest i)
      (λ g. not_first y ys x xs (less_from_greater c o y.0 x.0 g) rx (sym (same y.0)))

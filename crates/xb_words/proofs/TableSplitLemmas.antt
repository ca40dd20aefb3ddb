-- A list of entries by rising key that is split at one entry, as a search tree splits it: what a look-up, a write, a
-- removal and a walk do in it is what they do on one side of the split.
use Rattle.std.proofs.Common.{◌≡◌, Bool, true, false, cond, List, [], ◌∷◌, ◌++◌, Option, Some, None, refl, ◌∙◌, ap}
use Rattle.std.specs.Cmp.{IsTotalOrder}
use Rattle.std.specs.List.{AllByRecursion}
use Rattle.std.specs.List.Sorted.{IsStrictlySortedBy}
use Rattle.std.specs.Map.{keys_of}
use Rattle.std.specs.Ordering.{is_lt, is_eq, ordering_reverse, match_ordering}
use Rattle.std.specs.declared.cmp.Ordering.{Ordering}
use Rattle.std.specs.declared.cmp.Ordering.TheVariants.{Less, Equal, Greater}
use Rattle.std.proofs.lemmas.Cmp.{alike_right}
use Rattle.xb_words.specs.Table.{value_at, with_value, without, entries_after, entry_after, first_of, IsRising}

-- the first if it is an entry, and else the other
abbrev pub or_entry : {A : Type 0} → Option A → A → Option A
or_entry None e = Some e
or_entry (Some f) e = Some f

module _ {K : Type 0} (c : K → K → Ordering) (o : IsTotalOrder c) where
  -- an order turned round
  pub less_from_greater : (x k : K) → c k x ≡ Greater → c x k ≡ Less
  less_from_greater x k h = o.antisymm x k ∙ ap ordering_reverse h

  greater_from_less : (x k : K) → c k x ≡ Less → c x k ≡ Greater
  greater_from_less x k h = o.antisymm x k ∙ ap ordering_reverse h

module _ {K X : Type 0} (c : K → K → Ordering) (o : IsTotalOrder c) where
  -- each key is one to which q compares as r
  abbrev pub Each : Ordering → K → List (K × X) → Type 0
  Each r q es = AllByRecursion (λ (e : K × X). c q e.0 ≡ r) es

  -- the key of the first entry is below all others
  pub IsRising-head : (e : K × X) (es : List (K × X)) → IsRising c (e ∷ es) → Each Less e.0 es
  unfolding IsStrictlySortedBy
  IsRising-head e es rising = of_keys es rising.0
    where
      of_keys : (fs : List (K × X)) → AllByRecursion (λ y. c e.0 y ≡ Less) (keys_of fs) → Each Less e.0 fs
      of_keys [] a = tt
      of_keys (f ∷ fs) a = (a.0, of_keys fs a.1)

  -- the keys of the other entries rise
  pub IsRising-tail : (e : K × X) (es : List (K × X)) → IsRising c (e ∷ es) → IsRising c es
  unfolding IsStrictlySortedBy
  IsRising-tail e es rising = rising.1

  -- an entry below all others may come first
  pub IsRising-cons : (e : K × X) (es : List (K × X)) → Each Less e.0 es → IsRising c es → IsRising c (e ∷ es)
  unfolding IsStrictlySortedBy
  IsRising-cons e es each rising = (to_keys es each, rising)
    where
      to_keys : (fs : List (K × X)) → Each Less e.0 fs → AllByRecursion (λ y. c e.0 y ≡ Less) (keys_of fs)
      to_keys [] a = tt
      to_keys (f ∷ fs) a = (a.0, to_keys fs a.1)

  each_left : (r : Ordering) (q : K) (ls es : List (K × X)) → Each r q (ls ++ es) → Each r q ls
  each_left r q [] es a = tt
  each_left r q (l ∷ ls) es a = (a.0, each_left r q ls es a.1)

  each_right : (r : Ordering) (q : K) (ls es : List (K × X)) → Each r q (ls ++ es) → Each r q es
  each_right r q [] es a = a
  each_right r q (l ∷ ls) es a = each_right r q ls es a.1

  -- the keys of the entries before a split rise
  pub IsRising-left : (ls es : List (K × X)) → IsRising c (ls ++ es) → IsRising c ls
  unfolding IsStrictlySortedBy
  IsRising-left [] es rising = tt
  IsRising-left (l ∷ ls) es rising =
      IsRising-cons l ls (each_left Less l.0 ls es (IsRising-head l (ls ++ es) rising))
      (IsRising-left ls es (IsRising-tail l (ls ++ es) rising))

  rising_rest : (ls es : List (K × X)) → IsRising c (ls ++ es) → IsRising c es
  rising_rest [] es rising = rising
  rising_rest (l ∷ ls) es rising = rising_rest ls es (IsRising-tail l (ls ++ es) rising)

  -- the keys of the entries after a split rise
  pub IsRising-right : (ls : List (K × X)) (e : K × X) (rs : List (K × X)) → IsRising c (ls ++ e ∷ rs) → IsRising c rs
  IsRising-right ls e rs rising = IsRising-tail e rs (rising_rest ls (e ∷ rs) rising)

  -- a key that is below an entry is below all after it
  pub Each-trans : (q : K) (e : K × X) (rs : List (K × X)) → c q e.0 ≡ Less → Each Less e.0 rs → Each Less q rs
  Each-trans q e [] less a = tt
  Each-trans q e (r ∷ rs) less a = (o.trans q e.0 r.0 less a.0, Each-trans q e rs less a.1)

  -- a key that is equal to that of an entry is below all after it
  pub Each-congr : (q : K) (e : K × X) (rs : List (K × X)) → c q e.0 ≡ Equal → Each Less e.0 rs → Each Less q rs
  Each-congr q e [] same a = tt
  Each-congr q e (r ∷ rs) same a = (o.congr q e.0 r.0 same ∙ a.0, Each-congr q e rs same a.1)

  -- a key that is not below an entry is above all before it
  past_greater : (q : K) (ls : List (K × X)) (e : K × X) (rs : List (K × X)) → c q e.0 ≡ Greater
      → IsRising c (ls ++ e ∷ rs) → Each Greater q ls
  past_greater q [] e rs more rising = tt
  past_greater q (l ∷ ls) e rs more rising =
      let before = each_right Less l.0 ls (e ∷ rs) (IsRising-head l (ls ++ e ∷ rs) rising) in (
        greater_from_less c o q l.0 (o.trans l.0 e.0 q before.0 (less_from_greater c o e.0 q more)),
        past_greater q ls e
            rs more (IsRising-tail l (ls ++ e ∷ rs) rising),
      )

  past_equal : (q : K) (ls : List (K × X)) (e : K × X) (rs : List (K × X)) → c q e.0 ≡ Equal → IsRising c (ls ++ e ∷ rs)
      → Each Greater q ls
  past_equal q [] e rs same rising = tt
  past_equal q (l ∷ ls) e rs same rising =
      let before = each_right Less l.0 ls (e ∷ rs) (IsRising-head l (ls ++ e ∷ rs) rising) in (
        greater_from_less c o q l.0 (alike_right o q e.0 l.0 same ∙ before.0),
        past_equal q ls e rs same
            (IsRising-tail l (ls ++ e ∷ rs) rising),
      )

  before_less : (q : K) (ls : List (K × X)) (e : K × X) (rs : List (K × X)) → c q e.0 ≡ Less → IsRising c (ls ++ e ∷ rs)
      → Each Less q rs
  before_less q ls e rs less rising = Each-trans q e rs less (IsRising-head e rs (rising_rest ls (e ∷ rs) rising))

  -- past entries that are all below the key
  value_past : (q : K) (ls es : List (K × X)) → Each Greater q ls → value_at c (ls ++ es) q ≡ value_at c es q
  value_past q [] es a = refl
  value_past q (l ∷ ls) es a = rw a.0 (value_past q ls es a.1)

  with_past : (q : K) (v : X) (ls es : List (K × X)) → Each Greater q ls
      → with_value c (ls ++ es) q v ≡ ls ++ with_value c es q v
  with_past q v [] es a = refl
  with_past q v (l ∷ ls) es a = rw a.0 (ap (λ (t : List (K × X)). l ∷ t) (with_past q v ls es a.1))

  without_past : (q : K) (ls es : List (K × X)) → Each Greater q ls → without c (ls ++ es) q ≡ ls ++ without c es q
  without_past q [] es a = refl
  without_past q (l ∷ ls) es a = rw a.0 (ap (λ (t : List (K × X)). l ∷ t) (without_past q ls es a.1))

  after_past : (q : K) (ls es : List (K × X)) → Each Greater q ls
      → entry_after c (ls ++ es) (Some q) ≡ entry_after c es (Some q)
  after_past q [] es a = refl
  after_past q (l ∷ ls) es a = rw a.0 (after_past q ls es a.1)

  -- entries that are all above the key have no entry at it, and are all after it
  pub value_at-above : (q : K) (es : List (K × X)) → Each Less q es → value_at c es q ≡ None
  value_at-above q [] a = refl
  value_at-above q (e ∷ es) a = rw a.0 (value_at-above q es a.1)

  without_above : (q : K) (es : List (K × X)) → Each Less q es → without c es q ≡ es
  without_above q [] a = refl
  without_above q (e ∷ es) a = rw a.0 (ap (λ (t : List (K × X)). e ∷ t) (without_above q es a.1))

  -- a split at an entry above the key
  value_up_to : (q : K) (ls es : List (K × X)) → Each Less q es → value_at c (ls ++ es) q ≡ value_at c ls q
  value_up_to q [] es a = value_at-above q es a
  value_up_to q (l ∷ ls) es a = ap (λ (t : Option X). cond (is_eq (c q l.0)) (Some l.1) t) (value_up_to q ls es a)

  with_up_to : (q : K) (v : X) (ls : List (K × X)) (e : K × X) (rs : List (K × X)) → c q e.0 ≡ Less
      → with_value c (ls ++ e ∷ rs) q v ≡ with_value c ls q v ++ e ∷ rs
  with_up_to q v [] e rs less = rw less refl
  with_up_to q v (l ∷ ls) e rs less = by (c q l.0) (with_up_to q v ls e rs less)
    where
      by : (r : Ordering) → with_value c (ls ++ e ∷ rs) q v ≡ with_value c ls q v ++ e ∷ rs
          → match_ordering r ((q, v) ∷ l ∷ (ls ++ e ∷ rs)) ((l.0, v) ∷ (ls ++ e ∷ rs))
          (l ∷ with_value c (ls ++ e ∷ rs) q v)
          ≡ match_ordering r ((q, v) ∷ l ∷ ls) ((l.0, v) ∷ ls) (l ∷ with_value c ls q v) ++ e ∷ rs
      by Less h = refl
      by Equal h = refl
      by Greater h = ap (λ (t : List (K × X)). l ∷ t) h

  without_up_to : (q : K) (ls es : List (K × X)) → Each Less q es → without c (ls ++ es) q ≡ without c ls q ++ es
  without_up_to q [] es a = without_above q es a
  without_up_to q (l ∷ ls) es a = by (is_eq (c q l.0)) (without_up_to q ls es a)
    where
      by : (b : Bool) → without c (ls ++ es) q ≡ without c ls q ++ es
          → cond b (ls ++ es) (l ∷ without c (ls ++ es) q) ≡ cond b ls (l ∷ without c ls q) ++ es
      by true h = refl
      by false h = ap (λ (t : List (K × X)). l ∷ t) h

  after_up_to : (q : K) (ls : List (K × X)) (e : K × X) (rs : List (K × X)) → c q e.0 ≡ Less
      → entry_after c (ls ++ e ∷ rs) (Some q) ≡ or_entry (entry_after c ls (Some q)) e
  after_up_to q [] e rs less = rw less refl
  after_up_to q (l ∷ ls) e rs less = by (is_lt (c q l.0)) (after_up_to q ls e rs less)
    where
      by : (b : Bool) → entry_after c (ls ++ e ∷ rs) (Some q) ≡ or_entry (entry_after c ls (Some q)) e
          → first_of (cond b (l ∷ entries_after c (ls ++ e ∷ rs) (Some q)) (entries_after c (ls ++ e ∷ rs) (Some q)))
          ≡ or_entry (first_of (cond b (l ∷ entries_after c ls (Some q)) (entries_after c ls (Some q)))) e
      by true h = refl
      by false h = h

  -- a look-up at a key below the entry of the split is one among the entries before it
  pub value_at-less : (q : K) (ls : List (K × X)) (e : K × X) (rs : List (K × X)) → c q e.0 ≡ Less
      → IsRising c (ls ++ e ∷ rs) → value_at c (ls ++ e ∷ rs) q ≡ value_at c ls q
  value_at-less q ls e rs less rising = value_up_to q ls (e ∷ rs) (less, before_less q ls e rs less rising)

  -- a look-up at the key of the entry of the split concerns that entry alone
  pub value_at-equal : (q : K) (ls : List (K × X)) (e : K × X) (rs : List (K × X)) → c q e.0 ≡ Equal
      → IsRising c (ls ++ e ∷ rs) → value_at c (ls ++ e ∷ rs) q ≡ Some e.1
  value_at-equal q ls e rs same rising = value_past q ls (e ∷ rs) (past_equal q ls e rs same rising) ∙ rw same refl

  -- a look-up at a key above the entry of the split is one among the entries after it
  pub value_at-greater : (q : K) (ls : List (K × X)) (e : K × X) (rs : List (K × X)) → c q e.0 ≡ Greater
      → IsRising c (ls ++ e ∷ rs) → value_at c (ls ++ e ∷ rs) q ≡ value_at c rs q
  value_at-greater q ls e rs more rising = value_past q ls (e ∷ rs) (past_greater q ls e rs more rising) ∙ rw more refl

  -- a write at a key below the entry of the split is one among the entries before it
  pub with_value-less : (q : K) (v : X) (ls : List (K × X)) (e : K × X) (rs : List (K × X)) → c q e.0 ≡ Less
      → with_value c (ls ++ e ∷ rs) q v ≡ with_value c ls q v ++ e ∷ rs
  with_value-less q v ls e rs less = with_up_to q v ls e rs less

  -- a write at the key of the entry of the split concerns that entry alone
  pub with_value-equal : (q : K) (v : X) (ls : List (K × X)) (e : K × X) (rs : List (K × X)) → c q e.0 ≡ Equal
      → IsRising c (ls ++ e ∷ rs) → with_value c (ls ++ e ∷ rs) q v ≡ ls ++ (e.0, v) ∷ rs
  with_value-equal q v ls e rs same rising = with_past q v ls (e ∷ rs) (past_equal q ls e rs same rising) ∙ rw same refl

  -- a write at a key above the entry of the split is one among the entries after it
  pub with_value-greater : (q : K) (v : X) (ls : List (K × X)) (e : K × X) (rs : List (K × X)) → c q e.0 ≡ Greater
      → IsRising c (ls ++ e ∷ rs) → with_value c (ls ++ e ∷ rs) q v ≡ ls ++ e ∷ with_value c rs q v
  with_value-greater q v ls e rs more rising =
      with_past q v ls (e ∷ rs) (past_greater q ls e rs more rising) ∙ rw more refl

  -- a removal at a key below the entry of the split is one among the entries before it
  pub without-less : (q : K) (ls : List (K × X)) (e : K × X) (rs : List (K × X)) → c q e.0 ≡ Less
      → IsRising c (ls ++ e ∷ rs) → without c (ls ++ e ∷ rs) q ≡ without c ls q ++ e ∷ rs
  without-less q ls e rs less rising = without_up_to q ls (e ∷ rs) (less, before_less q ls e rs less rising)

  -- a removal at the key of the entry of the split concerns that entry alone
  pub without-equal : (q : K) (ls : List (K × X)) (e : K × X) (rs : List (K × X)) → c q e.0 ≡ Equal
      → IsRising c (ls ++ e ∷ rs) → without c (ls ++ e ∷ rs) q ≡ ls ++ rs
  without-equal q ls e rs same rising = without_past q ls (e ∷ rs) (past_equal q ls e rs same rising) ∙ rw same refl

  -- a removal at a key above the entry of the split is one among the entries after it
  pub without-greater : (q : K) (ls : List (K × X)) (e : K × X) (rs : List (K × X)) → c q e.0 ≡ Greater
      → IsRising c (ls ++ e ∷ rs) → without c (ls ++ e ∷ rs) q ≡ ls ++ e ∷ without c rs q
  without-greater q ls e rs more rising = without_past q ls (e ∷ rs) (past_greater q ls e rs more rising) ∙ rw more refl

  -- the entry after a key below the entry of the split is one before it, or that entry itself
  pub entry_after-less : (q : K) (ls : List (K × X)) (e : K × X) (rs : List (K × X)) → c q e.0 ≡ Less
      → entry_after c (ls ++ e ∷ rs) (Some q) ≡ or_entry (entry_after c ls (Some q)) e
  entry_after-less q ls e rs less = after_up_to q ls e rs less

  -- the entry after the key of the entry of the split is the first after it
  pub entry_after-equal : (q : K) (ls : List (K × X)) (e : K × X) (rs : List (K × X)) → c q e.0 ≡ Equal
      → IsRising c (ls ++ e ∷ rs) → entry_after c (ls ++ e ∷ rs) (Some q) ≡ entry_after c rs (Some q)
  entry_after-equal q ls e rs same rising = after_past q ls (e ∷ rs) (past_equal q ls e rs same rising) ∙ rw same refl

  -- the entry after a key above the entry of the split is one after it
  pub entry_after-greater : (q : K) (ls : List (K × X)) (e : K × X) (rs : List (K × X)) → c q e.0 ≡ Greater
      → IsRising c (ls ++ e ∷ rs) → entry_after c (ls ++ e ∷ rs) (Some q) ≡ entry_after c rs (Some q)
  entry_after-greater q ls e rs more rising =
      after_past q ls (e ∷ rs) (past_greater q ls e rs more rising) ∙ rw more refl

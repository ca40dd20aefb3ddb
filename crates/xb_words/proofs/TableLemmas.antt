-- What a write and a removal do to a list of entries by rising key, that each is undone by the other, and how the list
-- is walked from each key to the next.
use Rattle.std.proofs.Common.{◌≡◌, inl, inr, true, suc, List, [], ◌∷◌, length, Option, Some, None, filter, refl, sym}
use Rattle.std.proofs.Common.{◌∙◌, ap, subst}
use Rattle.std.specs.Cmp.{IsTotalOrder}
use Rattle.std.specs.List.{AllByRecursion}
use Rattle.std.specs.List.Sorted.{IsStrictlySortedBy}
use Rattle.std.specs.Map.{keys_of}
use Rattle.std.specs.Ordering.{is_lt, ordering_reverse}
use Rattle.std.specs.declared.cmp.Ordering.{Ordering}
use Rattle.std.specs.declared.cmp.Ordering.TheVariants.{Less, Equal, Greater}
use Rattle.std.proofs.lemmas.Bool.{cases_Bool}
use Rattle.std.proofs.lemmas.Cmp.{tied_itself}
use Rattle.xb_words.specs.Table.{value_at, with_value, without, entries_after, entry_after, first_of, IsRising}
use Rattle.xb_words.proofs.TableSplitLemmas.{Each, IsRising-head, IsRising-tail, IsRising-cons, Each-trans, Each-congr}
use Rattle.xb_words.proofs.TableSplitLemmas.{value_at-above, less_from_greater}

-- an ordering is one of three
by_ordering : {P : Type 0} (r : Ordering) → (r ≡ Less → P) → (r ≡ Equal → P) → (r ≡ Greater → P) → P
by_ordering Less l e g = l refl
by_ordering Equal l e g = e refl
by_ordering Greater l e g = g refl

module _ {K X : Type 0} (c : K → K → Ordering) where
  -- a property of all entries stays if the written entry has it
  pub AllByRecursion-with_value : (P : K × X → Type 0) (es : List (K × X)) (k : K) (v : X) → P (k, v)
      → ((e : K × X) → c k e.0 ≡ Equal → P e → P (e.0, v)) → AllByRecursion P es
      → AllByRecursion P (with_value c es k v)
  AllByRecursion-with_value P [] k v new same a = (new, tt)
  AllByRecursion-with_value P (e ∷ es) k v new same a = by_ordering (c k e.0)
      (λ l. rw l (new, a))
      (λ q. rw q (same e q a.0, a.1))
      (λ g. rw g (a.0, AllByRecursion-with_value P es k v new same a.1))

  -- and after a removal
  pub AllByRecursion-without : (P : K × X → Type 0) (es : List (K × X)) (k : K) → AllByRecursion P es
      → AllByRecursion P (without c es k)
  AllByRecursion-without P [] k a = tt
  AllByRecursion-without P (e ∷ es) k a = by_ordering (c k e.0)
      (λ l. rw l (a.0, AllByRecursion-without P es k a.1))
      (λ q. rw q a.1)
      (λ g. rw g (a.0, AllByRecursion-without P es k a.1))

  -- a look-up finds one of the entries
  pub value_at-some : (P : K × X → Type 0) (es : List (K × X)) (k : K) (w : X) → AllByRecursion P es
      → value_at c es k ≡ Some w → (x : K) × (c k x ≡ Equal) × P (x, w)
  value_at-some P [] k w a there = absurd (cc there)
  value_at-some P (e ∷ es) k w a there = by_ordering (c k e.0)
      (λ l. value_at-some P es k w a.1 (rw l at there))
      (λ q. let same : e.1 ≡ w = cc (rw q at there) in (e.0, q, subst (λ (x : X). P (e.0, x)) same a.0))
      (λ g. value_at-some P es k w a.1 (rw g at there))

  -- a write at a new key makes one entry more
  pub length-with_value-new : (es : List (K × X)) (k : K) (v : X) → value_at c es k ≡ None
      → length (with_value c es k v) ≡ suc (length es)
  length-with_value-new [] k v absent = refl
  length-with_value-new (e ∷ es) k v absent = by_ordering (c k e.0)
      (λ l. rw l refl)
      (λ q. absurd (cc (rw q at absent)))
      (λ g. rw g (ap suc (length-with_value-new es k v (rw g at absent))))

  -- a removal makes one entry fewer
  pub length-without : (es : List (K × X)) (k : K) (w : X) → value_at c es k ≡ Some w
      → suc (length (without c es k)) ≡ length es
  length-without [] k w there = absurd (cc there)
  length-without (e ∷ es) k w there = by_ordering (c k e.0)
      (λ l. rw l (ap suc (length-without es k w (rw l at there))))
      (λ q. rw q refl)
      (λ g. rw g (ap suc (length-without es k w (rw g at there))))

  -- a removal of an absent key changes nothing
  pub without-absent : (es : List (K × X)) (k : K) → value_at c es k ≡ None → without c es k ≡ es
  without-absent [] k absent = refl
  without-absent (e ∷ es) k absent = by_ordering (c k e.0)
      (λ l. rw l (ap (λ (t : List (K × X)). e ∷ t) (without-absent es k (rw l at absent))))
      (λ q. absurd (cc (rw q at absent)))
      (λ g. rw g (ap (λ (t : List (K × X)). e ∷ t) (without-absent es k (rw g at absent))))

module _ {K X : Type 0} (c : K → K → Ordering) (o : IsTotalOrder c) where
  each_with : (x : K) (es : List (K × X)) (k : K) (v : X) → c x k ≡ Less → Each c o Less x es
      → Each c o Less x (with_value c es k v)
  each_with x es k v below each =
      AllByRecursion-with_value c (λ (e : K × X). c x e.0 ≡ Less) es k v below (λ e q h. h) each

  each_without : (x : K) (es : List (K × X)) (k : K) → Each c o Less x es → Each c o Less x (without c es k)
  each_without x es k each = AllByRecursion-without c (λ (e : K × X). c x e.0 ≡ Less) es k each

  -- the keys rise after a write
  pub IsRising-with_value : (es : List (K × X)) (k : K) (v : X) → IsRising c es → IsRising c (with_value c es k v)
  IsRising-with_value [] k v rising = IsRising-cons c o (k, v) [] tt rising
  IsRising-with_value (e ∷ es) k v rising =
      let first = IsRising-head c o e es rising in
      let rest = IsRising-tail c o e es rising in
      by_ordering (c k e.0)
      (λ l. rw l (IsRising-cons c o (k, v) (e ∷ es) (l, Each-trans c o k e es l first) rising))
      (λ q. rw q (IsRising-cons c o (e.0, v) es first rest))
      (λ g. rw g (IsRising-cons c o e (with_value c es k v) (each_with e.0 es k v (less_from_greater c o e.0 k g) first)
      (IsRising-with_value es k v rest)))

  -- the keys rise after a removal
  pub IsRising-without : (es : List (K × X)) (k : K) → IsRising c es → IsRising c (without c es k)
  IsRising-without [] k rising = rising
  IsRising-without (e ∷ es) k rising =
      let first = IsRising-head c o e es rising in
      let rest = IsRising-tail c o e es rising in
      let stays : IsRising c (e ∷ without c es k) = IsRising-cons c o e (without c es k) (each_without e.0 es k first)
      (IsRising-without es k rest) in
      by_ordering (c k e.0) (λ l. rw l stays) (λ q. rw q rest) (λ g. rw g stays)

  -- a present key is not below the first
  not_below : {P : Type 0} (e : K × X) (es : List (K × X)) (k : K) (w : X) → IsRising c (e ∷ es)
      → value_at c (e ∷ es) k ≡ Some w → c k e.0 ≡ Less → P
  not_below e es k w rising there l =
      let none : value_at c (e ∷ es) k ≡ None = value_at-above c o k (e ∷ es)
      (l, Each-trans c o k e es l (IsRising-head c o e es rising)) in
      absurd (cc (none, there))

  -- a property of all entries stays if a value that has it is written over another
  pub AllByRecursion-with_value-over : (P : K × X → Type 0) (es : List (K × X)) (k : K) (v w : X) → IsRising c es
      → value_at c es k ≡ Some w → ((e : K × X) → P e → P (e.0, v)) → AllByRecursion P es
      → AllByRecursion P (with_value c es k v)
  AllByRecursion-with_value-over P [] k v w rising there stays a = absurd (cc there)
  AllByRecursion-with_value-over P (e ∷ es) k v w rising there stays a = by_ordering (c k e.0)
      (λ l. not_below e es k w rising there l)
      (λ q. rw q (stays e a.0, a.1))
      (λ g. rw g (
        a.0,
        AllByRecursion-with_value-over P es k v w (IsRising-tail c o e es rising) (rw g at there) stays
            a.1,
      ))

  -- a write over a value makes no entry more
  pub length-with_value-over : (es : List (K × X)) (k : K) (v w : X) → IsRising c es → value_at c es k ≡ Some w
      → length (with_value c es k v) ≡ length es
  length-with_value-over [] k v w rising there = absurd (cc there)
  length-with_value-over (e ∷ es) k v w rising there = by_ordering (c k e.0)
      (λ l. not_below e es k w rising there l)
      (λ q. rw q refl)
      (λ g. rw g (ap suc (length-with_value-over es k v w (IsRising-tail c o e es rising) (rw g at there))))

  -- what was written is present
  pub value_at-with_value : (es : List (K × X)) (k : K) (v : X) → value_at c (with_value c es k v) k ≡ Some v
  value_at-with_value [] k v = rw (tied_itself o k) refl
  value_at-with_value (e ∷ es) k v = by_ordering (c k e.0)
      (λ l. rw (l, tied_itself o k) refl)
      (λ q. rw (q, q) refl)
      (λ g. rw (g, g) (value_at-with_value es k v))

  -- the removal of a new entry undoes its write
  pub without-with_value : (es : List (K × X)) (k : K) (v : X) → value_at c es k ≡ None
      → without c (with_value c es k v) k ≡ es
  without-with_value [] k v absent = rw (tied_itself o k) refl
  without-with_value (e ∷ es) k v absent = by_ordering (c k e.0)
      (λ l. rw (l, tied_itself o k) refl)
      (λ q. absurd (cc (rw q at absent)))
      (λ g. rw (g, g) (ap (λ (t : List (K × X)). e ∷ t) (without-with_value es k v (rw g at absent))))

  -- a write of the earlier value undoes a write over it
  pub with_value-with_value : (es : List (K × X)) (k : K) (v w : X) → IsRising c es → value_at c es k ≡ Some w
      → with_value c (with_value c es k v) k w ≡ es
  with_value-with_value [] k v w rising there = absurd (cc there)
  with_value-with_value (e ∷ es) k v w rising there = by_ordering (c k e.0)
      (λ l. not_below e es k w rising there l)
      (λ q. let same : e.1 ≡ w = cc (rw q at there) in rw (q, q) (ap (λ (x : X). (e.0, x) ∷ es) (sym same)))
      (λ g. rw (g, g) (ap (λ (t : List (K × X)). e ∷ t)
      (with_value-with_value es k v w (IsRising-tail c o e es rising) (rw g at there))))

  before_all : (es : List (K × X)) (k : K) (w : X) → Each c o Less k es → with_value c es k w ≡ (k, w) ∷ es
  before_all [] k w each = refl
  before_all (e ∷ es) k w each = rw each.0 refl

  -- a write of the earlier entry undoes its removal
  pub with_value-without : ((x y : K) → c x y ≡ Equal → x ≡ y) → (es : List (K × X)) (k : K) (w : X) → IsRising c es
      → value_at c es k ≡ Some w → with_value c (without c es k) k w ≡ es
  with_value-without exact [] k w rising there = absurd (cc there)
  with_value-without exact (e ∷ es) k w rising there = by_ordering (c k e.0)
      (λ l. not_below e es k w rising there l)
      (λ q.
      let same : e.1 ≡ w = cc (rw q at there) in
      let key : k ≡ e.0 = exact k e.0 q in
      let entry : (k, w) ∷ es ≡ e ∷ es = ap (λ (x : K). (x, w) ∷ es) key ∙ ap (λ (x : X). (e.0, x) ∷ es) (sym same) in
      rw q (before_all es k w (Each-congr c o k e es q (IsRising-head c o e es rising)) ∙ entry))
      (λ g. rw (g, g) (ap (λ (t : List (K × X)). e ∷ t)
      (with_value-without exact es k w (IsRising-tail c o e es rising) (rw g at there))))

is_less : (r : Ordering) → is_lt r ≡ true → r ≡ Less
is_less Less e = refl
is_less Equal e = absurd (cc e)
is_less Greater e = absurd (cc e)

first_is : {A : Type 0} (xs : List A) (x : A) → first_of xs ≡ Some x → (rest : List A) × (xs ≡ x ∷ rest)
first_is [] x e = absurd (cc e)
first_is (y ∷ ys) x e = let same : y ≡ x = cc e in (ys, ap (λ z. z ∷ ys) same)

first_none : {A : Type 0} (xs : List A) → first_of xs ≡ None → xs ≡ []
first_none [] e = refl
first_none (y ∷ ys) e = absurd (cc e)

module _ {K X : Type 0} (c : K → K → Ordering) (o : IsTotalOrder c) where
  abbrev above : K → List (K × X) → List (K × X)
  above p es = filter (λ e. is_lt (c p e.0)) es

  above_all : (p : K) (es : List (K × X)) → AllByRecursion (λ y. c p y ≡ Less) (keys_of es) → above p es ≡ es
  above_all p [] a = refl
  above_all p (e ∷ es) a = rw a.0 (ap (λ (l : List (K × X)). e ∷ l) (above_all p es a.1))

  all_past : (p x : K) (es : List (K × X)) → c p x ≡ Less → AllByRecursion (λ y. c x y ≡ Less) (keys_of es)
      → AllByRecursion (λ y. c p y ≡ Less) (keys_of es)
  all_past p x [] before a = tt
  all_past p x (e ∷ es) before a = (o.trans p x e.0 before a.0, all_past p x es before a.1)

  first_has : (P : K → Type 0) (p : K) (es r : List (K × X)) (e : K × X) → AllByRecursion P (keys_of es)
      → above p es ≡ e ∷ r → P e.0
  first_has P p [] r e a is = absurd (cc is)
  first_has P p (x ∷ es) r e a is = elim (cases_Bool (is_lt (c p x.0))) [
    | inl passes ↦
        let here : x ∷ above p es ≡ e ∷ r = rw passes at is in
        let same : x ≡ e = cc here in
        subst (λ (k : K × X). P k.0) same a.0
    | inr fails ↦ first_has P p es r e a.1 (rw fails at is)
  ]

  above_step : (p : K) (es r : List (K × X)) (e : K × X) → IsStrictlySortedBy c (keys_of es) → above p es ≡ e ∷ r
      → above e.0 es ≡ r
  unfolding IsStrictlySortedBy
  above_step p [] r e sorted is = absurd (cc is)
  above_step p (x ∷ es) r e sorted is = elim (cases_Bool (is_lt (c p x.0))) [
    | inl passes ↦
        let here : x ∷ above p es ≡ e ∷ r = rw passes at is in
        let same : x ≡ e = cc here in
        let rest : above p es ≡ r = cc here in
        let less : c p x.0 ≡ Less = is_less (c p x.0) passes in
        let all : r ≡ es = sym rest ∙ above_all p es (all_past p x.0 es less sorted.0) in
        let after_x : above x.0 (x ∷ es) ≡ r = rw (tied_itself o x.0) (above_all x.0 es sorted.0 ∙ sym all) in
        subst (λ (k : K × X). above k.0 (x ∷ es) ≡ r) same after_x
    | inr fails ↦
        let rest : above p es ≡ e ∷ r = rw fails at is in
        let before : c x.0 e.0 ≡ Less = first_has (λ y. c x.0 y ≡ Less) p es r e sorted.0 rest in
        let back : c e.0 x.0 ≡ Greater = o.antisymm e.0 x.0 ∙ ap ordering_reverse before in
        rw back (above_step p es r e sorted.1 rest)
  ]

  first_step : (es r : List (K × X)) (e : K × X) → IsStrictlySortedBy c (keys_of es) → es ≡ e ∷ r → above e.0 es ≡ r
  unfolding IsStrictlySortedBy
  first_step [] r e sorted is = absurd (cc is)
  first_step (x ∷ es) r e sorted is =
      let same : x ≡ e = cc is in
      let rest : es ≡ r = cc is in
      let after_x : above x.0 (x ∷ es) ≡ r = rw (tied_itself o x.0) (above_all x.0 es sorted.0 ∙ rest) in
      subst (λ (k : K × X). above k.0 (x ∷ es) ≡ r) same after_x

  entries_after-next : (es r : List (K × X)) (after : Option K) (e : K × X) → IsRising c es
      → entries_after c es after ≡ e ∷ r → entries_after c es (Some e.0) ≡ r
  entries_after-next es r None e rising is = first_step es r e rising is
  entries_after-next es r (Some p) e rising is = above_step p es r e rising is

  -- the entries after a key begin with the next entry and go on with the entries after that one
  pub entries_after-some : (es : List (K × X)) (after : Option K) (e : K × X) → IsRising c es
      → entry_after c es after ≡ Some e → entries_after c es after ≡ e ∷ entries_after c es (Some e.0)
  entries_after-some es after e rising is =
      let front = first_is (entries_after c es after) e is in
      front.1 ∙ ap (λ (l : List (K × X)). e ∷ l) (sym (entries_after-next es front.0 after e rising front.1))

  -- if there is no next entry, there are no entries after the key
  pub entries_after-none : (es : List (K × X)) (after : Option K) → entry_after c es after ≡ None
      → entries_after c es after ≡ []
  entries_after-none es after is = first_none (entries_after c es after) is

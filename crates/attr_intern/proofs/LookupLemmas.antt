-- Finite maps as entries by rising key: what a look-up finds after a write and a removal, that look-ups tell maps
-- apart.
use Rattle.std.proofs.Common.{◌≡◌, ◌≢◌, Bool, true, false, List, [], ◌∷◌, Some, None, cond}
use Rattle.std.proofs.Common.{refl}
use Rattle.std.proofs.Common.{sym, ap, ◌∙◌}
use Rattle.std.specs.Cmp.{IsTotalOrder}
use Rattle.std.specs.BTreeMap.{is_at}
use Rattle.std.specs.Map.{keys_of}
use Rattle.std.specs.Ordering.{is_eq, ordering_reverse, eq_by_cmp}
use Rattle.std.specs.declared.cmp.Ordering.{Ordering}
use Rattle.std.specs.declared.cmp.Ordering.TheVariants.{Less, Equal, Greater}
use Rattle.std.proofs.lemmas.Cmp.{tied_itself, eq_by_cmp_equiv}
use Rattle.std.proofs.lemmas.Map.{lookup-remove_entry}
use Rattle.std.proofs.lemmas.Map.Keys.{IsDistinct-from_sorted}
use Rattle.xb_words.specs.Table.{value_at, with_value, without, IsRising}
use Rattle.xb_words.proofs.TableSplitLemmas.{IsRising-head, IsRising-tail, Each-trans, Each-congr, value_at-above}
use Rattle.xb_words.proofs.TableSplitLemmas.{less_from_greater}

pub by_ordering : {P : Type 0} (r : Ordering) → (r ≡ Less → P) → (r ≡ Equal → P) → (r ≡ Greater → P) → P
by_ordering Less l e g = l refl
by_ordering Equal l e g = e refl
by_ordering Greater l e g = g refl

pub is_eq-false : (r : Ordering) → r ≢ Equal → is_eq r ≡ false
is_eq-false Less h = refl
is_eq-false Equal h = absurd (h refl)
is_eq-false Greater h = refl

-- in a choice by a test that fails, or of one value twice
cond-both : {X : Type 0} (b : Bool) (x y z : X) → y ≡ z → cond b x y ≡ cond b x z
cond-both b x y z e = ap (λ v. cond b x v) e

at_is : {K : Type 0} (c : K → K → Ordering) (o : IsTotalOrder c) (k x y : K) → is_at (c k) x ≡ true
    → is_at (c k) y ≡ eq_by_cmp c x y
at_is c o k x y e = by_ordering (c k x)
    (λ l. absurd (cc (rw l at e)))
    (λ t. ap is_eq (o.congr k x y t))
    (λ g. absurd (cc (rw g at e)))

module _ {K X : Type 0} (c : K → K → Ordering) (o : IsTotalOrder c) where
  -- a write leaves what is found at another key
  pub value_at-with_value-other : (es : List (K × X)) (k : K) (v : X) (q : K) → c q k ≢ Equal
      → value_at c (with_value c es k v) q ≡ value_at c es q
  value_at-with_value-other [] k v q apart = rw (is_eq-false (c q k) apart) refl
  value_at-with_value-other (e ∷ es) k v q apart = by_ordering (c k e.0)
      (λ l. rw (l, is_eq-false (c q k) apart) refl)
      (λ t.
      let other : c q e.0 ≢ Equal = λ same. apart (o.congr q e.0 k same ∙ o.antisymm e.0 k ∙ ap ordering_reverse t) in
      rw (t, is_eq-false (c q e.0) other) refl)
      (λ g. rw g (cond-both (is_eq (c q e.0)) (Some e.1) _ _ (value_at-with_value-other es k v q apart)))

  -- what is found after a removal
  pub value_at-without : (es : List (K × X)) (k q : K) → IsRising c es
      → value_at c (without c es k) q ≡ cond (is_eq (c k q)) None (value_at c es q)
  value_at-without es k q rising =
      lookup-remove_entry (eq_by_cmp_equiv o) (is_at (c k)) (at_is c o k) q es
      (IsDistinct-from_sorted c (keys_of es) rising)

  missed : (e f : K × X) (es fs : List (K × X)) → IsRising c (f ∷ fs) → c e.0 f.0 ≡ Less
      → value_at c (e ∷ es) e.0 ≡ value_at c (f ∷ fs) e.0 → e ∷ es ≡ f ∷ fs
  missed e f es fs rising less same =
      let none : value_at c (f ∷ fs) e.0 ≡ None =
      value_at-above c o e.0 (f ∷ fs) (less, Each-trans c o e.0 f fs less (IsRising-head c o f fs rising)) in
      let some : value_at c (e ∷ es) e.0 ≡ Some e.1 = rw (tied_itself o e.0) refl in
      absurd (cc (none, some, same))

  rest_found : (e f : K × X) (es fs : List (K × X)) (q : K) → IsRising c (e ∷ es) → IsRising c (f ∷ fs)
      → c e.0 f.0 ≡ Equal → c q e.0 ≡ c q f.0 → value_at c (e ∷ es) q ≡ value_at c (f ∷ fs) q
      → value_at c es q ≡ value_at c fs q
  rest_found e f es fs q r s t one same = by_ordering (c q e.0)
      (λ l. let also = sym one ∙ l in rw (l, also) at same)
      (λ h.
      let left : value_at c es q ≡ None =
      value_at-above c o q es (Each-congr c o q e es h (IsRising-head c o e es r)) in
      let right : value_at c fs q ≡ None =
      value_at-above c o q fs (Each-congr c o q f fs (sym one ∙ h) (IsRising-head c o f fs s)) in
      left ∙ sym right)
      (λ g. let also = sym one ∙ g in rw (g, also) at same)

  joined : (k l : K) (v w : X) (xs ys : List (K × X)) → k ≡ l → v ≡ w → xs ≡ ys → (k, v) ∷ xs ≡ (l, w) ∷ ys
  joined k l v w xs ys p q r = cc

  -- two maps are one if each look-up finds the same
  pub entries_from_value_at : ((x y : K) → c x y ≡ Equal → x ≡ y) → (es fs : List (K × X)) → IsRising c es
      → IsRising c fs → ((q : K) → value_at c es q ≡ value_at c fs q) → es ≡ fs
  entries_from_value_at exact [] [] r s same = refl
  entries_from_value_at exact [] (f ∷ fs) r s same = absurd (cc (rw (tied_itself o f.0) at (same f.0)))
  entries_from_value_at exact (e ∷ es) [] r s same = absurd (cc (rw (tied_itself o e.0) at (same e.0)))
  entries_from_value_at exact (e ∷ es) (f ∷ fs) r s same = by_ordering (c e.0 f.0)
      (λ l. missed e f es fs s l (same e.0))
      (λ t.
      let key : e.0 ≡ f.0 = exact e.0 f.0 t in
      let value : Some e.1 ≡ Some f.1 = rw (tied_itself o e.0, t) at (same e.0) in
      let rest : es ≡ fs = entries_from_value_at exact es fs (IsRising-tail c o e es r) (IsRising-tail c o f fs s)
      (λ q. rest_found e f es fs q r s t (ap (c q) key) (same q)) in
      joined e.0 f.0 e.1 f.1 es fs key (cc value) rest)
      (λ g. sym (missed f e fs es r (less_from_greater c o f.0 e.0 g) (sym (same f.0))))

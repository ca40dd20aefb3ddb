-- What a look-up, a write, a removal and a cut of a list of entries by rising key are by the index at which the key is,
-- or would be.
use Rattle.std.proofs.Common.{◌≡◌, ◌<◌, ◌≤◌, true, false, inl, inr, zero, suc, List, [], ◌∷◌, ◌++◌, length, take, drop}
use Rattle.std.proofs.Common.{Option, Some, None, ℕ, refl, sym, ◌∙◌, ap, arith}
use Rattle.std.proofs.Math.Numerals.{one-add}
use Rattle.std.specs.Prelude.{slice_get, slice_set, find, is_some, nat_lt, remove}
use Rattle.std.specs.List.{insert as list_insert}
use Rattle.std.specs.Option.{option_map}
use Rattle.std.specs.Cmp.{IsTotalOrder}
use Rattle.std.specs.Ordering.{is_gt, is_eq, ordering_reverse}
use Rattle.std.specs.declared.cmp.Ordering.{Ordering}
use Rattle.std.specs.declared.cmp.Ordering.TheVariants.{Less, Equal, Greater}
use Rattle.std.proofs.lemmas.Bool.{cases_Bool, ltb-true, ltb-false}
use Rattle.xb_words.specs.Table.{value_at, with_value, without, entry_after, IsRising}
use Rattle.xb_words.proofs.TableLemmas.{without-absent}
use Rattle.xb_words.proofs.TableSplitLemmas.{Each, Each-trans, IsRising-head, IsRising-tail, value_at-above}
use Rattle.xb_values.specs.Prefixes.{Prefix, prefix_cmp}
use Rattle.xb_values.proofs.PrefixLemmas.{prefix_total, prefix_exact}
use Rattle.rib_tree.proofs.AddressLemmas.{by_ordering, addresses_rise}
use Rattle.rib_tree.specs.Pages.{place_of, place_at, value_if, AllBelow, AllFrom}

module _ {K : Type 0} (c : K → K → Ordering) (o : IsTotalOrder c) where
  turned : (k x : K) (r : Ordering) → c k x ≡ r → c x k ≡ ordering_reverse r
  turned k x r h = o.antisymm x k ∙ ap ordering_reverse h

module _ {K X : Type 0} (c : K → K → Ordering) (o : IsTotalOrder c) where
  -- a key is looked up at its index
  pub value_at-place : (k : K) (es : List (K × X)) → IsRising c es
      → value_at c es k ≡ value_if c k (slice_get es (place_of c k es))
  value_at-place k [] rising = refl
  value_at-place k (e ∷ es) rising = by_ordering (c k e.0)
      (λ l. rw (turned c o k e.0 Less l, l)
      (value_at-above c o k es (Each-trans c o k e es l (IsRising-head c o e es rising))))
      (λ q. rw (turned c o k e.0 Equal q, q) refl)
      (λ g. rw (turned c o k e.0 Greater g, one-add (place_of c k es), g)
      (value_at-place k es (IsRising-tail c o e es rising)))

  -- a value that is there is replaced at that index
  pub with_value-there : ((x y : K) → c x y ≡ Equal → x ≡ y) → (k : K) (v : X) (es : List (K × X))
      → is_some (value_if c k (slice_get es (place_of c k es))) ≡ true
      → with_value c es k v ≡ slice_set es (place_of c k es) (k, v)
  with_value-there exact k v [] there = absurd (cc there)
  with_value-there exact k v (e ∷ es) there = by_ordering (c k e.0)
      (λ l. absurd (cc (rw (turned c o k e.0 Less l, l) at there)))
      (λ q. rw (turned c o k e.0 Equal q, q) (ap (λ (x : K). (x, v) ∷ es) (sym (exact k e.0 q))))
      (λ g. rw (turned c o k e.0 Greater g, one-add (place_of c k es), g)
      (ap (λ (t : List (K × X)). e ∷ t)
      (with_value-there exact k v es (rw (turned c o k e.0 Greater g, one-add (place_of c k es)) at there))))

  -- a value that is not there is inserted at that index
  pub with_value-absent : (k : K) (v : X) (es : List (K × X))
      → is_some (value_if c k (slice_get es (place_of c k es))) ≡ false
      → with_value c es k v ≡ take (place_of c k es) es ++ (k, v) ∷ drop (place_of c k es) es
  with_value-absent k v [] absent = refl
  with_value-absent k v (e ∷ es) absent = by_ordering (c k e.0)
      (λ l. rw (turned c o k e.0 Less l, l) refl)
      (λ q. absurd (cc (rw (turned c o k e.0 Equal q, q) at absent)))
      (λ g. rw (turned c o k e.0 Greater g, one-add (place_of c k es), g)
      (ap (λ (t : List (K × X)). e ∷ t)
      (with_value-absent k v es (rw (turned c o k e.0 Greater g, one-add (place_of c k es)) at absent))))

  -- a value that is there is removed at that index
  pub without-there : (k : K) (es : List (K × X)) → is_some (value_if c k (slice_get es (place_of c k es))) ≡ true
      → without c es k ≡ take (place_of c k es) es ++ drop (suc (place_of c k es)) es
  without-there k [] there = absurd (cc there)
  without-there k (e ∷ es) there = by_ordering (c k e.0)
      (λ l. absurd (cc (rw (turned c o k e.0 Less l, l) at there)))
      (λ q. rw (turned c o k e.0 Equal q, q) refl)
      (λ g. rw (turned c o k e.0 Greater g, one-add (place_of c k es), g)
      (ap (λ (t : List (K × X)). e ∷ t)
      (without-there k es (rw (turned c o k e.0 Greater g, one-add (place_of c k es)) at there))))

  -- the first entry after a key is the first whose key is greater
  pub find-greater : (k : K) (es : List (K × X)) → find (λ e. is_gt (c e.0 k)) es ≡ entry_after c es (Some k)
  find-greater k [] = refl
  find-greater k (e ∷ es) = by_ordering (c k e.0)
      (λ l. rw (turned c o k e.0 Less l, l) refl)
      (λ q. rw (turned c o k e.0 Equal q, q) (find-greater k es))
      (λ g. rw (turned c o k e.0 Greater g, g) (find-greater k es))

-- an index at which there is a value is one of the list
pub there_within : {K X : Type 0} (c : K → K → Ordering) (k : K) (es : List (K × X)) (n : ℕ)
    → is_some (value_if c k (slice_get es n)) ≡ true → n < length es
there_within c k [] n there = absurd (cc there)
there_within c k (e ∷ es) zero there = omega arith
there_within c k (e ∷ es) (suc n) there = omega (arith, there_within c k es n there)

module _ {V : Type 0} where
  -- a look-up in a page
  pub look_up_page : (k : Prefix) (es : List (Prefix × V)) → IsRising prefix_cmp es
      → value_at prefix_cmp es k ≡ value_if prefix_cmp k (slice_get es (place_of prefix_cmp k es))
  look_up_page k es rising = value_at-place prefix_cmp prefix_total k es rising

  address_rises : (a : ℕ) (e : Prefix × V) (es : List (Prefix × V)) → a ≤ e.0.addr
      → Each prefix_cmp prefix_total Less e.0 es → AllFrom a es
  address_rises a e [] from each = tt
  address_rises a e (x ∷ es) from each =
      (omega (arith, from, addresses_rise e.0 x.0 each.0), address_rises a e es from each.1)

  -- the entries before the cut at an address have addresses below it
  pub AllBelow-take : (a : ℕ) (es : List (Prefix × V)) → AllBelow a (take (place_at a es) es)
  AllBelow-take a [] = tt
  AllBelow-take a (e ∷ es) = elim (cases_Bool (nat_lt e.0.addr a)) [
    | inl is ↦ rw (is, one-add (place_at a es)) (ltb-true e.0.addr a is, AllBelow-take a es)
    | inr not ↦ rw not tt
  ]

  -- and those after it do not
  pub AllFrom-drop : (a : ℕ) (es : List (Prefix × V)) → IsRising prefix_cmp es → AllFrom a (drop (place_at a es) es)
  AllFrom-drop a [] rising = tt
  AllFrom-drop a (e ∷ es) rising = elim (cases_Bool (nat_lt e.0.addr a)) [
    | inl is ↦ rw (is, one-add (place_at a es)) (AllFrom-drop a es (IsRising-tail prefix_cmp prefix_total e es rising))
    | inr not ↦ rw not (
      ltb-false e.0.addr a not,
      address_rises a e es (ltb-false e.0.addr a not) (IsRising-head prefix_cmp prefix_total e es rising),
    )
  ]

  -- all entries have addresses below one, if as many have as there are
  pub all_below : (a : ℕ) (es : List (Prefix × V)) → place_at a es ≡ length es → AllBelow a es
  all_below a [] all = tt
  all_below a (e ∷ es) all = elim (cases_Bool (nat_lt e.0.addr a)) [
    | inl is ↦ (ltb-true e.0.addr a is, all_below a es (omega (arith, rw is at all)))
    | inr not ↦ absurd (omega (arith, rw not at all))
  ]

  -- and no entry has, if as many as none have
  pub all_from : (a : ℕ) (es : List (Prefix × V)) → IsRising prefix_cmp es → place_at a es ≡ 0 → AllFrom a es
  all_from a es rising none = rw none at (AllFrom-drop a es rising)

  -- the keys before and after an index rise
  pub IsRising-drop : (n : ℕ) (es : List (Prefix × V)) → IsRising prefix_cmp es → IsRising prefix_cmp (drop n es)
  IsRising-drop zero es rising = rising
  IsRising-drop (suc n) [] rising = rising
  IsRising-drop (suc n) (e ∷ es) rising = IsRising-drop n es (IsRising-tail prefix_cmp prefix_total e es rising)

-- what an entry at an index says of a look-up
module _ {K X : Type 0} (c : K → K → Ordering) (k : K) where
  pub value_if-there : (o : Option (K × X)) (w : X) → is_some (value_if c k o) ≡ true → option_map (λ e. e.1) o ≡ Some w
      → value_if c k o ≡ Some w
  value_if-there None w there is = absurd (cc there)
  value_if-there (Some e) w there is = elim (cases_Bool (is_eq (c k e.0))) [
    | inl same ↦ rw same is
    | inr other ↦ absurd (cc (rw other at there))
  ]

  pub value_if-absent : (o : Option (K × X)) → is_some (value_if c k o) ≡ false → value_if c k o ≡ None
  value_if-absent None absent = refl
  value_if-absent (Some e) absent = elim (cases_Bool (is_eq (c k e.0))) [
    | inl same ↦ absurd (cc (rw same at absent))
    | inr other ↦ rw other refl
  ]

module _ {V : Type 0} (k : Prefix) (es : List (Prefix × V)) (n : ℕ) (at : n ≡ place_of prefix_cmp k es) where
  -- what `put` and `take_out` do where the prefix is there
  pub there_value : (w : V) → IsRising prefix_cmp es → is_some (value_if prefix_cmp k (slice_get es n)) ≡ true
      → option_map (λ e. e.1) (slice_get es n) ≡ Some w → Some w ≡ value_at prefix_cmp es k
  there_value w rising there is =
      sym (look_up_page k es rising ∙ ap (λ (i : ℕ). value_if prefix_cmp k (slice_get es i)) (sym at)
      ∙ value_if-there prefix_cmp k (slice_get es n) w there is)

  pub there_with : (v : V) → is_some (value_if prefix_cmp k (slice_get es n)) ≡ true
      → slice_set es n (k, v) ≡ with_value prefix_cmp es k v
  there_with v there =
      ap (λ (i : ℕ). slice_set es i (k, v)) at
      ∙ sym (with_value-there prefix_cmp prefix_total prefix_exact k v es (rw at at there))

  pub there_without : is_some (value_if prefix_cmp k (slice_get es n)) ≡ true → remove es n ≡ without prefix_cmp es k
  there_without there =
      ap (λ (i : ℕ). remove es i) at ∙ sym (without-there prefix_cmp prefix_total k es (rw at at there))

  -- and where it is not
  pub absent_value : IsRising prefix_cmp es → is_some (value_if prefix_cmp k (slice_get es n)) ≡ false
      → value_at prefix_cmp es k ≡ None
  absent_value rising absent =
      look_up_page k es rising ∙ ap (λ (i : ℕ). value_if prefix_cmp k (slice_get es i)) (sym at)
      ∙ value_if-absent prefix_cmp k (slice_get es n) absent

  pub absent_with : (v : V) → is_some (value_if prefix_cmp k (slice_get es n)) ≡ false
      → list_insert es n (k, v) ≡ with_value prefix_cmp es k v
  absent_with v absent =
      ap (λ (i : ℕ). list_insert es i (k, v)) at
      ∙ sym (with_value-absent prefix_cmp prefix_total k v es (rw at at absent))

  pub absent_without : IsRising prefix_cmp es → is_some (value_if prefix_cmp k (slice_get es n)) ≡ false
      → es ≡ without prefix_cmp es k
  absent_without rising absent = sym (without-absent prefix_cmp es k (absent_value rising absent))

pub ruleset look_up = (look_up_page)

-- The entries of a slab as a finite map: what is found at a key, and what a change of one key makes of the map.
use Rattle.std.proofs.Common.{◌≡◌, ◌≢◌, ℕ, zero, suc, ◌+◌, ◌<◌, List, [], ◌∷◌, get_or, Option, Some, None, cond, inl}
use Rattle.std.proofs.Common.{inr}
use Rattle.std.proofs.Common.{refl, sym, ap, ◌∙◌, subst, arith, add-zero, zero-add}
use Rattle.std.specs.Ordering.{is_eq, nat_cmp}
use Rattle.std.specs.List.Sorted.{IsStrictlySortedBy}
use Rattle.std.specs.declared.cmp.Ordering.TheVariants.{Less, Greater}
use Rattle.std.proofs.lemmas.Bool.{cases_eq}
use Rattle.std.proofs.lemmas.Cmp.{nat_cmp_total, tied_itself}
use Rattle.std.proofs.lemmas.Map.Lookups.{exact_unsigned}
use Rattle.slab.specs.Slab.{Slab, get, entries, entries_from}
use Rattle.xb_words.specs.Table.{value_at, with_value, without, IsRising}
use Rattle.xb_words.proofs.TableLemmas.{IsRising-with_value, IsRising-without, value_at-with_value}
use Rattle.xb_words.proofs.TableSplitLemmas.{Each, IsRising-cons, value_at-above}
use Rattle.xbgp_view.proofs.LowerLemmas.{nat_cmp-less, nat_cmp-greater}
use Rattle.attr_intern.proofs.LookupLemmas.{entries_from_value_at, is_eq-false, value_at-with_value-other}
use Rattle.attr_intern.proofs.LookupLemmas.{value_at-without}

module _ {T : Type 0} where
  above_entries : (q key : ℕ) (slots : List (Option T)) → q < key
      → Each nat_cmp nat_cmp_total Less q (entries_from key slots)
  above_entries q key [] below = tt
  above_entries q key (None ∷ slots) below = above_entries q (key + 1) slots (omega arith)
  above_entries q key (Some v ∷ slots) below =
      (nat_cmp-less q key below, above_entries q (key + 1) slots (omega arith))

  rising_from : (key : ℕ) (slots : List (Option T)) → IsRising nat_cmp (entries_from key slots)
  unfolding IsStrictlySortedBy
  rising_from key [] = tt
  rising_from key (None ∷ slots) = rising_from (key + 1) slots
  rising_from key (Some v ∷ slots) =
      IsRising-cons nat_cmp nat_cmp_total (key, v) (entries_from (key + 1) slots)
      (above_entries key (key + 1) slots (omega arith)) (rising_from (key + 1) slots)

  value_at-from : (key i : ℕ) (slots : List (Option T))
      → value_at nat_cmp (entries_from key slots) (key + i) ≡ get_or slots i None
  value_at-from key i [] = refl
  value_at-from key zero (None ∷ slots) =
      rw add-zero (value_at-above nat_cmp nat_cmp_total key _ (above_entries key (key + 1) slots (omega arith)))
  value_at-from key (suc i) (None ∷ slots) =
      let place : key + suc i ≡ key + 1 + i = omega arith in
      rw place (value_at-from (key + 1) i slots)
  value_at-from key zero (Some v ∷ slots) = rw (add-zero, tied_itself nat_cmp_total key) refl
  value_at-from key (suc i) (Some v ∷ slots) =
      let place : key + 1 + i ≡ key + suc i = omega arith in
      let past : nat_cmp (key + suc i) key ≡ Greater = nat_cmp-greater (key + suc i) key (omega arith) in
      rw past (subst (λ n. value_at nat_cmp (entries_from (key + 1) slots) n ≡ get_or slots i None) place
      (value_at-from (key + 1) i slots))

  -- the keys rise
  pub IsRising-entries : (s : Slab T) → IsRising nat_cmp (entries s)
  IsRising-entries s = rising_from 0 s.slots

  -- a look-up finds what the slab has
  pub value_at-entries : (s : Slab T) (key : ℕ) → value_at nat_cmp (entries s) key ≡ get s key
  value_at-entries s key = rw zero-add at (value_at-from 0 key s.slots)

  -- the keys find the same, so the entries are the same
  pub entries_from_get : (s t : Slab T) → ((key : ℕ) → get t key ≡ get s key) → entries t ≡ entries s
  entries_from_get s t same =
      entries_from_value_at nat_cmp nat_cmp_total exact_unsigned (entries t) (entries s) (IsRising-entries t)
      (IsRising-entries s) (λ q. value_at-entries t q ∙ same q ∙ sym (value_at-entries s q))

  -- a key has another value
  pub entries-changed : (s t : Slab T) (key : ℕ) (v : T) → get t key ≡ Some v
      → ((other : ℕ) → other ≢ key → get t other ≡ get s other) → entries t ≡ with_value nat_cmp (entries s) key v
  entries-changed s t key v here others =
      entries_from_value_at nat_cmp nat_cmp_total exact_unsigned (entries t) (with_value nat_cmp (entries s) key v)
      (IsRising-entries t) (IsRising-with_value nat_cmp nat_cmp_total (entries s) key v (IsRising-entries s))
      (λ q. value_at-entries t q ∙ found q)
    where
      found : (q : ℕ) → get t q ≡ value_at nat_cmp (with_value nat_cmp (entries s) key v) q
      found q = elim (cases_eq q key) [
        | inl same ↦
            ap (get t) same ∙ here ∙ sym (value_at-with_value nat_cmp nat_cmp_total (entries s) key v)
            ∙ ap (value_at nat_cmp (with_value nat_cmp (entries s) key v)) (sym same)
        | inr apart ↦
            others q apart ∙ sym (value_at-entries s q)
            ∙ sym (value_at-with_value-other nat_cmp nat_cmp_total (entries s) key v q
            (λ tie. apart (exact_unsigned q key tie)))
      ]

  -- a key has no value more
  pub entries-removed : (s t : Slab T) (key : ℕ) → get t key ≡ None
      → ((other : ℕ) → other ≢ key → get t other ≡ get s other) → entries t ≡ without nat_cmp (entries s) key
  entries-removed s t key gone others =
      entries_from_value_at nat_cmp nat_cmp_total exact_unsigned (entries t) (without nat_cmp (entries s) key)
      (IsRising-entries t) (IsRising-without nat_cmp nat_cmp_total (entries s) key (IsRising-entries s))
      (λ q.
      value_at-entries t q ∙ found q
      ∙ sym (value_at-without nat_cmp nat_cmp_total (entries s) key q (IsRising-entries s)))
    where
      found : (q : ℕ) → get t q ≡ cond (is_eq (nat_cmp key q)) None (value_at nat_cmp (entries s) q)
      found q = elim (cases_eq q key) [
        | inl same ↦ rw (same, tied_itself nat_cmp_total key) gone
        | inr apart ↦
            rw (is_eq-false (nat_cmp key q) (λ tie. apart (sym (exact_unsigned key q tie))))
            (others q apart ∙ sym (value_at-entries s q))
      ]

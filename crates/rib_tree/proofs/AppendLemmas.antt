-- What a look-up, a write, a removal and a walk do in two lists of entries, one after the other, for a key that is past
-- the first or before the second.
use Rattle.std.proofs.Common.{◌≡◌, cond, List, [], ◌∷◌, ◌++◌, Option, Some, None, refl, sym, ◌∙◌, ap}
use Rattle.std.specs.Cmp.{IsTotalOrder}
use Rattle.std.specs.List.{AllByRecursion}
use Rattle.std.specs.Option.{option_or}
use Rattle.std.specs.Ordering.{is_eq}
use Rattle.std.specs.declared.cmp.Ordering.{Ordering}
use Rattle.std.specs.declared.cmp.Ordering.TheVariants.{Less, Greater}
use Rattle.std.proofs.lemmas.List.{append-nil}
use Rattle.xb_words.specs.Table.{value_at, with_value, without, entry_after, first_of, IsRising}
use Rattle.xb_words.proofs.TableSplitLemmas.{or_entry, with_value-less, without-less, entry_after-less}
use Rattle.xb_words.proofs.TableSplitLemmas.{Each, IsRising-head, IsRising-tail, IsRising-cons, value_at-above}

module _ {A : Type 0} (P : A → Type 0) where
  -- what holds of every element of two lists holds of their append
  pub AllByRecursion-append : (xs ys : List A) → AllByRecursion P xs → AllByRecursion P ys → AllByRecursion P (xs ++ ys)
  AllByRecursion-append [] ys a b = b
  AllByRecursion-append (x ∷ xs) ys a b = (a.0, AllByRecursion-append xs ys a.1 b)

-- the first of two lists
pub first_of-append : {A : Type 0} (xs ys : List A) → first_of (xs ++ ys) ≡ option_or (first_of xs) (first_of ys)
first_of-append [] ys = refl
first_of-append (x ∷ xs) ys = refl

option_or-none : {A : Type 0} (x : Option A) → option_or x None ≡ x
option_or-none None = refl
option_or-none (Some a) = refl

or_entry-is : {A : Type 0} (x : Option A) (a : A) → or_entry x a ≡ option_or x (Some a)
or_entry-is None a = refl
or_entry-is (Some b) a = refl

module _ {K X : Type 0} (c : K → K → Ordering) (o : IsTotalOrder c) where
  -- past the first list
  pub value_at-past : (q : K) (ls es : List (K × X)) → Each c o Greater q ls → value_at c (ls ++ es) q ≡ value_at c es q
  value_at-past q [] es a = refl
  value_at-past q (l ∷ ls) es a = rw a.0 (value_at-past q ls es a.1)

  pub with_value-past : (q : K) (v : X) (ls es : List (K × X)) → Each c o Greater q ls
      → with_value c (ls ++ es) q v ≡ ls ++ with_value c es q v
  with_value-past q v [] es a = refl
  with_value-past q v (l ∷ ls) es a = rw a.0 (ap (λ (t : List (K × X)). l ∷ t) (with_value-past q v ls es a.1))

  pub without-past : (q : K) (ls es : List (K × X)) → Each c o Greater q ls
      → without c (ls ++ es) q ≡ ls ++ without c es q
  without-past q [] es a = refl
  without-past q (l ∷ ls) es a = rw a.0 (ap (λ (t : List (K × X)). l ∷ t) (without-past q ls es a.1))

  pub entry_after-past : (q : K) (ls es : List (K × X)) → Each c o Greater q ls
      → entry_after c (ls ++ es) (Some q) ≡ entry_after c es (Some q)
  entry_after-past q [] es a = refl
  entry_after-past q (l ∷ ls) es a = rw a.0 (entry_after-past q ls es a.1)

  -- before the second list
  pub value_at-before : (q : K) (ls es : List (K × X)) → Each c o Less q es → value_at c (ls ++ es) q ≡ value_at c ls q
  value_at-before q [] es a = value_at-above c o q es a
  value_at-before q (l ∷ ls) es a =
      ap (λ (t : Option X). cond (is_eq (c q l.0)) (Some l.1) t) (value_at-before q ls es a)

  pub with_value-before : (q : K) (v : X) (ls es : List (K × X)) → Each c o Less q es
      → with_value c (ls ++ es) q v ≡ with_value c ls q v ++ es
  with_value-before q v ls [] a =
      ap (λ (t : List (K × X)). with_value c t q v) (append-nil ls) ∙ sym (append-nil (with_value c ls q v))
  with_value-before q v ls (e ∷ es) a = with_value-less c o q v ls e es a.0

  pub without-before : (q : K) (ls es : List (K × X)) → Each c o Less q es → IsRising c (ls ++ es)
      → without c (ls ++ es) q ≡ without c ls q ++ es
  without-before q ls [] a rising =
      ap (λ (t : List (K × X)). without c t q) (append-nil ls) ∙ sym (append-nil (without c ls q))
  without-before q ls (e ∷ es) a rising = without-less c o q ls e es a.0 rising

  pub entry_after-before : (q : K) (ls es : List (K × X)) → Each c o Less q es
      → entry_after c (ls ++ es) (Some q) ≡ option_or (entry_after c ls (Some q)) (first_of es)
  entry_after-before q ls [] a =
      ap (λ (t : List (K × X)). entry_after c t (Some q)) (append-nil ls)
      ∙ sym (option_or-none (entry_after c ls (Some q)))
  entry_after-before q ls (e ∷ es) a = entry_after-less c o q ls e es a.0 ∙ or_entry-is (entry_after c ls (Some q)) e

  -- two lists whose keys rise, each of the first below all of the second
  pub IsRising-append : (ls es : List (K × X)) → IsRising c ls → IsRising c es
      → AllByRecursion (λ (l : K × X). Each c o Less l.0 es) ls → IsRising c (ls ++ es)
  IsRising-append [] es below above each = above
  IsRising-append (l ∷ ls) es below above each =
      IsRising-cons c o l (ls ++ es)
      (AllByRecursion-append (λ (e : K × X). c l.0 e.0 ≡ Less) ls es (IsRising-head c o l ls below) each.0)
      (IsRising-append ls es (IsRising-tail c o l ls below) above each.1)

-- Addresses and prefixes that texts say are in their ranges.
use Rattle.std.proofs.Common.{◌≡◌, ℕ, ◌<◌, ◌≤◌, ◌^◌, Bool, true, List, [], ◌∷◌, length, Option, Some, None, refl, sym}
use Rattle.std.proofs.Common.{arith, inl, inr}
use Rattle.std.specs.Prelude.{◌==◌}
use Rattle.std.specs.Option.{option_map}
use Rattle.std.proofs.lemmas.Bool.{cases_Bool, eqb-true}
use Rattle.xb_words.specs.Octets.{four_at}
use Rattle.xb_words.specs.Optional.{◌>>=◌}
use Rattle.xb_words.proofs.OptionalLemmas.{bind-some}
use Rattle.xb_values.specs.Prefixes.{Prefix, IsPrefix, prefix_of}
use Rattle.xb_values.proofs.PrefixLemmas.{prefix_of_is_prefix}
use Rattle.xb_values.proofs.ReaderLemmas.{number_up_to-le}
use Rattle.xb_values.specs.Readers.{split_on, number_up_to, octet_texts, read_dotted, prefix_in, read_prefix}
use Rattle.xb_fields.proofs.FieldLemmas.{some-if}
use Rattle.xbgp_config.specs.Configs.{passing}

four_at-bound : (a b c d : ℕ) → a ≤ 255 → b ≤ 255 → c ≤ 255 → d ≤ 255 → four_at (a ∷ b ∷ c ∷ d ∷ []) 0 < 2 ^ 32
four_at-bound a b c d ha hb hc hd = omega arith

option_map-some : {A B : Type 0} (f : A → B) (o : Option A) (y : B) → option_map f o ≡ Some y → (x : A) × (o ≡ Some x) × (f x ≡ y)
option_map-some f None y e = absurd (cc e)
option_map-some f (Some x) y e = (x, refl, cc e)

-- the first of the numbers, and the others
record Split (texts : List (List ℕ)) (ns : List ℕ) : Type 0 where
  pub first : ℕ
  pub others : List ℕ
  pub small : first ≤ 255
  pub read : octet_texts texts ≡ Some others
  pub whole : first ∷ others ≡ ns

octet_texts-split : (text : List ℕ) (texts : List (List ℕ)) (ns : List ℕ) → octet_texts (text ∷ texts) ≡ Some ns → Split texts ns
octet_texts-split text texts ns e =
    let a = bind-some (number_up_to 255 text) (λ m. octet_texts texts >>= (λ ms. Some (m ∷ ms))) ns e in
    let b = bind-some (octet_texts texts) (λ ms. Some (a.0 ∷ ms)) ns a.2 in
    record { first = a.0; others = b.0; small = number_up_to-le 255 a.0 text (sym a.1); read = b.1; whole = cc b.2 }

octet_texts-bound : (texts : List (List ℕ)) (a : ℕ) → length texts ≡ 4 → option_map (λ ns. four_at ns 0) (octet_texts texts) ≡ Some a → a < 2 ^ 32
octet_texts-bound [] a h e = absurd (omega arith)
octet_texts-bound (p ∷ []) a h e = absurd (omega arith)
octet_texts-bound (p ∷ q ∷ []) a h e = absurd (omega arith)
octet_texts-bound (p ∷ q ∷ r ∷ []) a h e = absurd (omega arith)
octet_texts-bound (p ∷ q ∷ r ∷ s ∷ []) a h e =
    let m = option_map-some (λ ns. four_at ns 0) (octet_texts (p ∷ q ∷ r ∷ s ∷ [])) a e in
    let i = octet_texts-split p (q ∷ r ∷ s ∷ []) m.0 m.1 in
    let j = octet_texts-split q (r ∷ s ∷ []) i.others i.read in
    let k = octet_texts-split r (s ∷ []) j.others j.read in
    let l = octet_texts-split s [] k.others k.read in
    let none : [] ≡ l.others = cc l.read in
    let all : m.0 ≡ i.first ∷ j.first ∷ k.first ∷ l.first ∷ [] = cc (i.whole, j.whole, k.whole, l.whole, none) in
    rw (← m.2, all) (four_at-bound i.first j.first k.first l.first i.small j.small k.small l.small)
octet_texts-bound (p ∷ q ∷ r ∷ s ∷ t ∷ texts) a h e = absurd (omega arith)

-- an address has 32 bits
pub read_dotted-bound : (s : List ℕ) (a : ℕ) → read_dotted s ≡ Some a → a < 2 ^ 32
read_dotted-bound s a e =
    elim (cases_Bool (length (split_on 46 s) == 4)) [
      | inl four ↦ octet_texts-bound (split_on 46 s) a (eqb-true _ _ four) (rw four at e)
      | inr other ↦ let none : None ≡ Some a = rw other at e in absurd (cc none)
    ]

prefix_in-IsPrefix : (texts : List (List ℕ)) (p : Prefix) → prefix_in texts ≡ Some p → IsPrefix p
prefix_in-IsPrefix [] p e = absurd (cc e)
prefix_in-IsPrefix (a ∷ []) p e = absurd (cc e)
prefix_in-IsPrefix (a ∷ l ∷ []) p e =
    let x = bind-some (read_dotted a) (λ m. number_up_to 32 l >>= (λ n. Some (prefix_of m n))) p e in
    let y = bind-some (number_up_to 32 l) (λ n. Some (prefix_of x.0 n)) p x.2 in
    let same : prefix_of x.0 y.0 ≡ p = cc y.2 in
    rw (← same) (prefix_of_is_prefix x.0 y.0 (read_dotted-bound a x.0 x.1) (number_up_to-le 32 y.0 l (sym y.1)))
prefix_in-IsPrefix (a ∷ l ∷ t ∷ texts) p e = absurd (cc e)

-- a text of a prefix gives one
pub read_prefix-IsPrefix : (s : List ℕ) (p : Prefix) → read_prefix s ≡ Some p → IsPrefix p
read_prefix-IsPrefix s p e = prefix_in-IsPrefix (split_on 47 s) p e

-- what passes a test
pub passing-some : (test : ℕ → Bool) (o : Option ℕ) (a : ℕ) → passing test o ≡ Some a → test a ≡ true
passing-some test None a e = absurd (cc e)
passing-some test (Some x) a e = let g = some-if (test x) x a e in rw (← g.1) g.0

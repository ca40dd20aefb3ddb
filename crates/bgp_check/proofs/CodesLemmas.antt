-- Lemmas on a set of codes with one code more.
use Rattle.std.proofs.Common.{◌≡◌, inl, inr, sym, ap, ◌∙◌, ℕ, ◌/◌, ◌%◌, ◌*◌, ◌^◌, ◌<◌, List, length, arith}
use Rattle.std.specs.Prelude.{slice_index, slice_set, bit_or, ◌==◌, ◌||◌}
use Rattle.std.specs.Int.{bit_at, w64}
use Rattle.std.proofs.lemmas.Bool.{eq-eqb, ne_eqb}
use Rattle.std.proofs.lemmas.Bool.Decides.{eqb_tells, nat_tests}
use Rattle.std.proofs.lemmas.Grind.{get_or-set_at}
use Rattle.std.proofs.lemmas.List.{get_or-set_other}
use Rattle.std.proofs.lemmas.Nat.Bits.{bit_at_set_same, bit_at_set_other}
use Rattle.bgp_check.specs.Codes.{has_bit}

-- a word with one bit more
abbrev set_in : ℕ → ℕ → ℕ
set_in word k = bit_or word (1 * 2 ^ k % 2 ^ 64)

bit_at-set : (word k i : ℕ) → k < 64 → (bit_at (set_in word k) i == 1) ≡ (k == i || bit_at word i == 1)
bit_at-set word k i within =
    elim (eqb_tells k i) [
      | inl same ↦
          eq-eqb (bit_at (set_in word k) i) 1 (ap (bit_at (set_in word k)) (sym same.1) ∙ bit_at_set_same w64 word k within)
          ∙ sym (ap (λ b. b || bit_at word i == 1) same.0)
      | inr apart ↦
          ap (λ n. n == 1) (bit_at_set_other w64 word k within i (λ e. apart.1 (sym e)))
          ∙ sym (ap (λ b. b || bit_at word i == 1) apart.0)
    ]

-- codes of one word differ by their bits
same_bit : (code other : ℕ) → other / 64 ≡ code / 64 → (code % 64 == other % 64) ≡ (code == other)
same_bit code other e = grind (arith, nat_tests)

-- the words with the bit of a code
abbrev pub with_bit : List ℕ → ℕ → List ℕ
with_bit words code = slice_set words (code / 64) (set_in (slice_index words (code / 64)) (code % 64))

-- the set has the code, and what it had
pub has_bit-with_bit : (words : List ℕ) (code other : ℕ) → length words ≡ 4 → code < 256 → has_bit (with_bit words code) other ≡ (code == other || has_bit words other)
has_bit-with_bit words code other len small =
    let word = slice_index words (code / 64) in
    let more = set_in word (code % 64) in
    let i = other % 64 in
    let here : code / 64 < length words = omega arith in
    let bit : code % 64 < 64 = omega arith in
    elim (eqb_tells (other / 64) (code / 64)) [
      | inl same ↦
          ap (λ n. bit_at n i == 1) (get_or-set_at words (code / 64) (other / 64) more 0 same.1 here)
          ∙ bit_at-set word (code % 64) i bit
          ∙ ap (λ b. b || bit_at word i == 1) (same_bit code other same.1)
          ∙ ap (λ w. code == other || bit_at (slice_index words w) i == 1) (sym same.1)
      | inr apart ↦
          ap (λ n. bit_at n i == 1) (get_or-set_other words (code / 64) (other / 64) more 0 apart.1)
          ∙ sym (ap (λ b. b || has_bit words other) (ne_eqb code other (λ e. apart.1 (ap (λ n. n / 64) (sym e)))))
    ]

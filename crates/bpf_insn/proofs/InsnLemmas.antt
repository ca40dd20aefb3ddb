-- The table of decoded instructions.
use Rattle.std.proofs.Common.{◌≡◌, ap, subst, ◌∙◌, ℕ, ◌+◌, ◌%◌, ◌^◌, ◌<◌, true, List, [], ◌∷◌, ◌++◌, arith, inl, inr}
use Rattle.std.proofs.lemmas.Bool.{cases_lt, and_parts, ltb-true}
use Rattle.std.proofs.lemmas.List.{get_or_push, length_push, get_or_append_left}
use Rattle.bpf_insn.specs.declared.insn.Insn.{Insn}
use Rattle.bpf_insn.specs.Slots.{slots, raw_imm, insn_at}
use Rattle.bpf_insn.specs.Loading.{begins}
use Rattle.bpf_insn.specs.Decoded.{AreInsns}

-- the table with one more instruction
pub AreInsns-push :
    (code : List ℕ) (n : ℕ) (insns : List Insn) (x : Insn) → AreInsns code n insns → x ≡ insn_at code n
    → (insn_at code n).imm % 2 ^ 32 ≡ raw_imm code n → AreInsns code (n + 1) (insns ++ x ∷ [])
AreInsns-push code n insns x are e low =
    let count = are.count in
    record {
      count = length_push insns x ∙ ap (λ m. m + 1) count;
      each = λ k d h.
          elim (cases_lt k n) [
            | inl below ↦ get_or_append_left insns (x ∷ []) d k (omega (arith, count, below)) ∙ are.each k d below
            | inr above ↦
                let here : n ≡ k = omega (arith, above) in
                get_or_push insns x d k (count ∙ here) ∙ e ∙ ap (λ m. insn_at code m) here
          ];
      low_half = λ k h.
          elim (cases_lt k n) [
            | inl below ↦ are.low_half k below
            | inr above ↦
                let here : n ≡ k = omega (arith, above) in
                subst (λ m. (insn_at code m).imm % 2 ^ 32 ≡ raw_imm code m) here low
          ];
    }

-- an instruction begins at a slot of the code
pub begins-slots : (code : List ℕ) (i : ℕ) → begins code i ≡ true → i < slots code
begins-slots code i b = ltb-true i (slots code) (and_parts _ _ b).0

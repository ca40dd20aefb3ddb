-- Second slots and the slots at which instructions begin.
use Rattle.std.proofs.Common.{◌≡◌, refl, ap, ◌∙◌, ℕ, ◌+◌, Bool, List, [], ◌∷◌, ◌++◌, arith, add-one, inl, inr}
use Rattle.std.specs.Prelude.{not, ◌&&◌}
use Rattle.std.proofs.lemmas.Bool.{cases_lt}
use Rattle.std.proofs.lemmas.List.{get_or_push, length_push, get_or_append_left}
use Rattle.bpf_insn.specs.Slots.{opcode_of, is_wide}
use Rattle.bpf_insn.specs.Loading.{is_second}
use Rattle.bpf_insn.specs.Seconds.{AreSeconds}

-- the slot after slot i
pub is_second-next : (code : List ℕ) (i : ℕ) → is_second code (i + 1) ≡ (not (is_second code i) && is_wide (opcode_of code i))
is_second-next code i = rw add-one refl

-- the empty table
pub AreSeconds-none : (code : List ℕ) → AreSeconds code 0 []
AreSeconds-none code = record { size = refl; each = λ k d h. absurd (omega arith) }

-- the table with one more slot
pub AreSeconds-push : (code : List ℕ) (n : ℕ) (s : List Bool) (x : Bool) → AreSeconds code n s → x ≡ is_second code n → AreSeconds code (n + 1) (s ++ x ∷ [])
AreSeconds-push code n s x are e =
    let size = are.size in
    record {
      size = length_push s x ∙ ap (λ m. m + 1) size;
      each = λ k d h.
          elim (cases_lt k n) [
            | inl below ↦ get_or_append_left s (x ∷ []) d k (omega (arith, size, below)) ∙ are.each k d below
            | inr above ↦
                let here : n ≡ k = omega (arith, above) in
                get_or_push s x d k (size ∙ here) ∙ e ∙ ap (λ m. is_second code m) here
          ];
    }

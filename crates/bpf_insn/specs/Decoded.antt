-- Code whose slots were decoded.
use Rattle.std.specs.Prelude.{◌≡◌, ℕ, ◌<◌, ◌%◌, ◌^◌, List, length, slice_index_or}
use Rattle.bpf_insn.specs.declared.insn.Insn.{Insn}
use Rattle.bpf_insn.specs.Slots.{raw_imm, insn_at}

-- the instructions of the first n slots, also of a slot that is the second one of a 64-bit load
pub record AreInsns (code : List ℕ) (n : ℕ) (insns : List Insn) : Type 0 where
  pub count : length insns ≡ n
  pub each : (i : ℕ) (d : Insn) → i < n → slice_index_or insns i d ≡ insn_at code i
  pub low_half : (i : ℕ) → i < n → (insn_at code i).imm % 2 ^ 32 ≡ raw_imm code i

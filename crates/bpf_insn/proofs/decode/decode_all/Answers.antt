use Rattle.std.proofs.Common.{sym, ap, ◌∙◌, ◌%◌, ◌^◌}
use Rattle.bpf_insn.proofs.InsnLemmas.{AreInsns-push}
use Rattle.bpf_insn.proofs.decode.decode_all.Goals as goal

pub loop-i-preserved : goal.loop-i-preserved
loop-i-preserved c =
    let same = c.insn_at.ensures.value in
    let low = ap (λ x. x.imm % 2 ^ 32) (sym same) ∙ c.insn_at.ensures.low_half in
    rw c.in_ok-push.ensures.items (AreInsns-push _ _ _ _ c.loop-i.invariant same low)

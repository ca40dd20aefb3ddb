use Rattle.bpf_insn.specs.Decoded.{AreInsns}
use Rattle.bpf_insn.proofs.decode.decode_all.Given as goal

abbrev pub invariant-loop-i : goal.invariant-loop-i
invariant-loop-i l = AreInsns l.code l.i l.insns.items

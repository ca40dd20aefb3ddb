use Rattle.std.proofs.Common.{◌≡◌}
use Rattle.bpf_insn.specs.Loading.{is_second}
use Rattle.bpf_insn.specs.Seconds.{AreSeconds}
use Rattle.bpf_insn.proofs.second_slots.find_second_slots.Given as goal

abbrev pub invariant-loop-i : goal.invariant-loop-i
invariant-loop-i l = record {
  table : AreSeconds l.code l.i l.seconds.items;
  second : l.second ≡ is_second l.code l.i;
}

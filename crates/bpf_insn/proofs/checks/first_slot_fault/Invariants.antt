use Rattle.std.proofs.Common.{◌≡◌, ◌-◌, length}
use Rattle.std.specs.Prelude.{filter, not}
use Rattle.bpf_insn.specs.Helpers.{allows}
use Rattle.bpf_insn.specs.Loading.{is_second, numbers_from, first_slot_fault, starts}
use Rattle.bpf_insn.proofs.checks.first_slot_fault.Given as goal

abbrev pub invariant-loop-i : goal.invariant-loop-i
invariant-loop-i l =
    first_slot_fault (allows l.allowed) l.code (filter (λ j. not (is_second l.code j)) (numbers_from (length l.seconds - l.i) l.i)) ≡ first_slot_fault (allows l.allowed) l.code (starts l.code)

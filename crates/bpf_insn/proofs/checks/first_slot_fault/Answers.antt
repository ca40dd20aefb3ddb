use Rattle.std.proofs.Common.{sym, ◌∙◌}
use Rattle.bpf_insn.specs.Helpers.{allows}
use Rattle.bpf_insn.proofs.LoadLemmas.{left-second, left-none, left-some}
use Rattle.bpf_insn.proofs.checks.first_slot_fault.Goals as goal

pub loop-i-preserved-then-seconds-i : goal.loop-i-preserved-then-seconds-i
loop-i-preserved-then-seconds-i c =
    sym (left-second (allows c.args.allowed.now) c.args.code.now c.args.seconds.now c.loop-i.i c.requires.seconds c.loop-i-test.true c.if-seconds-i.true) ∙ c.loop-i.invariant

pub returns-in-Some : goal.returns-in-Some
returns-in-Some c =
    sym (left-some (allows c.args.allowed.now) c.args.code.now c.args.seconds.now c.loop-i.i c.requires.seconds c.loop-i-test.true c.in-Some.kind c.if-seconds-i.false (sym c.slot_fault.ensures ∙ c.in-Some.is))
    ∙ c.loop-i.invariant

pub loop-i-preserved : goal.loop-i-preserved
loop-i-preserved c =
    sym (left-none (allows c.args.allowed.now) c.args.code.now c.args.seconds.now c.loop-i.i c.requires.seconds c.loop-i-test.true c.if-seconds-i.false (sym c.slot_fault.ensures ∙ c.in_default.is))
    ∙ c.loop-i.invariant

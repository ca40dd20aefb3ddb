use Rattle.bpf_machine.proofs.StepLemmas.{Does-same, take_step-insn_step}
use Rattle.bpf_machine.proofs.step.take_step.Goals as goal

pub returns-clause-does : goal.returns-clause-does
returns-clause-does c =
    Does-same _ _ c.take_by_opcode.result c.args.regs.now c.take_by_opcode.new.regs
    c.args.memory.now c.take_by_opcode.new.memory
    (take_step-insn_step c.args.code.now c.args.regs.now c.args.slot c.args.memory.now
    c.get-insn.result.now c.get-insn.ensures.value)
    c.take_by_opcode.ensures

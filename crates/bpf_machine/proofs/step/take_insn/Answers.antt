use Rattle.std.proofs.Common.{◌≡◌, ◌⊎◌, arith}
use Rattle.bpf_machine.proofs.StepLemmas.{Does-same, insn_step-arithmetic, insn_step-jump, insn_step-wide}
use Rattle.bpf_machine.proofs.StepLemmas.{insn_step-load, insn_step-store, insn_step-register_store}
use Rattle.bpf_machine.proofs.step.take_insn.Goals as goal

pub returns-in-0 : goal.returns-in-0
returns-in-0 c =
    rw c.from-dst.ensures (
    insn_step-wide c.args.regs.now c.args.slot c.args.memory.now c.args.insn.now c.class.result
    (rw c.requires.opcode at c.class.ensures) c.in-0.is)

pub returns-in-1 : goal.returns-in-1
returns-in-1 c =
    Does-same _ _ c.load.result c.args.regs.now c.load.new.regs c.args.memory.now c.args.memory.now
    (insn_step-load c.args.regs.now c.args.slot c.args.memory.now c.args.insn.now c.class.result
    (rw c.requires.opcode at c.class.ensures) c.in-1.is)
    c.load.ensures

pub returns-in-2 : goal.returns-in-2
returns-in-2 c =
    Does-same _ _ c.store.result c.args.regs.now c.args.regs.now c.args.memory.now c.store.new.memory
    (insn_step-store c.args.regs.now c.args.slot c.args.memory.now c.args.insn.now c.class.result
    (rw c.requires.opcode at c.class.ensures) c.in-2.is)
    (rw c.from-dst.ensures at (c.store.ensures c.args.regs.now))

pub returns-in-3 : goal.returns-in-3
returns-in-3 c =
    Does-same _ _ c.store-in-3.result c.args.regs.now c.args.regs.now c.args.memory.now c.store-in-3.new.memory
    (insn_step-register_store c.args.regs.now c.args.slot c.args.memory.now c.args.insn.now c.class.result
    (rw c.requires.opcode at c.class.ensures) c.in-3.is)
    (rw (c.from-dst.ensures, c.from-src.ensures) at (c.store-in-3.ensures c.args.regs.now))

pub returns-in-4 : goal.returns-in-4
returns-in-4 c =
    Does-same _ _ c.arithmetic.result c.args.regs.now c.arithmetic.new.regs c.args.memory.now c.args.memory.now
    (insn_step-arithmetic c.args.regs.now c.args.slot c.args.memory.now c.args.insn.now c.class.result
    (rw c.requires.opcode at c.class.ensures) c.in-4.is)
    (c.arithmetic.ensures c.args.memory.now)

pub returns-in_default : goal.returns-in_default
returns-in_default c =
    let other = c.in_default in
    let cases : (c.class.result ≡ 5) ⊎ (c.class.result ≡ 6) = grind (arith, c.class.ensures) in
    Does-same _ _ c.jump.result c.args.regs.now c.args.regs.now c.args.memory.now c.args.memory.now
    (insn_step-jump c.args.regs.now c.args.slot c.args.memory.now c.args.insn.now c.class.result
    (rw c.requires.opcode at c.class.ensures) cases)
    (c.jump.ensures c.args.memory.now)

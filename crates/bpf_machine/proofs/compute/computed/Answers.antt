use Rattle.bpf_machine.proofs.StepLemmas.{computed-64, computed-32}
use Rattle.bpf_machine.proofs.compute.computed.Goals as goal

pub returns-then-class-eq-ALU64 : goal.returns-then-class-eq-ALU64
returns-then-class-eq-ALU64 c =
    computed-64 c.args.insn.now c.args.x c.args.y c.class.result c.operation-operation.result c.offset_word-offset.result c.result_64.result
    c.class.ensures c.if-class-eq-ALU64.true c.operation-operation.ensures c.if-operation-eq-END.false c.offset_word-offset.ensures c.ranges.x.fits c.ranges.y.fits c.result_64.ensures

pub returns-else-class-eq-ALU64 : goal.returns-else-class-eq-ALU64
returns-else-class-eq-ALU64 c =
    computed-32 c.args.insn.now c.args.x c.args.y c.class.result c.operation-operation.result c.offset_word-offset.result c.result_low.result
    c.class.ensures c.if-class-eq-ALU64.false c.operation-operation.ensures c.if-operation-eq-END.false c.offset_word-offset.ensures c.result_low.ensures

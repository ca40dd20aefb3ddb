use Rattle.std.proofs.Common.{◌≡◌, refl, ◌∙◌, arith}
use Rattle.bpf_insn.proofs.LoadLemmas.{begins-first}
use Rattle.bpf_machine.proofs.RunLemmas.{Has-parts, turns-bpf, ended-no_fuel, turns-Goes, ended-Ends, ended-Faults}
use Rattle.bpf_machine.proofs.RunLemmas.{turns-Value, ended-Next, ended-Misuse, begins-Goes, begins-Calls}
use Rattle.bpf_machine.proofs.RunLemmas.{allowed-Calls}
use Rattle.bpf_machine.proofs.running.run.Goals as goal

pub instructions-init : goal.instructions-init
instructions-init g c =
    record {
      rest = turns-bpf g.H.Helpers.helps c.args.code.now c.registers_at_entry-regs.result c.args.memory.now c.args.fuel (g.H.Helpers.state c.args.world.now) c.registers_at_entry-regs.ensures;
      here = begins-first c.args.code.now c.slots-slots.ensures.accepted;
      allowed = λ n. refl;
      names = refl;
    }

pub instructions-preserved-in-Goes : goal.instructions-preserved-in-Goes
instructions-preserved-in-Goes g c =
    record {
      rest = turns-Goes _ _ _ _ _ _ _ _ c.instructions-test.true c.instructions.invariant.rest c.take_step.new.regs c.take_step.new.memory c.in-Goes.next c.in-Goes.ensures.does;
      here = begins-Goes c.args.code.now c.instructions.slot c.in-Goes.ensures.sound c.slots-slots.ensures.accepted c.instructions.invariant.here c.instructions.regs c.take_step.new.regs c.instructions.memory c.take_step.new.memory c.in-Goes.next c.in-Goes.ensures.does;
      allowed = c.instructions.invariant.allowed;
      names = c.instructions.invariant.names;
    }

pub call-requires : goal.call-requires
call-requires g c =
    allowed-Calls c.args.code.now c.instructions.slot c.in-Calls.ensures.sound c.slots-slots.ensures.accepted c.instructions.invariant.here c.instructions.regs c.take_step.new.regs c.instructions.memory c.take_step.new.memory c.in-Calls.number c.in-Calls.ensures.does
    (g.H.Helpers.allowed (g.H.Helpers.state c.args.world.now)) (g.H.Helpers.allowed (g.H.Helpers.state c.instructions.world)) c.requires c.instructions.invariant.allowed c.in-Calls.ensures.low_half

pub instructions-preserved : goal.instructions-preserved
instructions-preserved g c =
    record {
      rest = turns-Value _ _ _ _ _ _ _ _ c.instructions-test.true c.instructions.invariant.rest c.take_step.new.regs c.take_step.new.memory c.in-Calls.number c.in-Calls.ensures.does
          c.call.result c.call.new.memory (g.H.Helpers.state c.call.new.self) c.call.ensures.called c.call.ensures.memory c.call.ensures.state c.in-Value.value c.registers_after_call-regs.result c.in-Value.is (c.registers_after_call-regs.ensures c.call.new.memory c.instructions.slot);
      here = begins-Calls c.args.code.now c.instructions.slot c.in-Calls.ensures.sound c.slots-slots.ensures.accepted c.instructions.invariant.here c.instructions.regs c.take_step.new.regs c.instructions.memory c.take_step.new.memory c.in-Calls.number c.in-Calls.ensures.does;
      allowed = λ n. c.call.ensures.allowed n ∙ c.instructions.invariant.allowed n;
      names = c.call.ensures.names ∙ c.instructions.invariant.names;
    }

pub returns-in-Ends : goal.returns-in-Ends
returns-in-Ends g c =
    let run = Has-parts _ _ _ _ (ended-Ends _ _ _ _ _ _ _ _ c.instructions-test.true c.instructions.invariant.rest c.take_step.new.regs c.take_step.new.memory c.in-Ends.value c.in-Ends.ensures.does) in
    record { end = run.same_end; memory = run.same_memory; state = run.same_world; names = c.instructions.invariant.names; no_bad_return = λ p. cc; no_bad_output = λ p. cc }

pub returns-in-Faults : goal.returns-in-Faults
returns-in-Faults g c =
    let run = Has-parts _ _ _ _ (ended-Faults _ _ _ _ _ _ _ _ c.instructions-test.true c.instructions.invariant.rest c.take_step.new.regs c.take_step.new.memory c.in-Faults.ensures.does) in
    record { end = run.same_end; memory = run.same_memory; state = run.same_world; names = c.instructions.invariant.names; no_bad_return = λ p. cc; no_bad_output = λ p. cc }

pub returns-in-Next : goal.returns-in-Next
returns-in-Next g c =
    let run = Has-parts _ _ _ _ (ended-Next _ _ _ _ _ _ _ _ c.instructions-test.true c.instructions.invariant.rest c.take_step.new.regs c.take_step.new.memory c.in-Calls.number c.in-Calls.ensures.does
    c.call.result c.call.new.memory (g.H.Helpers.state c.call.new.self) c.call.ensures.called c.call.ensures.memory c.call.ensures.state c.in-Next.is) in
    record { end = run.same_end; memory = run.same_memory; state = run.same_world; names = c.call.ensures.names ∙ c.instructions.invariant.names; no_bad_return = λ p. cc; no_bad_output = λ p. cc }

pub returns-in-Misuse : goal.returns-in-Misuse
returns-in-Misuse g c =
    let run = Has-parts _ _ _ _ (ended-Misuse _ _ _ _ _ _ _ _ c.instructions-test.true c.instructions.invariant.rest c.take_step.new.regs c.take_step.new.memory c.in-Calls.number c.in-Calls.ensures.does
    c.call.result c.call.new.memory (g.H.Helpers.state c.call.new.self) c.call.ensures.called c.call.ensures.memory c.call.ensures.state c.in-Misuse.is) in
    record { end = run.same_end; memory = run.same_memory; state = run.same_world; names = c.call.ensures.names ∙ c.instructions.invariant.names; no_bad_return = λ p. cc; no_bad_output = λ p. cc }

pub returns : goal.returns
returns g c =
    let spent : c.instructions.left ≡ 0 = (let h = c.instructions-test.false in omega arith) in
    let run = Has-parts _ _ _ _ (ended-no_fuel _ _ _ _ _ _ _ _ spent c.instructions.invariant.rest) in
    record { end = run.same_end; memory = run.same_memory; state = run.same_world; names = c.instructions.invariant.names; no_bad_return = λ p. cc; no_bad_output = λ p. cc }

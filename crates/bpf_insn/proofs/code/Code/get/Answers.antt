use Rattle.std.proofs.Common.{ap, ◌∙◌, ◌<◌, ◌%◌, ◌^◌}
use Rattle.bpf_insn.specs.Slots.{slots}
use Rattle.bpf_insn.proofs.InsnLemmas.{begins-slots}
use Rattle.bpf_insn.proofs.LoadLemmas.{IsSound-begins}
use Rattle.bpf_insn.proofs.code.Code.get.Goals as goal

pub returns-clause-low_half : goal.returns-clause-low_half
returns-clause-low_half c =
    let below : c.args.i < slots c.self.inside.octets.items = begins-slots _ _ (rw (← c.self.view_is) at c.requires) in
    rw (← c.self.view_is) (
    ap (λ x. x.imm % 2 ^ 32) (c.index.ensures ∙ c.self.invariant.1.each c.args.i c.index.result.now below)
    ∙ c.self.invariant.1.low_half c.args.i below)

pub returns-clause-sound : goal.returns-clause-sound
returns-clause-sound c =
    rw (← c.self.view_is) (IsSound-begins _ c.self.invariant.0 _ (rw (← c.self.view_is) at c.requires))

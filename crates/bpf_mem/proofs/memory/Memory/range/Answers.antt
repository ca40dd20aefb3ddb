use Rattle.std.proofs.Common.{sym, ◌∙◌}
use Rattle.bpf_mem.proofs.OffsetLemmas.{octets_at-writable, octets_at-window}
use Rattle.bpf_mem.proofs.memory.Memory.range.Goals as goal

pub returns-in-Some : goal.returns-in-Some
returns-in-Some c =
    octets_at-writable c.self.inside.room.now c.self.inside.window.now c.args.self.now c.args.addr c.args.len c.self.invariant.0 c.self.view_is
    c.octets.result.now c.in-Some.at c.octets.ensures (sym c.writable_offset.ensures ∙ c.in-Some.is)

pub returns : goal.returns
returns c =
    octets_at-window c.self.inside.room.now c.self.inside.window.now c.args.self.now c.args.addr c.args.len c.self.invariant.0 c.self.view_is
    c.in_ok-at.at (sym c.writable_offset.ensures ∙ c.in_default.is) (sym c.offset_in.ensures ∙ c.in_ok-at.was)

use Rattle.std.proofs.Common.{ap, ◌∙◌}
use Rattle.xb_wire.specs.Messages.{message_size}
use Rattle.bgp_frame.specs.Waiting.{Waiting}
use Rattle.bgp_frame.proofs.WaitingLemmas.{kept_next, waiting_next, length-removed}
use Rattle.bgp_frame.proofs.frames.Frames.remove_first.Goals as goal

pub invariant_of-self : goal.invariant_of-self
invariant_of-self c =
    let f = c.self.inside in
    let front = ap (λ (w : Waiting). message_size w.waits) c.self.view_is ∙ c.requires in
    rw c.from.ensures (kept_next f.octets.items f.body f.start _ c.args.len c.self.invariant front)

pub returns-clause-after : goal.returns-clause-after
returns-clause-after c =
    let f = c.self.inside in
    let front = ap (λ (w : Waiting). message_size w.waits) c.self.view_is ∙ c.requires in
    rw (c.from.ensures, ← c.self.view_is) (waiting_next f.octets.items f.start c.args.len front)

pub returns-clause-sized : goal.returns-clause-sized
returns-clause-sized c =
    let f = c.self.inside in
    let front = ap (λ (w : Waiting). message_size w.waits) c.self.view_is ∙ c.requires in
    rw c.from.ensures (length-removed f.octets.items f.start c.args.len front)

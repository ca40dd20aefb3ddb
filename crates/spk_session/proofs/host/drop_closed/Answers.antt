use Rattle.std.proofs.Common.{◌<◌, ◌∙◌, ap, Vec, length, arith}
use Rattle.std.specs.declared.alloc.Global.{Global}
use Rattle.std.proofs.Math.ListN.{length-set}
use Rattle.bgp_frame.specs.Waiting.{Waiting}
use Rattle.spk_session.specs.Hosting.{waits_of}
use Rattle.spk_session.proofs.HostLemmas.{dropped_on, dropped_off}
use Rattle.spk_session.proofs.host.drop_closed.Goals.{then-index, else-index}
use Rattle.spk_session.proofs.host.drop_closed.Goals as goal

pub peers-preserved : goal.peers-preserved
peers-preserved c =
    let flags = c.args.links.now.dropped.items in
    let i = c.peers.i in
    let waits = waits_of c.args.frames.now.items in
    let inside : i < length flags = omega (arith, c.peers-test.true, c.len-i-end.ensures) in
    elim c.if-index.branch [
      | then-index w ↦ record {
        waits = dropped_on flags i c.index.result.now waits c.peers.frames.items c.if-index.frames.items
            w.clear.new.self
            inside c.index.ensures w.if-index.true c.peers.invariant.waits
            (ap (λ (v : Vec Waiting Global). v.items) w.frames-is)
            (ap (λ (f : Waiting). f.waits) w.clear.ensures);
        count = ap (λ (v : Vec Waiting Global). length v.items) w.frames-is
            ∙ length-set c.peers.frames.items i w.clear.new.self ∙ c.peers.invariant.count;
      }
      | else-index w ↦ record {
        waits = ap (λ (v : Vec Waiting Global). waits_of v.items) w.frames-is
            ∙ dropped_off flags i c.index.result.now waits c.peers.frames.items inside c.index.ensures w.if-index.false
            c.peers.invariant.waits;
        count = ap (λ (v : Vec Waiting Global). length v.items) w.frames-is ∙ c.peers.invariant.count;
      }
    ]

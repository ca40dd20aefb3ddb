use Rattle.std.proofs.Common.{◌+◌, ap, refl}
use Rattle.std.specs.List.{slice_index_or}
use Rattle.xb_values.specs.Buffers.{Buffer}
use Rattle.xbgp_top.specs.Summaries.{shown_summary}
use Rattle.xbgp_top.proofs.WorkLemmas.{peer_appended, room_after}
use Rattle.xbgp_top.proofs.work.summary_lines.Goals as goal

pub peers-preserved : goal.peers-preserved
peers-preserved g c =
    let s = g.H.Host.speaker c.args.host.now in
    let counts = c.args.counts.now in
    record {
      section = c.count_advertised-advertised.ensures.room;
      room = room_after c.peers.i _ _ _ _ c.peers-test.true c.append_peer.ensures.grown
          (ap (λ (b : Buffer). b.capacity) c.append_peer.ensures.line) c.peers.invariant.room;
      lines = peer_appended s (λ p. slice_index_or counts p 0) c.peers.i c.peers.text c.append_peer.new.text
          c.count_advertised-advertised.result (slice_index_or counts (c.peers.i + 1) 0)
          (shown_summary c.args.count s counts) c.peers-test.true c.append_peer.ensures.line
          c.count_advertised-advertised.ensures.count refl c.peers.invariant.lines;
    }

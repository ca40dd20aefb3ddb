use Rattle.std.proofs.Common.{◌+◌, ◌-◌, flat_map}
use Rattle.std.specs.List.{range_with_len}
use Rattle.spk_model.specs.Reports.{drained_line_of, drained_lines}
use Rattle.spk_model.proofs.GatherLemmas.{gathered_line, gathers_no_line}
use Rattle.spk_model.proofs.PrintLemmas.{lines_of_peers}
use Rattle.spk_model.proofs.report.print_drained.Goals as goal

pub returns-in_err-print_drained_peer : goal.returns-in_err-print_drained_peer
returns-in_err-print_drained_peer g c =
    let s = g.H.Host.speaker c.args.host.now in
    let f = drained_line_of s in
    gathers_no_line g.K.Sink.took g.K.Sink.faults _ _ _ c.args.page.now
    (drained_lines (g.H.Host.built_from c.args.host.now) s) _
    c.print_drained_peer.new.page (f (c.peers.i + 1)) (flat_map f
    (range_with_len (c.peers.i + 1) (c.args.peers - c.peers.i)))
    (flat_map f (range_with_len (c.peers.i + 1 + 1) (c.args.peers - (c.peers.i + 1))))
    c.in_err-print_drained_peer.field-0.0 c.from_residual.result
    (lines_of_peers f c.peers.i c.args.peers c.peers-test.true)
    c.from_residual.ensures.1 c.peers.invariant c.in_err-print_drained_peer.ensures

pub peers-preserved : goal.peers-preserved
peers-preserved g c =
    let f = drained_line_of (g.H.Host.speaker c.args.host.now) in
    gathered_line g.K.Sink.took g.K.Sink.faults _ _ _ _ _ _ (f (c.peers.i + 1))
    (flat_map f (range_with_len (c.peers.i + 1) (c.args.peers - c.peers.i)))
    (flat_map f (range_with_len (c.peers.i + 1 + 1) (c.args.peers - (c.peers.i + 1))))
    (lines_of_peers f c.peers.i c.args.peers c.peers-test.true) c.peers.invariant c.in_ok-print_drained_peer.ensures

use Rattle.std.proofs.Common.{◌+◌, ◌-◌, ◌≤◌, ℕ, flat_map, subst, sym}
use Rattle.std.specs.List.{range_with_len}
use Rattle.bgp_attr.specs.declared.TheConstants.{MAX_CANONICAL}
use Rattle.spk_model.specs.Reports.{adv_lines_of, adv_lines}
use Rattle.spk_model.proofs.GatherLemmas.{gathered_line, gathers_no_line}
use Rattle.spk_model.proofs.PrintLemmas.{lines_of_peers}
use Rattle.spk_model.proofs.report.print_all_advertised.Goals as goal

pub returns-in_err-print_advertised : goal.returns-in_err-print_advertised
returns-in_err-print_advertised g c =
    let s = g.H.Host.speaker c.args.host.now in
    let f = adv_lines_of s in
    gathers_no_line g.K.Sink.took g.K.Sink.faults _ _ _ c.args.page.now
    (adv_lines (g.H.Host.built_from c.args.host.now) s) _
    c.print_advertised.new.page (f (c.peers.i + 1)) (flat_map f
    (range_with_len (c.peers.i + 1) (c.args.peers - c.peers.i)))
    (flat_map f (range_with_len (c.peers.i + 1 + 1) (c.args.peers - (c.peers.i + 1))))
    c.in_err-print_advertised.field-0.0 c.from_residual-in_err-print_advertised.result
    (lines_of_peers f c.peers.i c.args.peers c.peers-test.true)
    c.from_residual-in_err-print_advertised.ensures.1 c.peers.invariant.lines c.in_err-print_advertised.ensures.lines

pub peers-preserved : goal.peers-preserved
peers-preserved g c =
    let f = adv_lines_of (g.H.Host.speaker c.args.host.now) in
    record {
      room = subst (λ (n : ℕ). MAX_CANONICAL ≤ n) (sym c.in_ok-print_advertised.ensures.room) c.peers.invariant.room;
      lines = gathered_line g.K.Sink.took g.K.Sink.faults _ _ _ _ _ _ (f (c.peers.i + 1))
          (flat_map f (range_with_len (c.peers.i + 1) (c.args.peers - c.peers.i)))
          (flat_map f (range_with_len (c.peers.i + 1 + 1) (c.args.peers - (c.peers.i + 1))))
          (lines_of_peers f c.peers.i c.args.peers c.peers-test.true) c.peers.invariant.lines
          c.in_ok-print_advertised.ensures.lines;
    }

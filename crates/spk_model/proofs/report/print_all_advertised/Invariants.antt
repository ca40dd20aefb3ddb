use Rattle.std.proofs.Common.{◌++◌, ◌+◌, ◌-◌, ◌≤◌, flat_map}
use Rattle.std.specs.List.{range_with_len}
use Rattle.xb_io.specs.Pages.{Gathered}
use Rattle.bgp_attr.specs.declared.TheConstants.{MAX_CANONICAL}
use Rattle.spk_model.specs.Reports.{adv_lines_of, adv_lines}
use Rattle.spk_model.proofs.report.print_all_advertised.Given as goal

-- the lines so far are gathered, and those of the peers that are left are still to come
abbrev pub invariant-peers : goal.invariant-peers
invariant-peers g l =
    let s = g.H.Host.speaker l.host in
    record {
      room : MAX_CANONICAL ≤ l.section.capacity;
      lines : Gathered g.K.Sink.took g.K.Sink.faults l.fn.sink l.sink
          (l.fn.page ++ adv_lines (g.H.Host.built_from l.host) s) l.page
          (flat_map (adv_lines_of s) (range_with_len (l.i + 1) (l.peers - l.i)));
    }

use Rattle.std.proofs.Common.{◌≡◌, ◌+◌, ◌-◌, ◌*◌, ◌≤◌, ◌++◌, length, drop, flat_map}
use Rattle.std.specs.List.{slice_index_or}
use Rattle.bgp_attr.specs.declared.TheConstants.{MAX_CANONICAL}
use Rattle.xbgp_config.specs.WorkConfig.{work_peers}
use Rattle.spk_model.specs.Reports.{end_line}
use Rattle.xbgp_top.specs.Summaries.{peer_line, shown_summary}
use Rattle.xbgp_top.specs.declared.work.TheConstants.{PEER_ROOM}
use Rattle.xbgp_top.proofs.work.summary_lines.Given as goal

-- the lines so far and those of the peers that are left, for which there is room
abbrev pub invariant-peers : goal.invariant-peers
invariant-peers g l =
    let s = g.H.Host.speaker l.host in
    record {
      section : MAX_CANONICAL ≤ l.section.capacity;
      room : length l.text.octets + PEER_ROOM * (4 - l.i) + 4 ≤ l.text.capacity;
      lines :
          l.text.octets
          ++ (flat_map (peer_line s (λ p. slice_index_or l.counts p 0)) (drop l.i work_peers) ++ end_line)
          ≡ shown_summary l.fn.count s l.counts;
    }

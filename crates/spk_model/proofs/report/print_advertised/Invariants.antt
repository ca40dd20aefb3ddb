use Rattle.std.proofs.Common.{◌≡◌, ◌++◌, length, flat_map}
use Rattle.xb_words.specs.Table.{entries_after}
use Rattle.xb_values.specs.Prefixes.{prefix_cmp}
use Rattle.xb_io.specs.Pages.{Gathered}
use Rattle.spk_model.specs.Routing.{tables_of}
use Rattle.spk_model.specs.Reports.{adv_line_of, adv_lines_of}
use Rattle.spk_model.proofs.report.print_advertised.Given as goal

-- the lines so far are gathered, and those of the sections after the last prefix are still to come
abbrev pub invariant-prefixes : goal.invariant-prefixes
invariant-prefixes g l =
    let s = g.H.Host.speaker l.host in
    record {
      room : l.section.capacity ≡ l.fn.section.capacity;
      lines : Gathered g.K.Sink.took g.K.Sink.faults l.fn.sink l.sink (l.fn.page ++ adv_lines_of s l.peer) l.page
          (flat_map (adv_line_of l.peer) (entries_after prefix_cmp (tables_of s.routing l.peer).adv l.after));
    }

-- the sections after the last prefix
abbrev pub decreases-prefixes : goal.decreases-prefixes
decreases-prefixes g l =
    length (entries_after prefix_cmp (tables_of (g.H.Host.speaker l.host).routing l.peer).adv l.after)

use Rattle.std.proofs.Common.{◌++◌, ◌≤◌, length, flat_map}
use Rattle.xb_words.specs.Table.{entries_after}
use Rattle.xb_values.specs.Prefixes.{prefix_cmp}
use Rattle.xb_io.specs.Pages.{Gathered}
use Rattle.bgp_attr.specs.declared.TheConstants.{MAX_CANONICAL}
use Rattle.spk_model.specs.Reports.{route_line_of, route_lines}
use Rattle.spk_model.proofs.report.print_routes.Given as goal

-- the lines so far are gathered, and those of the routes after the last prefix are still to come
abbrev pub invariant-routes : goal.invariant-routes
invariant-routes g l =
    let s = g.H.Host.speaker l.host in
    record {
      room : MAX_CANONICAL ≤ l.section.capacity;
      lines : Gathered g.K.Sink.took g.K.Sink.faults l.fn.sink l.sink (l.fn.page ++ route_lines s) l.page
          (flat_map route_line_of (entries_after prefix_cmp (s.routing).best l.after));
    }

-- the routes after the last prefix
abbrev pub decreases-routes : goal.decreases-routes
decreases-routes g l = length (entries_after prefix_cmp ((g.H.Host.speaker l.host).routing).best l.after)

use Rattle.std.proofs.Common.{◌++◌, length}
use Rattle.xb_io.specs.Pages.{Gathered}
use Rattle.xbgp_top.specs.Answers.{heard_lines}
use Rattle.xbgp_top.proofs.hear.gather_table.Given as goal

-- the lines so far are gathered, and those of the entries that are left are still to come
abbrev pub invariant-entries : goal.invariant-entries
invariant-entries g l =
    Gathered g.K.Sink.took g.K.Sink.faults l.fn.sink l.sink (l.fn.page.octets ++ heard_lines l.table) l.page.octets
    (heard_lines l.entries)

abbrev pub decreases-entries : goal.decreases-entries
decreases-entries g l = length l.entries

use Rattle.std.proofs.Common.{◌++◌, drop, flat_map}
use Rattle.xb_io.specs.Pages.{Gathered}
use Rattle.spk_model.specs.Reports.{all_causes, fault_line_of, program_fault_lines}
use Rattle.spk_model.proofs.report.print_program_faults.Given as goal

-- the lines so far are gathered, and those of the causes that are left are still to come
abbrev pub invariant-causes : goal.invariant-causes
invariant-causes g l =
    let s = g.H.Host.speaker l.host in
    Gathered g.K.Sink.took g.K.Sink.faults l.fn.sink l.sink
    (l.fn.page ++ program_fault_lines s l.program l.name l.point) l.page
    (flat_map (fault_line_of s l.program l.name l.point) (drop l.cause-index all_causes))

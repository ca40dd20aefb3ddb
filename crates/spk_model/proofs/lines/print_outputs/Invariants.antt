use Rattle.std.proofs.Common.{◌++◌, drop}
use Rattle.xb_io.specs.Pages.{Gathered}
use Rattle.spk_model.specs.Reports.{output_lines}
use Rattle.spk_model.proofs.lines.print_outputs.Given as goal

-- the lines so far are gathered, and those of the outputs that are left are still to come
abbrev pub invariant-outputs : goal.invariant-outputs
invariant-outputs g l =
    Gathered g.K.Sink.took g.K.Sink.faults l.fn.sink l.sink (l.fn.page ++ output_lines l.outputs) l.page
    (output_lines (drop l.i l.outputs))

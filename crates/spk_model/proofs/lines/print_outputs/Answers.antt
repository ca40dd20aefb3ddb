use Rattle.std.proofs.Common.{◌+◌, drop}
use Rattle.xb_domain.specs.Views.{output_view}
use Rattle.table_print.specs.Lines.{output_line}
use Rattle.spk_model.specs.Reports.{output_lines}
use Rattle.spk_model.proofs.GatherLemmas.{gathered_line, gathers_no_line}
use Rattle.spk_model.proofs.PrintLemmas.{lines_at}
use Rattle.spk_model.proofs.lines.print_outputs.Goals as goal

pub outputs-preserved : goal.outputs-preserved
outputs-preserved g c =
    let os = c.args.outputs.now in
    gathered_line g.K.Sink.took g.K.Sink.faults _ _ _ _ _ _ (output_line (output_view c.get.result))
    (output_lines (drop c.outputs.i os)) (output_lines (drop (c.outputs.i + 1) os))
    (lines_at output_line os c.outputs.i (output_view c.get.result) c.get.ensures) c.outputs.invariant
    c.in_ok-output.ensures

pub returns-in_err-output : goal.returns-in_err-output
returns-in_err-output g c =
    let os = c.args.outputs.now in
    gathers_no_line g.K.Sink.took g.K.Sink.faults _ _ _ c.args.page.now (output_lines os) _ c.output.new.self
    (output_line (output_view c.get.result)) (output_lines (drop c.outputs.i os))
    (output_lines (drop (c.outputs.i + 1) os))
    c.in_err-output.field-0.0 c.from_residual.result
    (lines_at output_line os c.outputs.i (output_view c.get.result) c.get.ensures) c.from_residual.ensures.1
    c.outputs.invariant c.in_err-output.ensures

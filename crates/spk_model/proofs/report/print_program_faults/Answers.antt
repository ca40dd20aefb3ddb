use Rattle.std.proofs.Common.{◌+◌, drop, flat_map}
use Rattle.std.proofs.lemmas.Option.{slice_get-get_or}
use Rattle.xb_io.proofs.PageLemmas.{gathered_begin}
use Rattle.spk_model.specs.Reports.{all_causes, fault_line_of, program_fault_lines}
use Rattle.spk_model.proofs.GatherLemmas.{gathered_line, gathers_no_line}
use Rattle.spk_model.proofs.PrintLemmas.{lines_at}
use Rattle.spk_model.proofs.report.print_program_faults.Goals as goal

pub causes-init : goal.causes-init
causes-init g c =
    gathered_begin g.K.Sink.took g.K.Sink.faults _ c.args.page.now
    (program_fault_lines (g.H.Host.speaker c.args.host.now) c.args.program c.args.name.now c.args.point)

pub returns-in_err-print_fault : goal.returns-in_err-print_fault
returns-in_err-print_fault g c =
    let f = fault_line_of (g.H.Host.speaker c.args.host.now) c.args.program c.args.name.now c.args.point in
    gathers_no_line g.K.Sink.took g.K.Sink.faults _ _ _ c.args.page.now (flat_map f all_causes) _ c.print_fault.new.page
    _ (flat_map f (drop c.causes.cause-index all_causes)) (flat_map f (drop (c.causes.cause-index + 1) all_causes))
    c.in_err-print_fault.field-0.0 c.from_residual.result
    (lines_at f all_causes c.causes.cause-index _ (slice_get-get_or all_causes c.causes.cause-index _
    c.causes-test.true))
    c.from_residual.ensures.1 c.causes.invariant c.in_err-print_fault.ensures

pub causes-preserved : goal.causes-preserved
causes-preserved g c =
    let f = fault_line_of (g.H.Host.speaker c.args.host.now) c.args.program c.args.name.now c.args.point in
    gathered_line g.K.Sink.took g.K.Sink.faults _ _ _ _ _ _ _
    (flat_map f (drop c.causes.cause-index all_causes)) (flat_map f (drop (c.causes.cause-index + 1) all_causes))
    (lines_at f all_causes c.causes.cause-index _ (slice_get-get_or all_causes c.causes.cause-index _
    c.causes-test.true)) c.causes.invariant c.in_ok-print_fault.ensures

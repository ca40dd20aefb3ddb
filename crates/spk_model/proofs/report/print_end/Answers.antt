use Rattle.std.proofs.Common.{◌≡◌, ◌++◌, ap, subst, sym}
use Rattle.xb_io.specs.Pages.{Gathers}
use Rattle.xb_io.proofs.PageLemmas.{gathers_stopped, gathers_then, stops_append}
use Rattle.spk_model.specs.Reports.{end_line, table_lines}
use Rattle.spk_model.specs.Ends.{end_text}
use Rattle.spk_model.proofs.report.print_end.Goals as goal

pub returns-in_err-print_tables-in-Whole : goal.returns-in_err-print_tables-in-Whole
returns-in_err-print_tables-in-Whole g c =
    let host = c.in-Whole.host in
    let tables = table_lines (g.H.Host.built_from host) (g.H.Host.speaker host) in
    let text : end_text g.H.Host.built_from g.H.Host.speaker c.args.end.now ≡ tables ++ end_line =
    ap (end_text g.H.Host.built_from g.H.Host.speaker) c.in-Whole.is in
    subst (λ l. Gathers g.K.Sink.took g.K.Sink.faults c.args.sink.now c.print_tables.new.sink c.args.page.now
    c.print_tables.new.page l c.from_residual.result)
    (sym text)
    (gathers_stopped g.K.Sink.took g.K.Sink.faults _ _ c.args.page.now c.print_tables.new.page (tables ++ end_line) _
    c.from_residual.result c.from_residual.ensures.1
    (stops_append g.K.Sink.took g.K.Sink.faults _ _ c.args.page.now tables end_line _
    c.in_err-print_tables-in-Whole.ensures))

pub returns-in_ok-print_tables-in-Whole : goal.returns-in_ok-print_tables-in-Whole
returns-in_ok-print_tables-in-Whole g c =
    let host = c.in-Whole.host in
    let tables = table_lines (g.H.Host.built_from host) (g.H.Host.speaker host) in
    let text : end_text g.H.Host.built_from g.H.Host.speaker c.args.end.now ≡ tables ++ end_line =
    ap (end_text g.H.Host.built_from g.H.Host.speaker) c.in-Whole.is in
    subst (λ l. Gathers g.K.Sink.took g.K.Sink.faults c.args.sink.now c.text.new.sink c.args.page.now c.text.new.self l
    c.text.result)
    (sym text)
    (gathers_then g.K.Sink.took g.K.Sink.faults _ _ _ c.args.page.now c.print_tables.new.page c.text.new.self tables
    end_line c.text.result c.in_ok-print_tables-in-Whole.ensures c.text.ensures)

use Rattle.std.proofs.Common.{rules, ◌≡◌, []}
use Rattle.spk_model.specs.Reports.{end_line}
use Rattle.xbgp_top.specs.Answers.{heard_lines}
use Rattle.xbgp_top.proofs.OutputLemmas.{puts_end, puts_stopped, stops_end, stops_lines}
use Rattle.xbgp_top.proofs.hear.put_table.Goals as goal

pub returns-in_err-gather_table : goal.returns-in_err-gather_table
returns-in_err-gather_table g c =
    let empty : c.in_ok-page.page.octets ≡ [] = search rules in
    puts_stopped g.K.Sink.took g.K.Sink.faults _ _ _ c.in_err-gather_table.field-0.0 _
    c.from_residual-in_err-gather_table.ensures.1
    (stops_lines g.K.Sink.took g.K.Sink.faults _ _ c.in_ok-page.page.octets (heard_lines c.args.table.now) end_line _
    empty c.in_err-gather_table.ensures)

pub returns-in_err-gather : goal.returns-in_err-gather
returns-in_err-gather g c =
    let empty : c.in_ok-page.page.octets ≡ [] = search rules in
    puts_stopped g.K.Sink.took g.K.Sink.faults _ _ _ c.in_err-gather.field-0.0 _ c.from_residual-in_err-gather.ensures.1
    (stops_end g.K.Sink.took g.K.Sink.faults _ _ _ c.in_ok-page.page.octets (heard_lines c.args.table.now)
    c.gather_table.new.page.octets c.gather.new.page.octets end_line _ empty c.in_ok-gather_table.ensures
    c.in_err-gather.ensures)

pub returns : goal.returns
returns g c =
    let empty : c.in_ok-page.page.octets ≡ [] = search rules in
    puts_end g.K.Sink.took g.K.Sink.faults _ _ _ _ c.in_ok-page.page.octets (heard_lines c.args.table.now)
    c.gather_table.new.page.octets c.gather.new.page.octets _ end_line _ empty c.in_ok-gather_table.ensures
    c.in_ok-gather.ensures c.as_slice.ensures.value c.put_text.ensures

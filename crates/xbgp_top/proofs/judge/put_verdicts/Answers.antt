use Rattle.std.proofs.Common.{rules, ◌≡◌, []}
use Rattle.bgp_attr.specs.Paths.{width_of}
use Rattle.spk_model.specs.Reports.{end_line}
use Rattle.xbgp_top.specs.Answers.{judge_lines}
use Rattle.xbgp_top.proofs.OutputLemmas.{puts_end, puts_stopped, stops_end, stops_lines}
use Rattle.xbgp_top.proofs.judge.put_verdicts.Goals as goal

pub returns-in_err-gather_verdicts : goal.returns-in_err-gather_verdicts
returns-in_err-gather_verdicts g c =
    let empty : c.in_ok-page.page.octets ≡ [] = search rules in
    puts_stopped g.K.Sink.took g.K.Sink.faults _ _ _ c.in_err-gather_verdicts.field-0.0 _
    c.from_residual-in_err-gather_verdicts.ensures.1
    (stops_lines g.K.Sink.took g.K.Sink.faults _ _ c.in_ok-page.page.octets
    (judge_lines (width_of c.args.wide) c.args.octets.now) end_line _ empty c.in_err-gather_verdicts.ensures)

pub returns-in_err-gather : goal.returns-in_err-gather
returns-in_err-gather g c =
    let empty : c.in_ok-page.page.octets ≡ [] = search rules in
    puts_stopped g.K.Sink.took g.K.Sink.faults _ _ _ c.in_err-gather.field-0.0 _ c.from_residual-in_err-gather.ensures.1
    (stops_end g.K.Sink.took g.K.Sink.faults _ _ _ c.in_ok-page.page.octets
    (judge_lines (width_of c.args.wide) c.args.octets.now) c.gather_verdicts.new.page.octets
    c.gather.new.page.octets end_line _ empty c.in_ok-gather_verdicts.ensures c.in_err-gather.ensures)

pub returns : goal.returns
returns g c =
    let empty : c.in_ok-page.page.octets ≡ [] = search rules in
    puts_end g.K.Sink.took g.K.Sink.faults _ _ _ _ c.in_ok-page.page.octets
    (judge_lines (width_of c.args.wide) c.args.octets.now) c.gather_verdicts.new.page.octets
    c.gather.new.page.octets _ end_line _ empty c.in_ok-gather_verdicts.ensures c.in_ok-gather.ensures
    c.as_slice.ensures.value c.put_text.ensures

use Rattle.xbgp_top.specs.Answers.{rule_of}
use Rattle.xbgp_top.specs.Summaries.{work_text}
use Rattle.xbgp_top.specs.Views.{text_view}
use Rattle.xbgp_top.proofs.TopLemmas.{writes_given}
use Rattle.xbgp_top.proofs.entry.play_work.Goals as goal

pub returns : goal.returns
returns g c =
    writes_given g.K.Sink.took g.K.Sink.faults _ _ c.print_text.result
    (work_text (rule_of c.args.host) c.args.number c.args.count) (text_view c.work_lines-text.result)
    c.work_lines-text.ensures c.print_text.ensures.writes

use Rattle.std.proofs.Common.{◌++◌, sym}
use Rattle.bgp_attr.specs.Paths.{width_of}
use Rattle.spk_model.specs.Reports.{end_line}
use Rattle.xbgp_top.specs.Answers.{judge_lines}
use Rattle.xbgp_top.proofs.JudgeLemmas.{judge_outcome-none}
use Rattle.xbgp_top.proofs.OutputLemmas.{writes_text}
use Rattle.xbgp_top.proofs.judge.print_judged.Goals as goal

pub returns-in-None : goal.returns-in-None
returns-in-None g c =
    writes_text g.K.Sink.took g.K.Sink.faults _ _ (judge_lines (width_of c.args.wide) c.args.octets.now ++ end_line)
    c.put_verdicts.result _ c.end_status.result
    (judge_outcome-none (width_of c.args.wide) c.args.octets.now (sym c.in-None.ensures)) c.end_status.ensures
    c.put_verdicts.ensures

use Rattle.std.proofs.Common.{◌++◌}
use Rattle.spk_model.specs.Reports.{end_line}
use Rattle.xbgp_top.specs.Answers.{heard_lines}
use Rattle.xbgp_top.proofs.HearLemmas.{heard_outcome-ok}
use Rattle.xbgp_top.proofs.OutputLemmas.{writes_text}
use Rattle.xbgp_top.proofs.hear.print_heard.Goals as goal

pub returns-in-Ok : goal.returns-in-Ok
returns-in-Ok g c =
    writes_text g.K.Sink.took g.K.Sink.faults _ _ (heard_lines c.in-Ok.table ++ end_line) c.put_table.result _
    c.end_status.result
    (heard_outcome-ok c.args.octets.now c.in-Ok.table c.in-Ok.ensures) c.end_status.ensures c.put_table.ensures

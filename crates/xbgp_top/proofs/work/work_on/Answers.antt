use Rattle.std.proofs.Common.{Ok, ap}
use Rattle.xbgp_top.proofs.WorkLemmas.{work_shown}
use Rattle.xbgp_top.proofs.work.work_on.Goals as goal

pub returns : goal.returns
returns g c =
    ap Ok (work_shown g.H.Host.RULE c.args.number c.args.count _ _ _ _ _ _ c.in_ok-work_setup.ensures
    c.in_ok-host.ensures.speaker c.new.ensures c.in_ok-host-2.ensures.speaker c.in_ok-host-2.ensures.counts
    c.in_ok-summary_lines.ensures)

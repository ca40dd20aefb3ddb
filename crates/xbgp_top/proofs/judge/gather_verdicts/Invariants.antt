use Rattle.std.proofs.Common.{◌++◌, length}
use Rattle.xb_io.specs.Pages.{Gathered}
use Rattle.bgp_attr.specs.Paths.{width_of}
use Rattle.xbgp_top.specs.Answers.{judge_lines}
use Rattle.xbgp_top.proofs.JudgeLemmas.{lines_of}
use Rattle.xbgp_top.proofs.judge.gather_verdicts.Given as goal

-- the lines so far are gathered, and those of the messages that are left are still to come
abbrev pub invariant-messages : goal.invariant-messages
invariant-messages g l =
    Gathered g.K.Sink.took g.K.Sink.faults l.fn.sink l.sink (l.fn.page.octets ++ judge_lines (width_of l.wide) l.octets)
    l.page.octets (lines_of (width_of l.wide) l.messages)

abbrev pub decreases-messages : goal.decreases-messages
decreases-messages g l = length l.messages

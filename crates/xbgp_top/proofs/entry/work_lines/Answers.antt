use Rattle.std.proofs.Common.{Ok, sym, subst}
use Rattle.xbgp_top.specs.Answers.{rule_of}
use Rattle.xbgp_top.specs.Inputs.{Gives}
use Rattle.xbgp_top.specs.Summaries.{work_text}
use Rattle.xbgp_top.specs.Views.{text_view}
use Rattle.xbgp_top.specs.declared.command.HostName.{HostName}
use Rattle.xbgp_top.proofs.entry.work_lines.Goals as goal

pub returns-in-Interned : goal.returns-in-Interned
returns-in-Interned c =
    subst (λ (h : HostName). Gives (Ok (work_text (rule_of h) c.args.number c.args.count)) (text_view c.work_on.result))
    (sym c.in-Interned.is) c.work_on.ensures

pub returns-in-Listed : goal.returns-in-Listed
returns-in-Listed c =
    subst (λ (h : HostName). Gives (Ok (work_text (rule_of h) c.args.number c.args.count))
    (text_view c.work_on-in-Listed.result))
    (sym c.in-Listed.is) c.work_on-in-Listed.ensures

use Rattle.std.proofs.Common.{sym, subst}
use Rattle.xb_io.specs.Causes.{Files}
use Rattle.xbgp_top.specs.Answers.{replay_answer, rule_of, setup_input}
use Rattle.xbgp_top.specs.Top.{Explains}
use Rattle.xbgp_top.specs.declared.command.HostName.{HostName}
use Rattle.xbgp_top.proofs.entry.replay_one.Goals as goal

pub returns-in-Interned-clause-explains : goal.returns-in-Interned-clause-explains
returns-in-Interned-clause-explains g c =
    subst (λ (h : HostName). Explains g.S.Shelf.held g.S.Shelf.faults g.K.Sink.took g.K.Sink.faults c.args.shelf.now
    c.replay_on.new.shelf c.args.sink.now c.replay_on.new.sink
    (λ (files : Files). replay_answer (rule_of h) (setup_input c.args.config.now c.args.manifest.now files)
    c.args.log.now files) c.replay_on.result)
    (sym c.in-Interned.is) c.replay_on.ensures.explains

pub returns-in-Listed-clause-explains : goal.returns-in-Listed-clause-explains
returns-in-Listed-clause-explains g c =
    subst (λ (h : HostName). Explains g.S.Shelf.held g.S.Shelf.faults g.K.Sink.took g.K.Sink.faults c.args.shelf.now
    c.replay_on-in-Listed.new.shelf c.args.sink.now c.replay_on-in-Listed.new.sink
    (λ (files : Files). replay_answer (rule_of h) (setup_input c.args.config.now c.args.manifest.now files)
    c.args.log.now files) c.replay_on-in-Listed.result)
    (sym c.in-Listed.is) c.replay_on-in-Listed.ensures.explains

use Rattle.std.proofs.Common.{sym, subst}
use Rattle.xbgp_top.specs.Answers.{command_answer}
use Rattle.xbgp_top.specs.Commands.{replay}
use Rattle.xbgp_top.specs.Top.{Explains}
use Rattle.xbgp_top.specs.declared.command.Hosts.{Hosts}
use Rattle.xbgp_top.specs.declared.command.Hosts.TheVariants.{One, Both}
use Rattle.xbgp_top.proofs.TopLemmas.{explains_replay}
use Rattle.xbgp_top.proofs.entry.replay_files.Goals as goal

pub returns-in-One-clause-explains : goal.returns-in-One-clause-explains
returns-in-One-clause-explains g c =
    subst (λ (h : Hosts). Explains g.S.Shelf.held g.S.Shelf.faults g.K.Sink.took g.K.Sink.faults c.args.shelf.now
    c.replay_one.new.shelf c.args.sink.now c.replay_one.new.sink
    (command_answer (replay h c.args.config.now c.args.manifest.now c.args.log.now)) c.replay_one.result)
    (sym c.in-One.is)
    (explains_replay g.S.Shelf.held g.S.Shelf.faults g.K.Sink.took g.K.Sink.faults _ _ _ _ c.replay_one.result
    (One c.in-One.host) c.args.config.now c.args.manifest.now c.args.log.now c.replay_one.ensures.explains)

pub returns-in-Both-clause-explains : goal.returns-in-Both-clause-explains
returns-in-Both-clause-explains g c =
    subst (λ (h : Hosts). Explains g.S.Shelf.held g.S.Shelf.faults g.K.Sink.took g.K.Sink.faults c.args.shelf.now
    c.replay_both.new.shelf c.args.sink.now c.replay_both.new.sink
    (command_answer (replay h c.args.config.now c.args.manifest.now c.args.log.now)) c.replay_both.result)
    (sym c.in-Both.is)
    (explains_replay g.S.Shelf.held g.S.Shelf.faults g.K.Sink.took g.K.Sink.faults _ _ _ _ c.replay_both.result Both
    c.args.config.now c.args.manifest.now c.args.log.now c.replay_both.ensures.explains)

use Rattle.std.proofs.Common.{ap}
use Rattle.xb_io.specs.Causes.{Files}
use Rattle.spk_model.specs.declared.host.Setup.{Setup}
use Rattle.xbgp_top.specs.Answers.{Outcome, both_replays, hosts_answer, setup_input}
use Rattle.xbgp_top.specs.declared.command.Hosts.TheVariants.{Both}
use Rattle.xbgp_top.proofs.StopLemmas.{explains_stopped}
use Rattle.xbgp_top.proofs.ThenLemmas.{explains_after}
use Rattle.xbgp_top.proofs.both.replay_both.Goals as goal

pub returns-in-Ok-clause-explains : goal.returns-in-Ok-clause-explains
returns-in-Ok-clause-explains g c =
    let want : Files → Outcome Setup = setup_input c.args.config.now c.args.manifest.now in
    let log = c.args.log.now in
    explains_after g.S.Shelf.held g.S.Shelf.faults g.K.Sink.took g.K.Sink.faults _ _ _ _ _ want (c.in-Ok.kept).setup
    (both_replays (c.in-Ok.kept).setup log) (λ files. hosts_answer Both (want files) log files) c.replay_each.result
    (λ files e. ap (λ (x : Outcome Setup). hosts_answer Both x log files) e) c.in-Ok.ensures.obtains
    c.replay_each.ensures.explains

pub returns-in-Err-clause-explains : goal.returns-in-Err-clause-explains
returns-in-Err-clause-explains g c =
    let want : Files → Outcome Setup = setup_input c.args.config.now c.args.manifest.now in
    explains_stopped g.S.Shelf.held g.S.Shelf.faults g.K.Sink.took g.K.Sink.faults _ _ _ _ c.refuse.result want
    c.in-Err.status (λ files. hosts_answer Both (want files) c.args.log.now files)
    (λ files e. ap (λ (x : Outcome Setup). hosts_answer Both x c.args.log.now files) e)
    c.in-Err.ensures.obtains c.refuse.ensures.writes c.refuse.ensures.read

use Rattle.std.proofs.Common.{ap}
use Rattle.xb_io.specs.Causes.{Files}
use Rattle.spk_model.specs.Playing.{Replayed, replayed}
use Rattle.spk_model.specs.declared.host.Setup.{Setup}
use Rattle.xbgp_top.specs.Answers.{Outcome, replay_answer, replay_done, setup_input}
use Rattle.xbgp_top.proofs.StopLemmas.{explains_stopped}
use Rattle.xbgp_top.proofs.ThenLemmas.{explains_after, explains_played, missing_played}
use Rattle.xbgp_top.proofs.replay.replay_on.Goals as goal

pub returns-in-Ok-clause-explains : goal.returns-in-Ok-clause-explains
returns-in-Ok-clause-explains g c =
    let want : Files → Outcome Setup = setup_input c.args.config.now c.args.manifest.now in
    let log = c.args.log.now in
    let played : Files → Replayed = replayed g.H.Host.RULE c.in-Ok.setup log in
    explains_after g.S.Shelf.held g.S.Shelf.faults g.K.Sink.took g.K.Sink.faults _ _ _ _ _ want c.in-Ok.setup
    (λ files. replay_done (played files)) (λ files. replay_answer g.H.Host.RULE (want files) log files) c.from.result
    (λ files e. ap (λ (x : Outcome Setup). replay_answer g.H.Host.RULE x log files) e) c.in-Ok.ensures
    (explains_played g.S.Shelf.held g.S.Shelf.faults g.K.Sink.took g.K.Sink.faults _ _ _ _ log played c.replay.result
    c.from.result c.from.ensures (missing_played g.H.Host.RULE c.in-Ok.setup log) (record {
      exact = c.replay.ensures.exact;
      whole = c.replay.ensures.whole;
      front = c.replay.ensures.front;
      read_cause = c.replay.ensures.read_cause;
      write_cause = c.replay.ensures.write_cause;
      quiet_shelf = c.replay.ensures.quiet_shelf;
      quiet_sink = c.replay.ensures.quiet_sink;
      later_shelf = c.replay.ensures.later_shelf;
      later_sink = c.replay.ensures.later_sink;
      same = c.replay.ensures.same;
    }))

pub returns-in-Err-clause-explains : goal.returns-in-Err-clause-explains
returns-in-Err-clause-explains g c =
    let want : Files → Outcome Setup = setup_input c.args.config.now c.args.manifest.now in
    explains_stopped g.S.Shelf.held g.S.Shelf.faults g.K.Sink.took g.K.Sink.faults _ _ _ _ c.refuse.result want
    c.in-Err.status (λ files. replay_answer g.H.Host.RULE (want files) c.args.log.now files)
    (λ files e. ap (λ (x : Outcome Setup). replay_answer g.H.Host.RULE x c.args.log.now files) e)
    c.in-Err.ensures c.refuse.ensures.writes c.refuse.ensures.read

use Rattle.std.proofs.Common.{subst, ℕ}
use Rattle.host_interned.proofs.FollowingLemmas.{goes_weaker}
use Rattle.xb_values.specs.Prefixes.{prefixes}
use Rattle.xbgp_points.specs.Engines.{Answers}
use Rattle.xbgp_points.specs.Points.{receive}
use Rattle.host_interned.proofs.UpdateLemmas.{receives, receives_not}
use Rattle.host_interned.proofs.routing.Core.receive.Goals as goal

pub returns-then-accepts : goal.returns-then-accepts
returns-then-accepts c =
    let a = c.args.self.now in
    goes_weaker c.announce_each.result _ _ a _ _
    (λ d. receives a c.receive-outcome.new.self c.announce_each.new.self c.args.sessions.now c.args.now c.args.peer
    c.args.side.now c.args.body.now (prefixes c.args.nlri.now) c.receive-outcome.new.route c.receive-outcome.result
    c.requires.ready c.requires.side
    (subst (λ (n : ℕ). Answers (receive a.engine.manifest a.engine.local a.engine.engine n c.args.side.now
    a.received.route c.args.body.now) a.engine c.receive-outcome.new.self c.receive-outcome.result
    c.receive-outcome.new.route.route) c.from.ensures c.receive-outcome.ensures.answers)
    c.if-accepts.ensures d)
    c.announce_each.ensures

pub returns : goal.returns
returns c =
    let a = c.args.self.now in
    receives_not a c.receive-outcome.new.self c.drop_all.new.self c.args.sessions.now c.args.now c.args.peer
    c.args.side.now c.args.body.now (prefixes c.args.nlri.now) c.receive-outcome.new.route c.receive-outcome.result
    c.requires.ready c.requires.side
    (subst (λ (n : ℕ). Answers (receive a.engine.manifest a.engine.local a.engine.engine n c.args.side.now
    a.received.route c.args.body.now) a.engine c.receive-outcome.new.self c.receive-outcome.result
    c.receive-outcome.new.route.route) c.from.ensures c.receive-outcome.ensures.answers)
    c.if-accepts.ensures c.drop_all.ensures

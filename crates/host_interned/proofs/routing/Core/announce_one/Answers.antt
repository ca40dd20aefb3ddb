use Rattle.std.proofs.Common.{sym, ap, subst, ℕ, true, false}
use Rattle.std.proofs.lemmas.Result.{on_ok_weaker, on_err_weaker}
use Rattle.xbgp_view.specs.Views.{Edited}
use Rattle.xbgp_points.specs.Engines.{Answers, Kept}
use Rattle.xbgp_points.specs.Points.{inbound}
use Rattle.spk_routes.specs.Sound.{IsSound}
use Rattle.spk_routes.proofs.SoundLemmas.{keeps_sound}
use Rattle.host_interned.proofs.ShownLemmas.{ready_same}
use Rattle.host_interned.proofs.UpdateLemmas.{announces_one}
use Rattle.host_interned.proofs.routing.Core.announce_one.Goals as goal

pub returns-then-accepts-clause-does : goal.returns-then-accepts-clause-does
returns-then-accepts-clause-does c =
    let a = c.args.self.now in
    let p = c.args.peer in
    on_ok_weaker c.put.result
    (λ e. announces_one a c.inbound-outcome.new.self c.put.new.self c.load.new.self
    c.inbound-outcome.new.route c.args.sessions.now c.args.now p c.args.side.now c.local_of.result c.args.prefix
    c.inbound-outcome.result c.inbound_native.result true
    c.requires.ready c.requires.side
    (ap (λ (x : Edited). x.route) c.load.ensures)
    (subst (λ (n : ℕ). Answers (inbound a.engine.manifest a.engine.local a.engine.engine n c.args.side.now
    c.args.prefix c.load.new.self.route) a.engine c.inbound-outcome.new.self c.inbound-outcome.result
    c.inbound-outcome.new.route.route) c.from.ensures c.inbound-outcome.ensures.answers)
    c.local_of.ensures.value c.inbound_native.ensures c.if-accepts.ensures e)
    c.put.ensures.ok

pub returns-then-accepts-clause-ready : goal.returns-then-accepts-clause-ready
returns-then-accepts-clause-ready c =
    let a = c.args.self.now in
    on_err_weaker c.put.result
    (λ e. ready_same a c.inbound-outcome.new.self c.put.new.self a.received c.inbound-outcome.new.route a.exporter
    c.requires.ready (ap (λ (k : Kept). k.local) c.inbound-outcome.ensures.answers.after) e)
    c.put.ensures.err

pub returns-else-accepts-clause-does : goal.returns-else-accepts-clause-does
returns-else-accepts-clause-does c =
    let a = c.args.self.now in
    let p = c.args.peer in
    announces_one a c.inbound-outcome.new.self c.remove.new.self c.load.new.self
    c.inbound-outcome.new.route c.args.sessions.now c.args.now p c.args.side.now c.local_of.result c.args.prefix
    c.inbound-outcome.result c.inbound_native.result false
    c.requires.ready c.requires.side
    (ap (λ (x : Edited). x.route) c.load.ensures)
    (subst (λ (n : ℕ). Answers (inbound a.engine.manifest a.engine.local a.engine.engine n c.args.side.now
    c.args.prefix c.load.new.self.route) a.engine c.inbound-outcome.new.self c.inbound-outcome.result
    c.inbound-outcome.new.route.route) c.from.ensures c.inbound-outcome.ensures.answers)
    c.local_of.ensures.value c.inbound_native.ensures c.if-accepts.ensures c.remove.ensures

pub put-requires-clause-sound : goal.put-requires-clause-sound
put-requires-clause-sound c =
    keeps_sound c.load.new.self.route c.inbound-outcome.new.route.route c.inbound-outcome.ensures.keeps
    (subst IsSound (sym (ap (λ (x : Edited). x.route) c.load.ensures)) c.requires.sound)

use Rattle.std.proofs.Common.{◌≤◌, ◌∙◌, sym, subst, ℕ, Option, Some, None}
use Rattle.std.specs.Prelude.{IsSome}
use Rattle.bgp_attr.specs.Routes.{Route}
use Rattle.host_interned.specs.Ribs.{route_from}
use Rattle.host_interned.specs.Deciding.{IsWinner}
use Rattle.host_interned.proofs.DecideLemmas.{decides}
use Rattle.host_interned.proofs.ShownLemmas.{ready_same}
use Rattle.host_interned.proofs.FollowingLemmas.{goes_both, goes_err}
use Rattle.host_interned.proofs.routing.Core.decide.Goals as goal

pub returns-in_err-winner : goal.returns-in_err-winner
returns-in_err-winner c =
    let r = c.requires.ready in
    goes_err c.from_residual.result _ c.args.self.now _
    (record {
      few = r.few;
      local = c.in_err-winner.ensures ∙ r.local;
      own = r.own;
      count = r.count;
      sources = r.sources;
    })
    c.from_residual.ensures.0

pub returns-in-None : goal.returns-in-None
returns-in-None c =
    let a = c.args.self.now in
    decides a c.winner.new.engine c.unset_best.new.self c.args.sessions.now c.args.prefix None c.requires.ready
    c.requires.all
    (subst (λ (o : Option ℕ). IsWinner a.config a.engine c.winner.new.engine a.rib.tables c.args.sessions.now
    c.args.prefix o) c.in-None.is c.in_ok-winner.ensures)
    c.unset_best.ensures

pub set_best-requires-clause-within : goal.set_best-requires-clause-within
set_best-requires-clause-within c =
    let a = c.args.self.now in
    let wins = subst (λ (o : Option ℕ). IsWinner a.config a.engine c.winner.new.engine a.rib.tables c.args.sessions.now
    c.args.prefix o) c.in-Some.is c.in_ok-winner.ensures in
    subst (λ (n : ℕ). c.in-Some.source ≤ n) (sym c.requires.ready.count) wins.within

pub set_best-requires-clause-known : goal.set_best-requires-clause-known
set_best-requires-clause-known c =
    let a = c.args.self.now in
    let wins = subst (λ (o : Option ℕ). IsWinner a.config a.engine c.winner.new.engine a.rib.tables c.args.sessions.now
    c.args.prefix o) c.in-Some.is c.in_ok-winner.ensures in
    subst (λ (r : Route). IsSome (route_from r a.rib.tables c.in-Some.source c.args.prefix)) (sym c.requires.ready.own)
    wins.known

pub returns-in-Some : goal.returns-in-Some
returns-in-Some c =
    let a = c.args.self.now in
    let wins = subst (λ (o : Option ℕ). IsWinner a.config a.engine c.winner.new.engine a.rib.tables c.args.sessions.now
    c.args.prefix o) c.in-Some.is c.in_ok-winner.ensures in
    goes_both c.set_best.result _ a _
    (λ shows. decides a c.winner.new.engine c.set_best.new.self c.args.sessions.now c.args.prefix
    (Some c.in-Some.source)
    c.requires.ready c.requires.all wins shows)
    (λ shows. ready_same a c.winner.new.engine c.set_best.new.self a.received a.route a.exporter c.requires.ready
    wins.local shows)
    c.set_best.ensures.ok c.set_best.ensures.err

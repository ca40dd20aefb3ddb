use Rattle.std.proofs.Common.{◌≤◌, ◌∙◌, sym, subst, List, length, Option, Some, None}
use Rattle.std.specs.List.{AllByRecursion}
use Rattle.xb_values.specs.Prefixes.{Prefix}
use Rattle.spk_model.specs.Routing.{Chosen, Tables}
use Rattle.host_listed.specs.Deciding.{IsWinner}
use Rattle.host_listed.proofs.DecideLemmas.{decides}
use Rattle.host_listed.proofs.FollowingLemmas.{goes_err}
use Rattle.host_listed.proofs.routing.Core.decide.Goals as goal

pub returns-in_err-winner : goal.returns-in_err-winner
returns-in_err-winner c =
    let r = c.requires.ready in
    goes_err c.from_residual.result _ c.args.self.now _
    (record {
      few = r.few;
      local = c.in_err-winner.ensures ∙ r.local;
      own = r.own;
      count = r.count;
      sources = r.sources;
    })
    c.from_residual.ensures.0

pub returns-in_err-insert-in-Some : goal.returns-in_err-insert-in-Some
returns-in_err-insert-in-Some c =
    let r = c.requires.ready in
    goes_err c.from_residual-in_err-insert-in-Some.result _ c.args.self.now _
    (record {
      few = r.few;
      local = c.in_ok-winner.ensures.local ∙ r.local;
      own = r.own;
      count = r.count;
      sources = subst (AllByRecursion (λ (e : Prefix × Chosen). e.1.source ≤ length (c.args.self.now.config).peers))
          (sym c.in_err-insert-in-Some.ensures.err) r.sources;
    })
    c.from_residual-in_err-insert-in-Some.ensures.0

pub returns-in-None : goal.returns-in-None
returns-in-None c =
    let a = c.args.self.now in
    decides a c.winner.new.engine c.remove.new.self c.args.sessions.now c.args.prefix None c.requires.ready
    c.requires.all
    (subst (λ (o : Option Chosen). IsWinner a.config a.engine c.winner.new.engine a.peers.items c.args.sessions.now
    c.args.prefix o) c.in-None.is
    (subst (λ (ts : List Tables). IsWinner a.config a.engine c.winner.new.engine ts c.args.sessions.now
    c.args.prefix c.in_ok-winner.field-0) c.deref.ensures.value c.in_ok-winner.ensures))
    c.remove.ensures.entries

pub returns-in_ok-insert-in-Some : goal.returns-in_ok-insert-in-Some
returns-in_ok-insert-in-Some c =
    let a = c.args.self.now in
    decides a c.winner.new.engine c.insert.new.self c.args.sessions.now c.args.prefix (Some c.in-Some.best)
    c.requires.ready c.requires.all
    (subst (λ (o : Option Chosen). IsWinner a.config a.engine c.winner.new.engine a.peers.items c.args.sessions.now
    c.args.prefix o) c.in-Some.is
    (subst (λ (ts : List Tables). IsWinner a.config a.engine c.winner.new.engine ts c.args.sessions.now
    c.args.prefix c.in_ok-winner.field-0) c.deref.ensures.value c.in_ok-winner.ensures))
    c.in_ok-insert-in-Some.ensures.entries

use Rattle.std.proofs.Common.{sym, refl, arith, ◌∙◌}
use Rattle.spk_routes.specs.Candidates.{shown}
use Rattle.host_interned.proofs.DecideLemmas.{none_wins, one_wins}
use Rattle.host_interned.proofs.decision.winner.Goals as goal

pub returns-then-count-eq0 : goal.returns-then-count-eq0
returns-then-count-eq0 c =
    none_wins c.args.config.now c.args.engine.now c.args.rib.now.tables c.args.sessions.now c.args.prefix
    (shown (λ r. r) c.in_ok-found.found) c.in_ok-found.ensures (sym c.count.ensures ∙ c.if-count-eq0.true)

pub choose-i-requires-clause-few : goal.choose-i-requires-clause-few
choose-i-requires-clause-few c =
    omega (arith, c.in_ok-found.ensures.good.few, c.requires.few, c.requires.count)

pub returns : goal.returns
returns c =
    one_wins c.args.config.now c.args.engine.now c.choose-i.new.engine c.args.rib.now.tables c.args.sessions.now
    c.args.prefix (shown (λ r. r) c.in_ok-found.found) c.choose-i.result c.side.result.now c.side.result.now.number
    c.in_ok-found.ensures c.requires.count c.choose-i.ensures.index c.choose-i.ensures.within
    c.choose-i.ensures.engine c.choose-i.ensures.same.0 c.choose-i.ensures.same.1 c.side.ensures refl

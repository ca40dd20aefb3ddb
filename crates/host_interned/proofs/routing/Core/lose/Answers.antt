use Rattle.std.proofs.Common.{refl}
use Rattle.host_interned.specs.Ribs.{tables_in}
use Rattle.host_interned.proofs.FollowingLemmas.{goes_weaker}
use Rattle.host_interned.proofs.WalkLemmas.{loses}
use Rattle.host_interned.proofs.routing.Core.lose.Goals as goal

pub returns : goal.returns
returns c =
    let a = c.args.self.now in
    let p = c.args.peer in
    goes_weaker c.settle_set.result _ _ a c.clear_tables.new.self c.settle_set.new.self
    (λ d. loses a c.clear_tables.new.self c.settle_set.new.self c.args.sessions.now p (tables_in a.rib p)
    c.in_ok-prefixes.prefixes refl c.in_ok-prefixes.ensures c.in_ok-clear_tables.ensures d)
    c.settle_set.ensures

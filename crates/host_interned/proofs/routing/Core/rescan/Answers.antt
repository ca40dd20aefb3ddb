use Rattle.host_interned.proofs.FollowingLemmas.{goes_weaker}
use Rattle.host_interned.proofs.WalkLemmas.{rescans}
use Rattle.host_interned.proofs.routing.Core.rescan.Goals as goal

pub returns : goal.returns
returns c =
    let a = c.args.self.now in
    goes_weaker c.settle_set.result _ _ a a c.settle_set.new.self
    (λ d. rescans a c.settle_set.new.self c.args.sessions.now c.in_ok-prefixes.prefixes c.in_ok-prefixes.ensures d)
    c.settle_set.ensures

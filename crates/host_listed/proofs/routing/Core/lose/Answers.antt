use Rattle.std.proofs.Common.{◌≤◌, sym, subst, ℕ}
use Rattle.host_listed.proofs.ExportLemmas.{tables_at}
use Rattle.host_listed.proofs.FollowingLemmas.{goes_weaker}
use Rattle.host_listed.proofs.WalkLemmas.{loses}
use Rattle.host_listed.proofs.routing.Core.lose.Goals as goal

pub returns : goal.returns
returns c =
    let a = c.args.self.now in
    let p = c.args.peer in
    goes_weaker c.settle_set.result _ _ a c.clear_tables.new.self c.settle_set.new.self
    (λ d. loses a c.clear_tables.new.self c.settle_set.new.self c.args.sessions.now p c.index.result.now
    c.in_ok-prefixes.prefixes
    (tables_at a.peers.items p c.index.result.now c.requires.least
    (subst (λ (n : ℕ). p ≤ n) (sym c.requires.ready.count) c.requires.most) c.index.ensures)
    c.in_ok-prefixes.ensures c.in_ok-clear_tables.ensures d)
    c.settle_set.ensures

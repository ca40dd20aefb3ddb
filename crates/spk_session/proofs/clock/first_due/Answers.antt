use Rattle.std.proofs.Common.{◌∙◌, ap, sym, subst, length, ◌≡◌, ℕ, Option, arith}
use Rattle.std.specs.Prelude.{IfSome}
use Rattle.std.specs.List.{range_with_len}
use Rattle.spk_model.specs.Turning.{Due}
use Rattle.spk_session.specs.Firing.{first_of}
use Rattle.spk_session.proofs.ClockLemmas.{first_more, first_among, IsAmong}
use Rattle.spk_session.proofs.clock.first_due.Goals as goal

pub peers-preserved : goal.peers-preserved
peers-preserved c =
    let ss = c.args.sessions.now in
    record {
      first = first_more ss c.peers.i c.index-sessions-i.result c.peers.first c.earlier-first.result c.due_of.result
          c.peers-test.true c.index-sessions-i.is c.peers.invariant.first c.due_of.ensures c.earlier-first.ensures;
    }

pub returns-clause-peer : goal.returns-clause-peer
returns-clause-peer c =
    let ss = c.args.sessions.now in
    let all : c.peers.i ≡ length ss = omega (arith, c.peers-test.false, c.peers.auto.i-end) in
    subst (λ (o : Option Due). IfSome o (IsAmong (length ss)))
    (sym (c.peers.invariant.first ∙ ap (λ (n : ℕ). first_of ss (range_with_len 1 n)) all)) (first_among ss (length ss))

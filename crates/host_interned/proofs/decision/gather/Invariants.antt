use Rattle.spk_routes.specs.Candidates.{shown}
use Rattle.host_interned.specs.Deciding.{AreFound}
use Rattle.host_interned.proofs.decision.gather.Given as goal

-- the candidates of the peers so far were found
abbrev pub invariant-peers : goal.invariant-peers
invariant-peers l = record {
  found : AreFound l.config l.sessions l.rib.tables l.prefix l.i (shown (λ r. r) l.found);
}

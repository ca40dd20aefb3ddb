use Rattle.std.proofs.Common.{◌≡◌, replicate}
use Rattle.spk_session.specs.Starting.{own_session}
use Rattle.spk_session.proofs.start.make_sessions.Given as goal

-- the first peers have theirs
abbrev pub invariant-peers : goal.invariant-peers
invariant-peers l = record { made : l.sessions.items ≡ replicate l.i (own_session l.hold) }

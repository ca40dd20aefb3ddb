use Rattle.std.proofs.Common.{◌≡◌}
use Rattle.std.specs.List.{range_with_len}
use Rattle.spk_session.specs.Firing.{first_of}
use Rattle.spk_session.proofs.clock.first_due.Given as goal

-- the first of the first peers
abbrev pub invariant-peers : goal.invariant-peers
invariant-peers l = record { first : l.first ≡ first_of l.sessions (range_with_len 1 l.i) }

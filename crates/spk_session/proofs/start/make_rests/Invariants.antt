use Rattle.std.proofs.Common.{◌≡◌, replicate, []}
use Rattle.spk_session.proofs.start.make_rests.Given as goal

-- the first peers have theirs
abbrev pub invariant-peers : goal.invariant-peers
invariant-peers l = record { made : l.rests.items ≡ replicate l.i ([]) }

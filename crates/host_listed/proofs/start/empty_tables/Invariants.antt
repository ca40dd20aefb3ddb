use Rattle.std.proofs.Common.{◌≡◌, replicate}
use Rattle.spk_model.specs.Routing.{no_tables}
use Rattle.host_listed.proofs.start.empty_tables.Given as goal

-- the first peers have tables
abbrev pub invariant-peers : goal.invariant-peers
invariant-peers l = record { made : l.tables.items ≡ replicate l.i no_tables }

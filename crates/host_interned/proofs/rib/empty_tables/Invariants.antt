use Rattle.std.proofs.Common.{◌≡◌, [], replicate}
use Rattle.host_interned.proofs.rib.empty_tables.Given as goal

-- the first peers have tables
abbrev pub invariant-peers : goal.invariant-peers
invariant-peers l = record {
  made : l.tables.items ≡ replicate l.i (record { sent = []; out = record { adv = []; told = [] } });
}

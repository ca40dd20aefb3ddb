use Rattle.std.proofs.Common.{length}
use Rattle.host_interned.specs.Ribs.{tables_in, with_sent, Shows}
use Rattle.host_interned.proofs.rib.Rib.remove_each.Given as goal

-- the rib differs from that at the start in what the peer sent alone
abbrev pub invariant-prefixes : goal.invariant-prefixes
invariant-prefixes l =
    Shows l.fn.self.own l.fn.self.best (with_sent l.fn.self l.peer (tables_in l.self l.peer).adjin) l.self

abbrev pub decreases-prefixes : goal.decreases-prefixes
decreases-prefixes l = length (tables_in l.self l.peer).adjin

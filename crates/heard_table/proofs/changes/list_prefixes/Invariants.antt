use Rattle.std.proofs.Common.{◌≡◌, ◌+◌, length}
use Rattle.bgp_update.specs.Walks.{prefixes_from}
use Rattle.heard_table.specs.Changes.{listed, IsInTurn}
use Rattle.heard_table.proofs.changes.list_prefixes.Given as goal

-- the prefixes that are left finish the list
abbrev pub invariant-prefixes : goal.invariant-prefixes
invariant-prefixes l = (listed l.part l.prefixes l.list.items ≡ listed l.part (prefixes_from l.octets) l.fn.list.items)
    × IsInTurn (l.part + 1) l.list.items

abbrev pub decreases-prefixes : goal.decreases-prefixes
decreases-prefixes l = length l.prefixes

use Rattle.std.proofs.Common.{◌≡◌, length}
use Rattle.heard_table.specs.Changes.{settled}
use Rattle.heard_table.proofs.table.Entries.next.Given as goal

-- the changes that are left leave the entries that are to come
abbrev pub invariant-changes : goal.invariant-changes
invariant-changes l = settled l.self-inside.parts.now l.self-inside.rest.now ≡ l.fn.self

abbrev pub decreases-changes : goal.decreases-changes
decreases-changes l = length l.self-inside.rest.now

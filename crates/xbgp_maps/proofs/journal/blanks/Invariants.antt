use Rattle.std.proofs.Common.{◌≡◌, length}
use Rattle.xbgp_maps.proofs.journal.blanks.Given as goal

abbrev pub invariant-changes : goal.invariant-changes
invariant-changes l = length l.changes.items ≡ l.counter

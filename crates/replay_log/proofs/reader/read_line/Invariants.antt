use Rattle.std.proofs.Common.{◌≡◌, ℕ, ◌+◌, ◌-◌, ◌≤◌, List, length, Some}
use Rattle.xb_io.specs.Causes.{told_file}
use Rattle.replay_log.specs.Readings.{next_at, AreAhead}
use Rattle.replay_log.specs.declared.limits.TheConstants.{LINE_LIMIT, LOG_LIMIT}
use Rattle.replay_log.proofs.ReadingLemmas.{left_at}
use Rattle.replay_log.proofs.reader.read_line.Given as goal

-- what is left finishes the line, and begins with what was read ahead; no fault came, and the shelf holds what it held
abbrev pub invariant-parts : goal.invariant-parts
invariant-parts g l = record {
  held : g.S.Shelf.held l.shelf ≡ g.S.Shelf.held l.fn.shelf;
  faults : g.S.Shelf.faults l.shelf ≡ g.S.Shelf.faults l.fn.shelf;
  ahead : AreAhead (g.S.Shelf.held l.shelf) l.name l.at l.ahead;
  left : (log : List ℕ) → told_file (g.S.Shelf.held l.fn.shelf) l.name ≡ Some log → left_at l.at l.line.octets log ≡ next_at log l.start;
  moved : l.at ≡ l.start + length l.line.octets;
  within : l.at ≤ LOG_LIMIT;
  short : length l.line.octets ≤ LINE_LIMIT;
  room : l.line.capacity ≡ LINE_LIMIT;
}

abbrev pub decreases-parts : goal.decreases-parts
decreases-parts g l = LINE_LIMIT - length l.line.octets

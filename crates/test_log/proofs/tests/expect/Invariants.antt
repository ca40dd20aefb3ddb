use Rattle.replay_log.specs.Readings.{IsReadAhead}
use Rattle.test_log.proofs.tests.expect.Given as goal

abbrev pub invariant-rows : goal.invariant-rows
invariant-rows g l = IsReadAhead (g.S.Shelf.held l.shelf) l.name l.reader

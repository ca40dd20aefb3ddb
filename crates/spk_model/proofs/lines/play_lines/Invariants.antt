use Rattle.std.proofs.Common.{◌≡◌, ◌≤◌, ◌+◌, ◌-◌, ◌++◌, ℕ, List, Some}
use Rattle.xb_io.specs.Causes.{told_file, IsMissing}
use Rattle.xb_io.specs.Pages.{Gathered}
use Rattle.replay_log.specs.declared.limits.TheConstants.{LOG_LIMIT, OCTETS_LIMIT}
use Rattle.replay_log.specs.Readings.{IsReadAhead}
use Rattle.spk_model.specs.Playing.{coming, text_to_come}
use Rattle.spk_model.proofs.lines.play_lines.Given as goal

-- what is gathered, and what is to come from the reader's offset on, make the whole text
abbrev pub invariant-lines : goal.invariant-lines
invariant-lines g l =
    let setup = g.H.Host.built_from l.fn.host in
    let rule = g.H.Host.RULE in
    let start = g.H.Host.speaker l.fn.host in
    let here = g.H.Host.speaker l.host in
    let held = g.S.Shelf.held l.fn.shelf in
    record {
      built : g.H.Host.built_from l.host ≡ setup;
      clock : l.now ≡ here.clock;
      room : l.octets.capacity ≡ OCTETS_LIMIT;
      number : l.number ≤ l.reader.at + 1;
      within : l.reader.at ≤ LOG_LIMIT;
      ahead : IsReadAhead held l.log l.reader;
      same : g.S.Shelf.held l.shelf ≡ held;
      gathered : (text : List ℕ) → told_file held l.log ≡ Some text
          → Gathered g.K.Sink.took g.K.Sink.faults l.fn.sink l.sink
          (l.fn.page ++ text_to_come setup (coming rule setup text 0 1 start)) l.page
          (text_to_come setup (coming rule setup text l.reader.at l.number here));
      ending : (text : List ℕ) → told_file held l.log ≡ Some text
          → (coming rule setup text l.reader.at l.number here).ending ≡ (coming rule setup text 0 1 start).ending;
      missing : IsMissing held l.log → g.K.Sink.took l.sink ≡ g.K.Sink.took l.fn.sink;
      quiet_shelf : g.S.Shelf.faults l.shelf ≡ g.S.Shelf.faults l.fn.shelf;
      quiet_sink : g.K.Sink.faults l.sink ≡ g.K.Sink.faults l.fn.sink;
    }

-- the octets before the log's limit
abbrev pub decreases-lines : goal.decreases-lines
decreases-lines g l = LOG_LIMIT - l.reader.at

use Rattle.std.proofs.Common.{◌≡◌, length}
use Rattle.xbgp_maps.specs.Journals.{all_taken_back, CanTakeAllBack}
use Rattle.xbgp_maps.proofs.maps.Maps.undo.Given as goal

-- taking back what is left finishes the work
abbrev pub invariant-writes : goal.invariant-writes
invariant-writes l = record {
  can : CanTakeAllBack l.self-inside.journal l.self-inside.tables.items;
  finishes :
      all_taken_back l.self-inside.journal l.self-inside.tables.items
      ≡ all_taken_back l.initial.self-inside.journal l.initial.self-inside.tables.items;
}

abbrev pub decreases-writes : goal.decreases-writes
decreases-writes l = length l.self-inside.journal

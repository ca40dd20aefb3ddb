use Rattle.std.proofs.Common.{◌≡◌, length, map, take}
use Rattle.spk_model.proofs.TournamentLemmas.{rank_of}
use Rattle.spk_model.proofs.tournament.best_within.Given as goal

abbrev pub invariant-loop-i : goal.invariant-loop-i
invariant-loop-i g l = record {
  long : length l.ranks ≡ length l.fn.ranks;
  copied : take l.i l.ranks ≡ map rank_of (take l.i (g.F.Field.candidates l.field));
}

use Rattle.std.proofs.Common.{◌≡◌, ◌<◌}
use Rattle.spk_model.proofs.TournamentLemmas.{Comes}
use Rattle.spk_model.proofs.tournament.choose.Given as goal

abbrev pub invariant-loop-i : goal.invariant-loop-i
invariant-loop-i g l = record {
  before : l.champion < l.i;
  manifest : l.engine.manifest ≡ l.fn.engine.manifest;
  local : l.engine.local ≡ l.fn.engine.local;
  comes : Comes l.fn.engine.manifest l.fn.engine.local l.fn.engine.engine l.fn.prefix (g.F.Field.candidates l.fn.field)
      l.i l.champion l.by_program l.engine.engine;
}

use Rattle.std.proofs.Common.{◌≡◌, refl, sym, ◌∙◌, arith, ◌+◌, ◌<◌}
use Rattle.std.specs.Prelude.{if◌then◌else◌, ◌||◌}
use Rattle.spk_model.specs.Tournaments.{is_verdict}
use Rattle.spk_model.proofs.TournamentLemmas.{comes_first, comes_next, native_choice}
use Rattle.spk_model.proofs.tournament.choose.Goals as goal
use Rattle.spk_model.proofs.tournament.choose.Goals.{then-by_program, else-by_program}
use Rattle.spk_model.proofs.tournament.choose.Goals.{then-is_new_preferred, else-is_new_preferred}

pub returns-then-is_native-clause-index : goal.returns-then-is_native-clause-index
returns-then-is_native-clause-index g c =
    c.best_of_all.ensures.index ∙ sym (native_choice c.args.engine.now.manifest c.args.engine.now.local
    c.args.engine.now.engine c.args.prefix (g.F.Field.candidates c.args.field.now)
    c.if-is_native.ensures c.requires.some).0

pub returns-then-is_native-clause-engine : goal.returns-then-is_native-clause-engine
returns-then-is_native-clause-engine g c =
    sym (native_choice c.args.engine.now.manifest c.args.engine.now.local
    c.args.engine.now.engine c.args.prefix (g.F.Field.candidates c.args.field.now)
    c.if-is_native.ensures c.requires.some).1

pub loop-i-init : goal.loop-i-init
loop-i-init g c = record {
  before = omega arith;
  manifest = refl;
  local = refl;
  comes = comes_first _ _ _ _ _ c.requires.some;
}

pub loop-i-preserved : goal.loop-i-preserved
loop-i-preserved g c =
    let went : c.if-is_new_preferred.champion ≡ (if c.is_new_preferred.result then c.loop-i.i else c.loop-i.champion) =
    elim c.if-is_new_preferred.branch [
      | then-is_new_preferred w ↦ rw w.if-is_new_preferred.true w.champion-is
      | else-is_new_preferred w ↦ rw w.if-is_new_preferred.false w.champion-is
    ] in
    let tells : c.if-by_program.by_program ≡ c.loop-i.by_program || is_verdict c.meet-outcome.result =
    elim c.if-by_program.branch [
      | then-by_program w ↦ rw w.if-by_program.true (w.by_program-is ∙ w.if-by_program.true)
      | else-by_program w ↦ rw w.if-by_program.false (w.by_program-is ∙ w.is_verdict-by_program.ensures)
    ] in
    let fits : c.if-is_new_preferred.champion < c.loop-i.i + 1 =
    elim c.if-is_new_preferred.branch [
      | then-is_new_preferred w ↦ omega (arith, w.champion-is)
      | else-is_new_preferred w ↦ omega (arith, w.champion-is, c.loop-i.invariant.before)
    ] in
    record {
      before = fits;
      manifest = c.meet-outcome.ensures.same.0 ∙ c.loop-i.invariant.manifest;
      local = c.meet-outcome.ensures.same.1 ∙ c.loop-i.invariant.local;
      comes = comes_next _ _ _ _ _ _ _ _ _ _ _ _ _ _ c.loop-i.invariant.comes c.loop-i.invariant.manifest
          c.loop-i.invariant.local (omega arith) (omega arith) c.meet-outcome.ensures.ran
          c.is_new_preferred.ensures went tells;
    }

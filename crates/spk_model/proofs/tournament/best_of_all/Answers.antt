use Rattle.std.proofs.Common.{sym, ◌∙◌}
use Rattle.spk_model.proofs.TournamentLemmas.{survivor-alone}
use Rattle.spk_model.proofs.tournament.best_of_all.Goals as goal

pub returns-then-count-eq1-clause-index : goal.returns-then-count-eq1-clause-index
returns-then-count-eq1-clause-index g c =
    survivor-alone (g.F.Field.candidates c.args.field.now) (sym c.count.ensures ∙ c.if-count-eq1.true) c.requires.apart

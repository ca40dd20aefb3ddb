use Rattle.spk_model.proofs.TournamentLemmas.{ranks_apart, second_better}
use Rattle.spk_model.proofs.tournament.is_second_better.Goals as goal

pub survivor-requires-clause-apart : goal.survivor-requires-clause-apart
survivor-requires-clause-apart g c =
    ranks_apart _ _ _ _ _ c.requires.apart c.requires.order c.requires.within c.rank.ensures c.rank-2.ensures

pub returns : goal.returns
returns g c = λ d.
    second_better _ _ _ _ _ _ d c.requires.order c.requires.within c.rank.ensures c.rank-2.ensures
    c.survivor.ensures.index

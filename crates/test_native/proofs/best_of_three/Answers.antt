use Rattle.test_native.proofs.ApartLemmas.{AreApart-three}
use Rattle.test_native.proofs.best_of_three.Goals as goal

pub survivor-requires-clause-apart : goal.survivor-requires-clause-apart
survivor-requires-clause-apart c =
    AreApart-three c.args.a c.args.b c.args.c c.requires.first c.requires.ends c.requires.last

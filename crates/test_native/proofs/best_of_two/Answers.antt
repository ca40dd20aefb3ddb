use Rattle.std.proofs.Common.{ap, sym}
use Rattle.spk_native.proofs.LeftLemmas.{no_rank}
use Rattle.spk_native.specs.Laws.{first_or}
use Rattle.test_native.proofs.ApartLemmas.{AreApart-two}
use Rattle.test_native.proofs.best_of_two.Goals as goal

pub survivor-requires-clause-apart : goal.survivor-requires-clause-apart
survivor-requires-clause-apart c = AreApart-two c.args.a c.args.b c.requires

pub returns : goal.returns
returns c = ap (first_or c.args.a) (sym (c.survivor.ensures.alone no_rank))

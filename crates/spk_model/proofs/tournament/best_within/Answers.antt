use Rattle.std.proofs.Common.{arith}
use Rattle.std.proofs.lemmas.List.{length-set}
use Rattle.spk_model.proofs.TournamentLemmas.{ranks_more, ranks_filled, AreApart-ranks}
use Rattle.spk_model.proofs.tournament.best_within.Goals as goal

pub loop-i-preserved : goal.loop-i-preserved
loop-i-preserved g c = record {
  long = rw length-set c.loop-i.invariant.long;
  copied = ranks_more _ _ _ _ (omega arith) (omega arith) c.rank.ensures c.loop-i.invariant.copied;
}

pub survivor-requires-clause-apart : goal.survivor-requires-clause-apart
survivor-requires-clause-apart g c =
    let filled = ranks_filled c.loop-i.ranks (g.F.Field.candidates c.args.field.now) c.loop-i.i c.count.result
    c.count.ensures (omega arith) c.loop-i.invariant.copied in
    rw filled (AreApart-ranks _ c.requires.apart)

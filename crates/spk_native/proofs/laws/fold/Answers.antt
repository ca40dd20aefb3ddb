use Rattle.spk_native.proofs.FoldLemmas.{fold_holds}
use Rattle.spk_native.proofs.laws.fold.Goals as goal

pub returns : goal.returns
returns c = fold_holds

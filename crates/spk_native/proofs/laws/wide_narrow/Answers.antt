use Rattle.spk_native.proofs.SoundLemmas.{wide_narrow_holds}
use Rattle.spk_native.proofs.laws.wide_narrow.Goals as goal

pub returns : goal.returns
returns c = wide_narrow_holds

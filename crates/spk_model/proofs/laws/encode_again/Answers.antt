use Rattle.spk_model.proofs.EncodeLemmas.{encode_again_holds}
use Rattle.spk_model.proofs.laws.encode_again.Goals as goal

pub returns : goal.returns
returns c = encode_again_holds

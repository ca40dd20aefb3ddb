use Rattle.xb_wire.proofs.MessageLemmas.{HasMessageLength-size}
use Rattle.xb_wire.proofs.laws.message_bounds.Goals as goal

pub returns : goal.returns
returns c = HasMessageLength-size

use Rattle.bgp_write.proofs.MessageLemmas.{length-update_message, length-packed_message}
use Rattle.bgp_write.proofs.laws.packed_length.Goals as goal

pub returns-clause-update : goal.returns-clause-update
returns-clause-update c = length-update_message

pub returns-clause-packed : goal.returns-clause-packed
returns-clause-packed c = length-packed_message

use Rattle.bgp_write.proofs.ReadBackLemmas.{open_body-fields}
use Rattle.bgp_write.proofs.laws.open_is_read_again.Goals as goal

pub returns : goal.returns
returns c = open_body-fields

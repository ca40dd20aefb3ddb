use Rattle.xb_fields.specs.Fields.{judged_entries}
use Rattle.xbgp_config.proofs.peers.read_peers.Goals as goal

pub loop-i-init : goal.loop-i-init
unfolding judged_entries
loop-i-init c = rw c.new-items.ensures.items

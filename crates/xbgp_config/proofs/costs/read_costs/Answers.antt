use Rattle.xb_fields.specs.Fields.{judged_entries}
use Rattle.xbgp_config.proofs.costs.read_costs.Goals as goal

pub loop-i-init : goal.loop-i-init
unfolding judged_entries
loop-i-init c = record { rest = rw c.new-items.ensures.items; seen = λ hop. rw (c.new-items.ensures.items, c.new-seen.ensures.empty) }

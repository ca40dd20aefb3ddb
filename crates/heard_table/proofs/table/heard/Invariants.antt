use Rattle.std.proofs.Common.{◌≡◌, [], length}
use Rattle.bgp_update.specs.Walks.{messages_from}
use Rattle.heard_table.specs.Steps.{after_messages}
use Rattle.heard_table.proofs.table.heard.Given as goal

-- the messages that are left finish the table
abbrev pub invariant-messages : goal.invariant-messages
invariant-messages l = after_messages l.messages l.changes ≡ after_messages (messages_from 0 l.bytes) []

abbrev pub decreases-messages : goal.decreases-messages
decreases-messages l = length l.messages

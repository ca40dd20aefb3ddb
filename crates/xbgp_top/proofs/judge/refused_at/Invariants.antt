use Rattle.std.proofs.Common.{◌≡◌, length}
use Rattle.bgp_update.specs.Walks.{messages_from}
use Rattle.xbgp_top.proofs.JudgeLemmas.{rest_of}
use Rattle.xbgp_top.proofs.judge.refused_at.Given as goal

-- the messages that are left are refused at the offset at which all are
abbrev pub invariant-messages : goal.invariant-messages
invariant-messages l = rest_of l.messages ≡ rest_of (messages_from 0 l.octets)

abbrev pub decreases-messages : goal.decreases-messages
decreases-messages l = length l.messages

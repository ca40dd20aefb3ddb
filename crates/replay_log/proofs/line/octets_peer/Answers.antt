use Rattle.std.proofs.Common.{sym}
use Rattle.replay_log.proofs.LineLemmas.{event_of_words-lone_in, none-in_words, octets-in_words, none-empty_in}
use Rattle.replay_log.proofs.LineLemmas.{none-bad_in}
use Rattle.replay_log.proofs.line.octets_peer.Goals as goal
use Rattle.replay_log.proofs.line.octets_peer.Goals.{else-not-is_empty-via-then-not-is_empty+else-read_hex}
use Rattle.replay_log.proofs.line.octets_peer.Goals.{else-not-is_empty-via-else-not-is_empty}

pub returns-in_err-peer-clause-event : goal.returns-in_err-peer-clause-event
returns-in_err-peer-clause-event c = λ now. rw c.from_residual.ensures (sym (event_of_words-lone_in c.args.peers now c.args.arguments.now c.in_err-peer.ensures.whole))

pub returns-in_err-peer-2-clause-event : goal.returns-in_err-peer-2-clause-event
returns-in_err-peer-2-clause-event c =
    λ now. rw c.from_residual-in_err-peer-2.ensures
    (none-in_words c.args.peers now c.args.arguments.now c.in_ok-peer.peer.now c.in_ok-peer.digits.now c.in_ok-peer.ensures.split c.in_err-peer-2.ensures)

pub returns-then-read_hex-clause-event : goal.returns-then-read_hex-clause-event
returns-then-read_hex-clause-event c =
    λ now. octets-in_words c.args.peers now c.args.arguments.now c.in_ok-peer.peer.now c.in_ok-peer.digits.now c.in_ok-peer-2.peer c.read_hex.new.octets.octets
    c.in_ok-peer.ensures.split c.in_ok-peer-2.ensures c.if-not-is_empty.ensures c.if-read_hex.ensures.octets

pub returns-else-not-is_empty-clause-event : goal.returns-else-not-is_empty-clause-event
returns-else-not-is_empty-clause-event c =
    λ now. elim c.else-not-is_empty.branch [
      | else-not-is_empty-via-then-not-is_empty+else-read_hex w ↦
          none-bad_in c.args.peers now c.args.arguments.now c.in_ok-peer.peer.now c.in_ok-peer.digits.now c.in_ok-peer.ensures.split w.if-read_hex.ensures.read
      | else-not-is_empty-via-else-not-is_empty w ↦
          none-empty_in c.args.peers now c.args.arguments.now c.in_ok-peer.peer.now c.in_ok-peer.digits.now c.in_ok-peer.ensures.split w.if-not-is_empty.ensures
    ]

use Rattle.std.proofs.Common.{◌≡◌, ◌∙◌, sym, true, false, codes, Some, None}
use Rattle.std.specs.Str.{bytes_eq}
use Rattle.replay_log.proofs.LineLemmas.{event_of_words-lone_room, room_event-words, time_event-words}
use Rattle.replay_log.proofs.LineLemmas.{peer_event_of-words, option_map-peer_event, none-peer_words, none-room_words}
use Rattle.replay_log.specs.Lines.{peer_event}
use Rattle.replay_log.proofs.line.word_event.Goals as goal

pub returns-in_err-peer : goal.returns-in_err-peer
returns-in_err-peer c =
    let is_room : bytes_eq c.args.word.now (codes "room") ≡ true = rw c.as_slice.ensures at (sym c.eq.ensures ∙ c.if-eq.true) in
    rw c.from_residual.ensures (sym (event_of_words-lone_room c.args.peers c.args.now c.args.word.now c.args.arguments.now is_room c.in_err-peer.ensures.whole))

pub returns-in_err-peer-2 : goal.returns-in_err-peer-2
returns-in_err-peer-2 c =
    let is_room : bytes_eq c.args.word.now (codes "room") ≡ true = rw c.as_slice.ensures at (sym c.eq.ensures ∙ c.if-eq.true) in
    rw c.from_residual-in_err-peer-2.ensures
    (none-room_words c.args.peers c.args.now c.args.word.now c.args.arguments.now c.in_ok-peer.peer.now c.in_ok-peer.count.now is_room c.in_ok-peer.ensures.split c.in_err-peer-2.ensures)

pub returns-in_err-number_in : goal.returns-in_err-number_in
returns-in_err-number_in c =
    let is_room : bytes_eq c.args.word.now (codes "room") ≡ true = rw c.as_slice.ensures at (sym c.eq.ensures ∙ c.if-eq.true) in
    rw c.from_residual-in_err-number_in.ensures
    (room_event-words c.args.peers c.args.now c.args.word.now c.args.arguments.now c.in_ok-peer.peer.now c.in_ok-peer.count.now (Some c.in_ok-peer-2.peer) None is_room
    c.in_ok-peer.ensures.split c.in_ok-peer-2.ensures c.in_err-number_in.ensures)

pub returns-in_err-number_in-2 : goal.returns-in_err-number_in-2
returns-in_err-number_in-2 c =
    let is_time : bytes_eq c.args.word.now (codes "time") ≡ true = rw c.as_slice-else-eq.ensures at (sym c.eq-else-eq.ensures ∙ c.if-eq-2.true) in
    rw c.from_residual-in_err-number_in-2.ensures (time_event-words c.args.peers c.args.now c.args.word.now c.args.arguments.now None is_time c.in_err-number_in-2.ensures)

pub returns-in_err-number_in-3 : goal.returns-in_err-number_in-3
returns-in_err-number_in-3 c =
    let not_room : bytes_eq c.args.word.now (codes "room") ≡ false = rw c.as_slice.ensures at (sym c.eq.ensures ∙ c.if-eq.false) in
    let not_time : bytes_eq c.args.word.now (codes "time") ≡ false = rw c.as_slice-else-eq.ensures at (sym c.eq-else-eq.ensures ∙ c.if-eq-2.false) in
    rw c.from_residual-in_err-number_in-3.ensures
    (none-peer_words c.args.peers c.args.now c.args.word.now c.args.arguments.now c.requires not_room not_time c.in_err-number_in-3.ensures)

pub returns-in_ok-number_in : goal.returns-in_ok-number_in
returns-in_ok-number_in c =
    let is_room : bytes_eq c.args.word.now (codes "room") ≡ true = rw c.as_slice.ensures at (sym c.eq.ensures ∙ c.if-eq.true) in
    room_event-words c.args.peers c.args.now c.args.word.now c.args.arguments.now c.in_ok-peer.peer.now c.in_ok-peer.count.now (Some c.in_ok-peer-2.peer)
    (Some c.in_ok-number_in.field-0) is_room c.in_ok-peer.ensures.split c.in_ok-peer-2.ensures c.in_ok-number_in.ensures

pub returns-in_ok-number_in-2 : goal.returns-in_ok-number_in-2
returns-in_ok-number_in-2 c =
    let is_time : bytes_eq c.args.word.now (codes "time") ≡ true = rw c.as_slice-else-eq.ensures at (sym c.eq-else-eq.ensures ∙ c.if-eq-2.true) in
    time_event-words c.args.peers c.args.now c.args.word.now c.args.arguments.now (Some c.in_ok-number_in-2.field-0) is_time c.in_ok-number_in-2.ensures

pub returns-in_ok-number_in-3 : goal.returns-in_ok-number_in-3
returns-in_ok-number_in-3 c =
    let not_room : bytes_eq c.args.word.now (codes "room") ≡ false = rw c.as_slice.ensures at (sym c.eq.ensures ∙ c.if-eq.false) in
    let not_time : bytes_eq c.args.word.now (codes "time") ≡ false = rw c.as_slice-else-eq.ensures at (sym c.eq-else-eq.ensures ∙ c.if-eq-2.false) in
    c.peer_event.ensures ∙ option_map-peer_event (peer_event c.args.word.now) c.in_ok-number_in-3.field-0
    ∙ peer_event_of-words c.args.peers c.args.now c.args.word.now c.args.arguments.now (Some c.in_ok-number_in-3.field-0) c.requires not_room not_time c.in_ok-number_in-3.ensures

use Rattle.std.proofs.Common.{◌≡◌, ◌∙◌, sym, true, codes, Some, None}
use Rattle.std.specs.Str.{bytes_eq}
use Rattle.xb_domain.specs.Views.{event_view}
use Rattle.xb_domain.specs.Events.{octets}
use Rattle.replay_log.proofs.LineLemmas.{says-line_of, event_of_words-lone, says-line_of_in, blank_line-line_of}
use Rattle.replay_log.proofs.LineLemmas.{line_of-comment}
use Rattle.replay_log.proofs.line.read_line.Goals as goal
use Rattle.replay_log.proofs.line.read_line.Goals.{then-is_empty-via-then-is_empty}
use Rattle.replay_log.proofs.line.read_line.Goals.{then-is_empty-via-else-is_empty+then-line-eq35}

pub returns-then-is_empty-clause-line : goal.returns-then-is_empty-clause-line
returns-then-is_empty-clause-line c =
    elim c.then-is_empty.branch [
      | then-is_empty-via-then-is_empty w ↦ blank_line-line_of c.args.peers c.args.now c.args.line.now w.if-is_empty.ensures
      | then-is_empty-via-else-is_empty+then-line-eq35 w ↦ sym (line_of-comment c.args.peers c.args.now c.args.line.now w.if-line-eq35.true)
    ]

pub returns-in_err-lone_event-in-None-clause-line : goal.returns-in_err-lone_event-in-None-clause-line
returns-in_err-lone_event-in-None-clause-line c =
    rw c.from_residual.ensures
    (says-line_of c.args.peers c.args.now c.args.line.now _ None c.if-is_empty.ensures c.if-line-eq35.false c.in-None.ensures.whole
    (c.in_err-lone_event-in-None.ensures ∙ sym (event_of_words-lone c.args.peers c.args.now c.args.line.now)))

pub returns-in_ok-lone_event-in-None-clause-line : goal.returns-in_ok-lone_event-in-None-clause-line
returns-in_ok-lone_event-in-None-clause-line c =
    says-line_of c.args.peers c.args.now c.args.line.now _ (Some (event_view c.in_ok-lone_event-in-None.field-0)) c.if-is_empty.ensures c.if-line-eq35.false
    c.in-None.ensures.whole (c.in_ok-lone_event-in-None.ensures ∙ sym (event_of_words-lone c.args.peers c.args.now c.args.line.now))

pub returns-in_err-octets_peer-in-Some-clause-line : goal.returns-in_err-octets_peer-in-Some-clause-line
returns-in_err-octets_peer-in-Some-clause-line c =
    let is_in : bytes_eq c.in-Some.word.now (codes "in") ≡ true = rw c.as_slice.ensures at (sym c.eq.ensures ∙ c.if-eq.true) in
    rw c.from_residual-in_err-octets_peer-in-Some.ensures
    (says-line_of_in c.args.peers c.args.now c.args.line.now c.in-Some.word.now c.in-Some.arguments.now None c.if-is_empty.ensures c.if-line-eq35.false
    c.in-Some.ensures.split is_in (c.in_err-octets_peer-in-Some.ensures.event c.args.now))

pub returns-in_ok-octets_peer-in-Some-clause-line : goal.returns-in_ok-octets_peer-in-Some-clause-line
returns-in_ok-octets_peer-in-Some-clause-line c =
    let is_in : bytes_eq c.in-Some.word.now (codes "in") ≡ true = rw c.as_slice.ensures at (sym c.eq.ensures ∙ c.if-eq.true) in
    says-line_of_in c.args.peers c.args.now c.args.line.now c.in-Some.word.now c.in-Some.arguments.now
    (Some (octets c.in_ok-octets_peer-in-Some.field-0 c.octets_peer.new.octets.octets)) c.if-is_empty.ensures c.if-line-eq35.false
    c.in-Some.ensures.split is_in (c.in_ok-octets_peer-in-Some.ensures.event c.args.now)

pub returns-in_err-word_event-in-Some-2-clause-line : goal.returns-in_err-word_event-in-Some-2-clause-line
returns-in_err-word_event-in-Some-2-clause-line c =
    rw c.from_residual-in_err-word_event-in-Some-2.ensures
    (says-line_of c.args.peers c.args.now c.args.line.now _ None c.if-is_empty.ensures c.if-line-eq35.false c.in-Some.ensures.split
    c.in_err-word_event-in-Some-2.ensures)

pub returns-in_ok-word_event-in-Some-2-clause-line : goal.returns-in_ok-word_event-in-Some-2-clause-line
returns-in_ok-word_event-in-Some-2-clause-line c =
    says-line_of c.args.peers c.args.now c.args.line.now _ (Some (event_view c.in_ok-word_event-in-Some-2.field-0)) c.if-is_empty.ensures c.if-line-eq35.false
    c.in-Some.ensures.split c.in_ok-word_event-in-Some-2.ensures

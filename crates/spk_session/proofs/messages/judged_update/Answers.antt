use Rattle.std.proofs.Common.{sym, ◌∙◌, ap, Bool, List}
use Rattle.std.specs.Option.{option_map}
use Rattle.xb_wire.specs.Views.{notice_view}
use Rattle.bgp_attr.specs.Paths.{width_of}
use Rattle.bgp_check.specs.Judgement.{judge}
use Rattle.bgp_fsm.specs.Sessions.{Owned}
use Rattle.spk_model.specs.Sources.{is_wide}
use Rattle.spk_session.proofs.MessageLemmas.{session_read}
use Rattle.spk_session.proofs.RowLemmas.{wide_after}
use Rattle.spk_session.proofs.messages.judged_update.Goals as goal

-- the session has the form in which the body was judged
pub update-requires-clause-good : goal.update-requires-clause-good
update-requires-clause-good g c =
    let l = c.args.links.now in
    let p = c.args.peer in
    let own = c.index.result.now in
    ap (λ (ss : List Owned). judge (width_of (is_wide ss p)) c.args.body.now) c.deref.ensures.value
    ∙ ap (λ (b : Bool). judge (width_of b) c.args.body.now)
    (wide_after l c.react.new.links p c.requires.peer c.requires.established c.in_ok-react.ensures.sessions
    ∙ sym (c.wide-wide.ensures
    ∙ ap (λ (x : Owned). (x.session).wide) (session_read l p own c.requires.peer c.index.ensures)))
    ∙ sym c.fault_of_update.ensures.fault
    ∙ ap (option_map notice_view) c.in_default.is

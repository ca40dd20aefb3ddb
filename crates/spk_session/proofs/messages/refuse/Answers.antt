use Rattle.std.proofs.Common.{◌∙◌, ap, Bool}
use Rattle.std.proofs.lemmas.Result.{on_ok_weaker}
use Rattle.spk_model.specs.Sources.{session_of}
use Rattle.xb_wire.specs.Views.{notice_view}
use Rattle.spk_session.specs.Meaning.{core_of}
use Rattle.spk_session.specs.Acting.{flags_after}
use Rattle.spk_session.proofs.RowLemmas.{fault_closes}
use Rattle.spk_session.proofs.MessageLemmas.{refused}
use Rattle.spk_session.proofs.messages.refuse.Goals as goal

pub returns-clause-does : goal.returns-clause-does
returns-clause-does g c =
    let a = core_of (g.R.Routes.built_from c.args.routes.now) (g.R.Routes.routing c.args.routes.now) c.args.links.now in
    let b = core_of (g.R.Routes.built_from c.react.new.routes) (g.R.Routes.routing c.react.new.routes)
    c.react.new.links in
    on_ok_weaker c.react.result (λ d. refused c.args.peer (notice_view c.args.notice.now) a b d) c.react.ensures.does

pub returns-clause-closed : goal.returns-clause-closed
returns-clause-closed g c =
    let l = c.args.links.now in
    let p = c.args.peer in
    let s = session_of l.sessions.items p in
    let n = notice_view c.args.notice.now in
    on_ok_weaker c.react.result
    (λ flags. flags
    ∙ ap (λ (b : Bool). flags_after p b l.dropped.items)
    (fault_closes s.own s.session l.clock n.code n.subcode c.requires.live))
    c.react.ensures.flags

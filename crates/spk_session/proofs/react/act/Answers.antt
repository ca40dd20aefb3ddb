use Rattle.std.proofs.lemmas.Result.{on_ok_weaker}
use Rattle.bgp_fsm.specs.declared.Act.TheVariants.{SendOpen, SendKeepalive, SendNotice, Up, Down, Close}
use Rattle.spk_session.specs.Meaning.{core_of}
use Rattle.spk_session.proofs.ActLemmas.{by_act, open_sent, keepalive_sent, notice_sent, up_done, down_done, close_done}
use Rattle.spk_session.proofs.Following.{on_ok_two}
use Rattle.spk_session.proofs.react.act.Goals as goal

pub returns-in-SendOpen-clause-does : goal.returns-in-SendOpen-clause-does
returns-in-SendOpen-clause-does g c =
    let s = g.R.Routes.built_from c.args.routes.now in
    let r = g.R.Routes.routing c.args.routes.now in
    let l = c.args.links.now in
    let p = c.args.peer in
    let extra = c.args.extra.now in
    let a = core_of s r l in
    let b = core_of s r c.send_open.new.self in
    on_ok_weaker c.send_open.result
    (λ e. by_act c.args.what SendOpen p extra a b c.in-SendOpen.is
    (open_sent s r c.config.result.now l c.send_open.new.self p extra c.requires.ready c.config.ensures e))
    c.send_open.ensures

pub returns-in-SendKeepalive-clause-does : goal.returns-in-SendKeepalive-clause-does
returns-in-SendKeepalive-clause-does g c =
    let s = g.R.Routes.built_from c.args.routes.now in
    let r = g.R.Routes.routing c.args.routes.now in
    let l = c.args.links.now in
    let p = c.args.peer in
    let extra = c.args.extra.now in
    let a = core_of s r l in
    let b = core_of s r c.send_keepalive.new.self in
    on_ok_weaker c.send_keepalive.result
    (λ e. by_act c.args.what SendKeepalive p extra a b c.in-SendKeepalive.is
    (keepalive_sent s r l c.send_keepalive.new.self p extra c.requires.ready e))
    c.send_keepalive.ensures

pub returns-in-SendNotice-clause-does : goal.returns-in-SendNotice-clause-does
returns-in-SendNotice-clause-does g c =
    let s = g.R.Routes.built_from c.args.routes.now in
    let r = g.R.Routes.routing c.args.routes.now in
    let l = c.args.links.now in
    let p = c.args.peer in
    let extra = c.args.extra.now in
    let a = core_of s r l in
    let b = core_of s r c.send_notice.new.self in
    on_ok_weaker c.send_notice.result
    (λ e. by_act c.args.what (SendNotice c.in-SendNotice.code c.in-SendNotice.subcode) p extra a b c.in-SendNotice.is
    (notice_sent s r l c.send_notice.new.self p c.in-SendNotice.code c.in-SendNotice.subcode extra c.requires.ready e))
    c.send_notice.ensures

pub returns-in_ok-add-in-Up-clause-does : goal.returns-in_ok-add-in-Up-clause-does
returns-in_ok-add-in-Up-clause-does g c =
    let s = g.R.Routes.built_from c.args.routes.now in
    let r = g.R.Routes.routing c.args.routes.now in
    let l = c.args.links.now in
    let p = c.args.peer in
    let extra = c.args.extra.now in
    let s' = g.R.Routes.built_from c.export_all.new.self in
    let r' = g.R.Routes.routing c.export_all.new.self in
    let a = core_of s r l in
    let b = core_of s' r' (record l { outputs = c.add.new.self }) in
    on_ok_two c.export_all.result
    (λ same goes. by_act c.args.what Up p extra a b c.in-Up.is
    (up_done s s' r r' l c.deref.result.now c.add.new.self p extra c.requires.ready c.in_ok-add-in-Up.ensures.ok same
    c.deref.ensures.value goes))
    c.export_all.ensures.setup c.export_all.ensures.routes

pub returns-in_ok-add-in-Down-clause-does : goal.returns-in_ok-add-in-Down-clause-does
returns-in_ok-add-in-Down-clause-does g c =
    let s = g.R.Routes.built_from c.args.routes.now in
    let r = g.R.Routes.routing c.args.routes.now in
    let l = c.args.links.now in
    let p = c.args.peer in
    let extra = c.args.extra.now in
    let s' = g.R.Routes.built_from c.lose.new.self in
    let r' = g.R.Routes.routing c.lose.new.self in
    let a = core_of s r l in
    let b = core_of s' r' (record l { outputs = c.add-in-Down.new.self }) in
    on_ok_two c.lose.result
    (λ same goes. by_act c.args.what Down p extra a b c.in-Down.is
    (down_done s s' r r' l c.deref-in-Down.result.now c.add-in-Down.new.self p extra c.requires.ready
    c.in_ok-add-in-Down.ensures.ok same c.deref-in-Down.ensures.value goes))
    c.lose.ensures.setup c.lose.ensures.routes

pub returns-in-Close-clause-does : goal.returns-in-Close-clause-does
returns-in-Close-clause-does g c =
    let s = g.R.Routes.built_from c.args.routes.now in
    let r = g.R.Routes.routing c.args.routes.now in
    let l = c.args.links.now in
    let p = c.args.peer in
    let extra = c.args.extra.now in
    by_act c.args.what Close p extra (core_of s r l) (core_of s r c.close.new.self) c.in-Close.is
    (close_done s r l c.close.new.self p extra c.requires.ready c.requires.peer c.close.ensures)

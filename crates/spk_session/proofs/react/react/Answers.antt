use Rattle.std.proofs.Common.{◌∙◌, ap, ℕ, List, Vec}
use Rattle.std.specs.declared.alloc.Global.{Global}
use Rattle.bgp_fsm.specs.declared.Act.{Act}
use Rattle.std.proofs.lemmas.Result.{on_ok_weaker}
use Rattle.bgp_fsm.specs.Sessions.{Owned, row}
use Rattle.spk_session.specs.Meaning.{core_of}
use Rattle.spk_session.specs.Acting.{closes, flags_after}
use Rattle.spk_session.proofs.Following.{on_ok_two}
use Rattle.spk_session.proofs.ActLemmas.{react_done, reacted_so, acts_so}
use Rattle.spk_session.proofs.RowLemmas.{left_after}
use Rattle.spk_session.proofs.react.react.Goals as goal

pub returns-clause-does : goal.returns-clause-does
returns-clause-does g c =
    let s = g.R.Routes.built_from c.args.routes.now in
    let r = g.R.Routes.routing c.args.routes.now in
    let own = c.index_mut.result.now in
    let what = c.args.what in
    let d = core_of (g.R.Routes.built_from c.act_all.new.routes) (g.R.Routes.routing c.act_all.new.routes)
    c.act_all.new.links in
    on_ok_weaker c.act_all.result
    (λ e. react_done s r c.args.links.now c.args.peer what c.args.extra.now own c.on-acts.new.self c.on-acts.result d
    c.requires.ready c.requires.peer c.index_mut.ensures.value
    (c.on-acts.ensures.acts ∙ ap (λ (n : ℕ). (row own.own own.session n what).acts) c.from.ensures)
    (c.on-acts.ensures.after
    ∙ ap (λ (n : ℕ). record own { session = (row own.own own.session n what).session }) c.from.ensures)
    e)
    c.act_all.ensures.does

pub returns-clause-left : goal.returns-clause-left
returns-clause-left g c calm live =
    let l = c.args.links.now in
    let p = c.args.peer in
    let what = c.args.what in
    let own = c.index_mut.result.now in
    on_ok_two c.act_all.result
    (λ sessions flags. left_after l c.act_all.new.links p what (c.requires.ready).even c.requires.peer calm live
    (ap (λ (ss : Vec Owned Global). ss.items) sessions
    ∙ reacted_so l p what own c.on-acts.new.self c.from.result c.requires.peer c.index_mut.ensures.value
    c.from.ensures c.on-acts.ensures.after)
    (flags
    ∙ ap (λ (acts : List Act). flags_after p (closes acts) l.dropped.items)
    (acts_so l p what own c.from.result c.on-acts.result c.requires.peer c.index_mut.ensures.value
    c.from.ensures c.on-acts.ensures.acts)))
    c.act_all.ensures.sessions c.act_all.ensures.flags

use Rattle.std.proofs.Common.{◌∙◌}
use Rattle.std.proofs.lemmas.Result.{on_ok_weaker}
use Rattle.spk_session.specs.Meaning.{core_of}
use Rattle.spk_session.proofs.MessageLemmas.{state_read, opened, opened_late}
use Rattle.spk_session.proofs.messages.open_in.Goals as goal

pub returns-in-OpenSent-clause-does : goal.returns-in-OpenSent-clause-does
returns-in-OpenSent-clause-does g c =
    let l = c.args.links.now in
    let p = c.args.peer in
    let a = core_of (g.R.Routes.built_from c.args.routes.now) (g.R.Routes.routing c.args.routes.now) l in
    let b = core_of (g.R.Routes.built_from c.judged_open.new.routes) (g.R.Routes.routing c.judged_open.new.routes)
    c.judged_open.new.links in
    let state = state_read l p c.index.result.now c.state.result c.requires.peer c.index.ensures c.state.ensures in
    on_ok_weaker c.judged_open.result (λ d. opened p c.args.body.now a b (state ∙ c.in-OpenSent.is) d)
    c.judged_open.ensures.does

pub returns-in-Idle : goal.returns-in-Idle
returns-in-Idle g c =
    let l = c.args.links.now in
    let p = c.args.peer in
    let a = core_of (g.R.Routes.built_from c.args.routes.now) (g.R.Routes.routing c.args.routes.now) l in
    let b = core_of (g.R.Routes.built_from c.react.new.routes) (g.R.Routes.routing c.react.new.routes)
    c.react.new.links in
    let state = state_read l p c.index.result.now c.state.result c.requires.peer c.index.ensures c.state.ensures in
    record {
      does = on_ok_weaker c.react.result (λ d. opened_late p c.args.body.now a b c.state.result state c.in-Idle.is d)
          c.react.ensures.does;
      left = c.react.ensures.left c.requires.calm c.requires.live;
    }

use Rattle.std.proofs.Common.{◌∙◌}
use Rattle.std.proofs.lemmas.Result.{on_ok_weaker}
use Rattle.spk_session.specs.Meaning.{core_of}
use Rattle.spk_session.proofs.MessageLemmas.{state_read, updated, updated_early}
use Rattle.spk_session.proofs.messages.update_in.Goals as goal

pub returns-in-Established-clause-does : goal.returns-in-Established-clause-does
returns-in-Established-clause-does g c =
    let l = c.args.links.now in
    let p = c.args.peer in
    let a = core_of (g.R.Routes.built_from c.args.routes.now) (g.R.Routes.routing c.args.routes.now) l in
    let b = core_of (g.R.Routes.built_from c.judged_update.new.routes) (g.R.Routes.routing c.judged_update.new.routes)
    c.judged_update.new.links in
    let state = state_read l p c.index.result.now c.state.result c.requires.peer c.index.ensures c.state.ensures in
    on_ok_weaker c.judged_update.result (λ d. updated p c.args.body.now a b (state ∙ c.in-Established.is) d)
    c.judged_update.ensures.does

pub returns-in-Idle : goal.returns-in-Idle
returns-in-Idle g c =
    let l = c.args.links.now in
    let p = c.args.peer in
    let a = core_of (g.R.Routes.built_from c.args.routes.now) (g.R.Routes.routing c.args.routes.now) l in
    let b = core_of (g.R.Routes.built_from c.react.new.routes) (g.R.Routes.routing c.react.new.routes)
    c.react.new.links in
    let state = state_read l p c.index.result.now c.state.result c.requires.peer c.index.ensures c.state.ensures in
    record {
      does = on_ok_weaker c.react.result (λ d. updated_early p c.args.body.now a b c.state.result state c.in-Idle.is d)
          c.react.ensures.does;
      left = c.react.ensures.left c.requires.calm c.requires.live;
    }

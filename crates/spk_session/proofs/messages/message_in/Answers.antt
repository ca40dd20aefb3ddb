use Rattle.std.proofs.Common.{◌≡◌, arith}
use Rattle.std.proofs.lemmas.Result.{on_ok_weaker}
use Rattle.spk_session.specs.Meaning.{core_of}
use Rattle.spk_session.proofs.MessageLemmas.{message_taken}
use Rattle.spk_session.proofs.messages.message_in.Goals as goal

pub returns-in-1-clause-does : goal.returns-in-1-clause-does
returns-in-1-clause-does g c =
    let a = core_of (g.R.Routes.built_from c.args.routes.now) (g.R.Routes.routing c.args.routes.now) c.args.links.now in
    let b = core_of (g.R.Routes.built_from c.open_in.new.routes) (g.R.Routes.routing c.open_in.new.routes)
    c.open_in.new.links in
    on_ok_weaker c.open_in.result (λ d. message_taken c.args.peer c.args.kind 1 c.args.body.now a b c.in-1.is d)
    c.open_in.ensures.does

pub returns-in-2-clause-does : goal.returns-in-2-clause-does
returns-in-2-clause-does g c =
    let a = core_of (g.R.Routes.built_from c.args.routes.now) (g.R.Routes.routing c.args.routes.now) c.args.links.now in
    let b = core_of (g.R.Routes.built_from c.update_in.new.routes) (g.R.Routes.routing c.update_in.new.routes)
    c.update_in.new.links in
    on_ok_weaker c.update_in.result (λ d. message_taken c.args.peer c.args.kind 2 c.args.body.now a b c.in-2.is d)
    c.update_in.ensures.does

pub returns-in-3-clause-does : goal.returns-in-3-clause-does
returns-in-3-clause-does g c =
    let a = core_of (g.R.Routes.built_from c.args.routes.now) (g.R.Routes.routing c.args.routes.now) c.args.links.now in
    let b = core_of (g.R.Routes.built_from c.react.new.routes) (g.R.Routes.routing c.react.new.routes)
    c.react.new.links in
    on_ok_weaker c.react.result (λ d. message_taken c.args.peer c.args.kind 3 c.args.body.now a b c.in-3.is d)
    c.react.ensures.does

pub returns-in_default-clause-does : goal.returns-in_default-clause-does
returns-in_default-clause-does g c =
    let a = core_of (g.R.Routes.built_from c.args.routes.now) (g.R.Routes.routing c.args.routes.now) c.args.links.now in
    let b = core_of (g.R.Routes.built_from c.react-in_default.new.routes)
    (g.R.Routes.routing c.react-in_default.new.routes)
    c.react-in_default.new.links in
    let four : c.args.kind ≡ 4 = omega (arith, c.in_default, c.requires.sized.first_kind, c.requires.sized.last_kind) in
    on_ok_weaker c.react-in_default.result (λ d. message_taken c.args.peer c.args.kind 4 c.args.body.now a b four d)
    c.react-in_default.ensures.does

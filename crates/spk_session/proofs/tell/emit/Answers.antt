use Rattle.std.proofs.Common.{refl, sym, ◌∙◌}
use Rattle.std.proofs.lemmas.Result.{on_ok_weaker}
use Rattle.spk_session.specs.Meaning.{core_of}
use Rattle.spk_session.proofs.TellLemmas.{not_told, told}
use Rattle.spk_session.proofs.tell.emit.Goals as goal

pub returns-then-not-is_established : goal.returns-then-not-is_established
returns-then-not-is_established g c =
    not_told g.R.Routes.RULE c.args.peer c.args.limit
    (core_of (g.R.Routes.built_from c.args.routes.now) (g.R.Routes.routing c.args.routes.now) c.args.links.now)
    c.requires.ready (sym c.is_established.ensures ∙ c.if-not-is_established.true)

pub returns : goal.returns
returns g c =
    on_ok_weaker c.tell.result
    (λ e. told g.R.Routes.RULE c.args.peer c.args.limit
    (core_of (g.R.Routes.built_from c.args.routes.now) (g.R.Routes.routing c.args.routes.now) c.args.links.now)
    (core_of (g.R.Routes.built_from c.tell.new.routes) (g.R.Routes.routing c.tell.new.routes) c.tell.new.links)
    (sym c.is_established.ensures ∙ c.if-not-is_established.false) e)
    c.tell.ensures

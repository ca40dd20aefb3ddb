use Rattle.std.proofs.Common.{refl, sym, ◌∙◌, ap, List, ℕ, length}
use Rattle.std.specs.Prelude.{◌==◌}
use Rattle.bgp_write.specs.Pending.{form}
use Rattle.spk_model.specs.Routing.{tables_of}
use Rattle.spk_session.specs.Meaning.{core_of}
use Rattle.spk_session.proofs.TellLemmas.{ends_spent, formed_rests, no_items}
use Rattle.spk_session.proofs.tell.has_rest.Goals as goal

pub returns-then-spent : goal.returns-then-spent
returns-then-spent g c =
    ends_spent g.R.Routes.RULE c.args.peer c.args.limit
    (core_of (g.R.Routes.built_from c.args.routes.now) (g.R.Routes.routing c.args.routes.now) c.args.links.now)
    c.requires.ready (sym c.spent.ensures ∙ c.if-spent.true)

pub returns : goal.returns
returns g c =
    let l = c.args.links.now in
    let p = c.args.peer in
    let old = g.R.Routes.routing c.args.routes.now in
    formed_rests g.R.Routes.RULE p c.args.limit (g.R.Routes.built_from c.args.routes.now)
    (g.R.Routes.built_from c.form.new.routes) l old (g.R.Routes.routing c.form.new.routes)
    c.index_mut-rest.result.now c.form.new.self c.form.result c.requires.ready c.requires.peer
    (sym c.spent.ensures ∙ c.if-spent.false) c.index_mut-rest.ensures.value
    (sym c.as_slice.ensures ∙ no_items c.as_slice.result.now (sym c.is_empty.ensures ∙ c.if-not-is_empty.false))
    c.form.ensures.setup
    (form g.R.Routes.RULE (tables_of old p).adv (tables_of old p).told) refl c.form.ensures.formed c.form.ensures.less

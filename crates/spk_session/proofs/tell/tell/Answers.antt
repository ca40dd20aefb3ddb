use Rattle.std.proofs.Common.{sym, ◌∙◌}
use Rattle.spk_session.specs.Meaning.{core_of}
use Rattle.spk_session.specs.Telling.{Ends, HasLeft, HasRest}
use Rattle.spk_session.proofs.TellLemmas.{work-smaller}
use Rattle.spk_session.proofs.tell.tell.Goals as goal

pub returns : goal.returns
returns g c =
    let d = core_of (g.R.Routes.built_from c.has_rest.new.routes) (g.R.Routes.routing c.has_rest.new.routes)
    c.has_rest.new.links in
    let b = core_of (g.R.Routes.built_from c.turns.routes) (g.R.Routes.routing c.turns.routes) c.turns.links in
    let e : Ends g.R.Routes.RULE c.args.peer c.turns.left b d = c.turns-test.ensures in
    c.turns.invariant.comes d e

pub turns-preserved : goal.turns-preserved
turns-preserved g c =
    let b = core_of (g.R.Routes.built_from c.turns.routes) (g.R.Routes.routing c.turns.routes) c.turns.links in
    let d = core_of (g.R.Routes.built_from c.has_rest.new.routes) (g.R.Routes.routing c.has_rest.new.routes)
    c.has_rest.new.links in
    let f = core_of (g.R.Routes.built_from c.has_rest.new.routes) (g.R.Routes.routing c.has_rest.new.routes)
    c.put_rest.new.links in
    let r : HasRest g.R.Routes.RULE c.args.peer c.turns.left b d = c.turns-test.ensures in
    let l : HasLeft g.R.Routes.RULE c.args.peer c.turns.left d c.in_ok-left.left f = c.in_ok-left.ensures in
    record {
      ready = l.ready;
      setup = r.setup ∙ c.turns.invariant.setup;
      sessions = l.sessions ∙ r.sessions ∙ c.turns.invariant.sessions;
      comes = λ last e. c.turns.invariant.comes last (r.comes last (l.comes last e));
    }

pub turns-smaller : goal.turns-smaller
turns-smaller g c =
    let b = core_of (g.R.Routes.built_from c.turns.routes) (g.R.Routes.routing c.turns.routes) c.turns.links in
    let d = core_of (g.R.Routes.built_from c.has_rest.new.routes) (g.R.Routes.routing c.has_rest.new.routes)
    c.has_rest.new.links in
    let f = core_of (g.R.Routes.built_from c.has_rest.new.routes) (g.R.Routes.routing c.has_rest.new.routes)
    c.put_rest.new.links in
    let r : HasRest g.R.Routes.RULE c.args.peer c.turns.left b d = c.turns-test.ensures in
    let l : HasLeft g.R.Routes.RULE c.args.peer c.turns.left d c.in_ok-left.left f = c.in_ok-left.ensures in
    work-smaller g.R.Routes.RULE c.args.peer c.turns.left c.in_ok-left.left b d f r l

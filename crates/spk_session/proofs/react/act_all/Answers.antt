use Rattle.std.proofs.Common.{refl, ◌∙◌, take, ◌+◌}
use Rattle.spk_session.specs.Meaning.{core_of}
use Rattle.spk_session.proofs.Following.{does_nothing}
use Rattle.spk_session.proofs.ActLemmas.{acts_more, act_then, flags-push, same_peer}
use Rattle.spk_session.proofs.react.act_all.Goals as goal

pub acts-init : goal.acts-init
acts-init g c =
    let a = core_of (g.R.Routes.built_from c.args.routes.now) (g.R.Routes.routing c.args.routes.now) c.args.links.now in
    record { does = does_nothing a c.requires.ready; sessions = refl; flags = refl }

pub act-requires-clause-ready : goal.act-requires-clause-ready
act-requires-clause-ready g c = (c.acts.invariant.does).ready

pub act-requires-clause-peer : goal.act-requires-clause-peer
act-requires-clause-peer g c =
    same_peer c.args.links.now c.acts.links c.args.peer c.acts.invariant.sessions c.requires.peer

pub acts-preserved : goal.acts-preserved
acts-preserved g c =
    let a = core_of (g.R.Routes.built_from c.args.routes.now) (g.R.Routes.routing c.args.routes.now) c.args.links.now in
    let b = core_of (g.R.Routes.built_from c.acts.routes) (g.R.Routes.routing c.acts.routes) c.acts.links in
    let d = core_of (g.R.Routes.built_from c.act.new.routes) (g.R.Routes.routing c.act.new.routes) c.act.new.links in
    let acts = c.args.acts.now in
    let i = c.acts.i in
    record {
      does = act_then acts i c.get.result c.args.peer c.args.extra.now a b d c.get.ensures c.acts.invariant.does
          c.in_ok-act.ensures.does;
      sessions = c.in_ok-act.ensures.sessions ∙ c.acts.invariant.sessions;
      flags = flags-push c.args.peer (take i acts) (take (i + 1) acts) c.get.result c.args.links.now.dropped.items
          c.acts.links.dropped.items c.act.new.links.dropped.items (acts_more acts i c.get.result c.get.ensures)
          c.acts.invariant.flags c.in_ok-act.ensures.flags;
    }

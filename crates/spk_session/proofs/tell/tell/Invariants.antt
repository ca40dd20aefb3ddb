use Rattle.std.proofs.Common.{◌≡◌}
use Rattle.spk_session.specs.Meaning.{core_of, HasPeer, IsReady}
use Rattle.spk_session.specs.Telling.{Comes, work}
use Rattle.spk_session.proofs.tell.tell.Given as goal

-- what is still to leave is the same as at first
abbrev pub invariant-turns : goal.invariant-turns
invariant-turns g l =
    let a = core_of (g.R.Routes.built_from l.fn.routes) (g.R.Routes.routing l.fn.routes) l.fn.links in
    let b = core_of (g.R.Routes.built_from l.routes) (g.R.Routes.routing l.routes) l.links in
    record {
      ready : IsReady b;
      setup : b.setup ≡ a.setup;
      sessions : l.links.sessions ≡ l.fn.links.sessions;
      comes : Comes g.R.Routes.RULE l.peer l.fn.limit a l.left b;
    }

abbrev pub decreases-turns : goal.decreases-turns
decreases-turns g l =
    work l.peer l.left (core_of (g.R.Routes.built_from l.routes) (g.R.Routes.routing l.routes) l.links)

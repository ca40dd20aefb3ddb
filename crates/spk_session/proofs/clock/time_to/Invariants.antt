use Rattle.std.proofs.Common.{◌-◌}
use Rattle.spk_session.specs.Meaning.{core_of, IsReady}
use Rattle.spk_session.specs.Firing.{Leads}
use Rattle.spk_session.proofs.clock.time_to.Given as goal

-- the turns that are left lead from here to what all of them led to
abbrev pub invariant-turns : goal.invariant-turns
invariant-turns g l = record {
  ready : IsReady (core_of (g.R.Routes.built_from l.routes) (g.R.Routes.routing l.routes) l.links);
  leads : Leads l.now l.turns (core_of (g.R.Routes.built_from l.fn.routes) (g.R.Routes.routing l.fn.routes) l.fn.links)
      (l.turns - l.i) (core_of (g.R.Routes.built_from l.routes) (g.R.Routes.routing l.routes) l.links);
}

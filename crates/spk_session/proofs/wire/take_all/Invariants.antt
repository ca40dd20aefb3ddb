use Rattle.std.proofs.Common.{◌≤◌, ◌+◌, ◌++◌, length, List, ℕ}
use Rattle.bgp_frame.specs.declared.frames.TheConstants.{MAX_WAITING}
use Rattle.spk_session.specs.Meaning.{core_of}
use Rattle.spk_session.specs.Taking.{IsOpen, Comes}
use Rattle.spk_session.proofs.wire.take_all.Given as goal

-- some messages were taken, at least an octet each
abbrev pub invariant-turns : goal.invariant-turns
invariant-turns g l = record {
  few : length l.frames.waits + l.i ≤ MAX_WAITING;
  open' : IsOpen l.peer (core_of (g.R.Routes.built_from l.fn.routes) (g.R.Routes.routing l.fn.routes) l.fn.links)
      (core_of (g.R.Routes.built_from l.routes) (g.R.Routes.routing l.routes) l.links);
  comes : (tail : List ℕ) → Comes l.peer (l.fn.frames.waits ++ tail)
      (core_of (g.R.Routes.built_from l.fn.routes) (g.R.Routes.routing l.fn.routes) l.fn.links) (l.frames.waits ++ tail)
      (core_of (g.R.Routes.built_from l.routes) (g.R.Routes.routing l.routes) l.links);
}

use Rattle.std.proofs.Common.{◌≤◌, ◌++◌, length, drop}
use Rattle.spk_session.specs.Meaning.{core_of}
use Rattle.spk_session.specs.Taking.{IsOpen, IsDrained, Comes}
use Rattle.spk_session.proofs.wire.octets_in.Given as goal

-- the piece came up to an offset, and all of it was taken that could be
abbrev pub invariant-pieces : goal.invariant-pieces
invariant-pieces g l = record {
  far : l.i ≤ l.at;
  inside : l.at ≤ length l.piece;
  open' : IsOpen l.peer (core_of (g.R.Routes.built_from l.fn.routes) (g.R.Routes.routing l.fn.routes) l.fn.links)
      (core_of (g.R.Routes.built_from l.routes) (g.R.Routes.routing l.routes) l.links);
  drained : IsDrained l.frames.waits;
  comes : Comes l.peer (l.fn.frames.waits ++ l.piece)
      (core_of (g.R.Routes.built_from l.fn.routes) (g.R.Routes.routing l.fn.routes) l.fn.links)
      (l.frames.waits ++ drop l.at l.piece)
      (core_of (g.R.Routes.built_from l.routes) (g.R.Routes.routing l.routes) l.links);
}

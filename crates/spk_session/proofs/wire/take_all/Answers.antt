use Rattle.std.proofs.Common.{subst, arith}
use Rattle.spk_session.specs.declared.wire.Front.{Front}
use Rattle.spk_session.specs.Meaning.{core_of}
use Rattle.spk_session.specs.Taking.{FrontBy}
use Rattle.spk_session.proofs.LoopLemmas.{all_still, all_closed, came_then, open_then}
use Rattle.spk_session.proofs.wire.take_all.Goals as goal

pub returns-in-Waits : goal.returns-in-Waits
returns-in-Waits g c =
    let p = c.args.peer in
    let a = core_of (g.R.Routes.built_from c.args.routes.now) (g.R.Routes.routing c.args.routes.now) c.args.links.now in
    let b = core_of (g.R.Routes.built_from c.turns.routes) (g.R.Routes.routing c.turns.routes) c.turns.links in
    let d = core_of (g.R.Routes.built_from c.take_front.new.routes) (g.R.Routes.routing c.take_front.new.routes)
    c.take_front.new.links in
    let s = subst (λ (f : Front). FrontBy f p c.turns.frames.waits b c.take_front.new.frames.waits d) c.in-Waits.is
    c.in_ok-take_front.ensures in
    all_still p c.args.frames.now.waits c.turns.frames.waits c.take_front.new.frames.waits a b d
    c.turns.invariant.open' c.turns.invariant.comes s

pub returns-in-Dropped : goal.returns-in-Dropped
returns-in-Dropped g c =
    let p = c.args.peer in
    let a = core_of (g.R.Routes.built_from c.args.routes.now) (g.R.Routes.routing c.args.routes.now) c.args.links.now in
    let b = core_of (g.R.Routes.built_from c.turns.routes) (g.R.Routes.routing c.turns.routes) c.turns.links in
    let d = core_of (g.R.Routes.built_from c.take_front.new.routes) (g.R.Routes.routing c.take_front.new.routes)
    c.take_front.new.links in
    let k = subst (λ (f : Front). FrontBy f p c.turns.frames.waits b c.take_front.new.frames.waits d) c.in-Dropped.is
    c.in_ok-take_front.ensures in
    all_closed p c.args.frames.now.waits c.turns.frames.waits c.take_front.new.frames.waits a b d
    c.turns.invariant.comes k

pub turns-preserved : goal.turns-preserved
turns-preserved g c =
    let p = c.args.peer in
    let a = core_of (g.R.Routes.built_from c.args.routes.now) (g.R.Routes.routing c.args.routes.now) c.args.links.now in
    let b = core_of (g.R.Routes.built_from c.turns.routes) (g.R.Routes.routing c.turns.routes) c.turns.links in
    let d = core_of (g.R.Routes.built_from c.take_front.new.routes) (g.R.Routes.routing c.take_front.new.routes)
    c.take_front.new.links in
    let k = subst (λ (f : Front). FrontBy f p c.turns.frames.waits b c.take_front.new.frames.waits d) c.in-Took.is
    c.in_ok-take_front.ensures in
    let i = c.turns.invariant in
    record {
      few = omega (arith, k.less, i.few);
      open' = open_then p a b d i.open' k.open';
      comes = came_then p c.args.frames.now.waits c.turns.frames.waits c.take_front.new.frames.waits a b d i.comes
          k.comes;
    }

-- The engine gives what its chain gives.
use Rattle.std.proofs.Common.{refl, ap, subst, []}
use Rattle.xb_domain.specs.declared.point.Point.TheVariants.{Decision}
use Rattle.xbgp_helpers.specs.Shows.{shown_at_decision}
use Rattle.xbgp_helpers.specs.Worlds.{nobody}
use Rattle.xbgp_maps.specs.Mappings.{Journalled, closed}
use Rattle.xbgp_points.specs.Chains.{chain}
use Rattle.xbgp_points.specs.Engines.{Answers, Kept}
use Rattle.xbgp_points.specs.Points.{world_of, prefer}
use Rattle.xbgp_points.proofs.EngineLemmas.{answers, undone}
use Rattle.xbgp_points.proofs.engine.Engine.prefer.Goals as goal

pub returns-clause-answers : goal.returns-clause-answers
returns-clause-answers g c =
    let manifest = c.self.inside.manifest in
    let maps = c.self.inside.work.maps in
    let noted = c.self.inside.work.faults in
    let left = c.at_decision.new.work in
    let world = λ (m : Journalled).
    (shown_at_decision c.args.prefix (g.A.RouteView.route c.args.old.now) c.args.old_side.now
    (g.B.RouteView.route c.args.new.now) c.args.new_side.now c.self.inside.local m 0).world in
    let old : Kept = record {
      manifest = manifest;
      local = c.self.inside.local;
      engine = record { maps = maps.maps; faults = noted };
      wrote = c.self.inside.work.wrote;
    } in
    let new : Kept = record old {
      engine = record { maps = (left.maps).maps; faults = left.faults };
      wrote = left.wrote;
    } in
    subst (λ (k : Kept). Answers
    (prefer k.manifest k.local k.engine c.args.prefix (g.A.RouteView.route c.args.old.now)
    c.args.old_side.now (g.B.RouteView.route c.args.new.now)
    c.args.new_side.now) k
    new c.at_decision.result (g.A.RouteView.route c.args.old.now)) c.self.view_is
    (answers (chain manifest Decision [] (world maps) noted)
    (chain manifest Decision [] (world (closed maps.maps)) noted)
    old new c.at_decision.result (g.A.RouteView.route c.args.old.now) left c.at_decision.ensures.ran
    (ap (λ (m : Journalled). chain manifest Decision [] (world m) noted) c.self.invariant.1)
    refl)

pub returns-clause-undone : goal.returns-clause-undone
returns-clause-undone g c =
    let self = c.args.self.now in
    let w =
    world_of self.engine self.local nobody c.args.old_side.now c.args.prefix 0 (g.A.RouteView.route c.args.old.now)
    (g.B.RouteView.route c.args.new.now) c.args.new_side.now in
    undone self.manifest Decision [] w self _ c.at_decision.result (g.A.RouteView.route c.args.old.now) refl
    (returns-clause-answers g c)

-- The engine gives what its chain gives.
use Rattle.std.proofs.Common.{refl, ap, subst, []}
use Rattle.xb_domain.specs.declared.point.Point.TheVariants.{Receive}
use Rattle.xbgp_helpers.specs.Shows.{shown_at_receive}
use Rattle.xbgp_helpers.specs.Worlds.{nobody, nowhere}
use Rattle.xbgp_maps.specs.Mappings.{Journalled, closed}
use Rattle.xbgp_points.specs.Chains.{chain}
use Rattle.xbgp_points.specs.Engines.{Answers, Kept}
use Rattle.xbgp_points.specs.Points.{world_of, receive}
use Rattle.xbgp_points.proofs.EngineLemmas.{answers, undone}
use Rattle.xbgp_points.proofs.engine.Engine.receive.Goals as goal

pub returns-clause-answers : goal.returns-clause-answers
returns-clause-answers c =
    let manifest = c.self.inside.manifest in
    let maps = c.self.inside.work.maps in
    let noted = c.self.inside.work.faults in
    let left = c.at_receive.new.work in
    let world = λ (m : Journalled).
    (shown_at_receive c.args.now c.args.peer.now c.args.route.now c.self.inside.local m 0).world in
    let old : Kept = record {
      manifest = manifest;
      local = c.self.inside.local;
      engine = record { maps = maps.maps; faults = noted };
      wrote = c.self.inside.work.wrote;
    } in
    let new : Kept = record old {
      engine = record { maps = (left.maps).maps; faults = left.faults };
      wrote = left.wrote;
    } in
    subst (λ (k : Kept). Answers
    (receive k.manifest k.local k.engine c.args.now c.args.peer.now c.args.route.now.route c.args.body.now) k
    new c.at_receive.result c.at_receive.new.route.route) c.self.view_is
    (answers (chain manifest Receive c.args.body.now (world maps) noted)
    (chain manifest Receive c.args.body.now (world (closed maps.maps)) noted)
    old new c.at_receive.result c.at_receive.new.route.route left c.at_receive.ensures.ran
    (ap (λ (m : Journalled). chain manifest Receive c.args.body.now (world m) noted) c.self.invariant.1)
    refl)

pub returns-clause-undone : goal.returns-clause-undone
returns-clause-undone c =
    let self = c.args.self.now in
    let w =
    world_of self.engine self.local c.args.peer.now nobody nowhere c.args.now c.args.route.now.route [] nobody in
    undone self.manifest Receive c.args.body.now w self _ c.at_receive.result c.at_receive.new.route.route refl
    (returns-clause-answers c)

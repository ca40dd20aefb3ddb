-- The engine gives what its chain gives.
use Rattle.std.proofs.Common.{refl, ap, subst, []}
use Rattle.xb_domain.specs.declared.point.Point.TheVariants.{Inbound}
use Rattle.xbgp_helpers.specs.Shows.{shown_at_inbound}
use Rattle.xbgp_helpers.specs.Worlds.{nobody}
use Rattle.xbgp_maps.specs.Mappings.{Journalled, closed}
use Rattle.xbgp_points.specs.Chains.{chain}
use Rattle.xbgp_points.specs.Engines.{Answers, Kept}
use Rattle.xbgp_points.specs.Points.{world_of, inbound}
use Rattle.xbgp_points.proofs.EngineLemmas.{answers, undone}
use Rattle.xbgp_points.proofs.engine.Engine.inbound.Goals as goal

pub returns-clause-answers : goal.returns-clause-answers
returns-clause-answers c =
    let manifest = c.self.inside.manifest in
    let maps = c.self.inside.work.maps in
    let noted = c.self.inside.work.faults in
    let left = c.at_inbound.new.work in
    let world = λ (m : Journalled).
    (shown_at_inbound c.args.now c.args.peer.now c.args.prefix c.args.route.now c.self.inside.local m 0).world in
    let old : Kept = record {
      manifest = manifest;
      local = c.self.inside.local;
      engine = record { maps = maps.maps; faults = noted };
      wrote = c.self.inside.work.wrote;
    } in
    let new : Kept = record old {
      engine = record { maps = (left.maps).maps; faults = left.faults };
      wrote = left.wrote;
    } in
    subst (λ (k : Kept). Answers
    (inbound k.manifest k.local k.engine c.args.now c.args.peer.now c.args.prefix c.args.route.now.route) k
    new c.at_inbound.result c.at_inbound.new.route.route) c.self.view_is
    (answers (chain manifest Inbound [] (world maps) noted) (chain manifest Inbound [] (world (closed maps.maps)) noted)
    old new c.at_inbound.result c.at_inbound.new.route.route left c.at_inbound.ensures.ran
    (ap (λ (m : Journalled). chain manifest Inbound [] (world m) noted) c.self.invariant.1)
    refl)

pub returns-clause-undone : goal.returns-clause-undone
returns-clause-undone c =
    let self = c.args.self.now in
    let w =
    world_of self.engine self.local c.args.peer.now nobody c.args.prefix c.args.now c.args.route.now.route [] nobody in
    undone self.manifest Inbound [] w self _ c.at_inbound.result c.at_inbound.new.route.route refl
    (returns-clause-answers c)

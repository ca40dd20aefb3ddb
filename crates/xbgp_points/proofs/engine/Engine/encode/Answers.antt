-- The engine gives what its chain gives.
use Rattle.std.proofs.Common.{◌≡◌, ◌∙◌, refl, ap, subst, List, ℕ, []}
use Rattle.xb_domain.specs.declared.point.Point.TheVariants.{Encode}
use Rattle.xb_values.specs.Buffers.{Buffer}
use Rattle.xbgp_helpers.specs.Shows.{shown_at_encode}
use Rattle.xbgp_helpers.specs.Worlds.{nowhere}
use Rattle.xbgp_maps.specs.Mappings.{Journalled, closed}
use Rattle.xbgp_points.specs.Chains.{Chained, chain, programs_at}
use Rattle.xbgp_points.specs.Engines.{Answers, Kept}
use Rattle.xbgp_points.specs.Points.{called, section_left, world_of, encode}
use Rattle.xbgp_points.proofs.EngineLemmas.{answers, undone}
use Rattle.xbgp_points.proofs.SectionLemmas.{chain-sends}
use Rattle.xbgp_points.proofs.engine.Engine.encode.Goals as goal

pub returns-clause-answers : goal.returns-clause-answers
returns-clause-answers g c =
    let manifest = c.self.inside.manifest in
    let maps = c.self.inside.work.maps in
    let noted = c.self.inside.work.faults in
    let left = c.at_encode.new.work in
    let world = λ (b : Buffer) (m : Journalled).
    (shown_at_encode c.args.peer.now c.args.source.now (g.R.RouteView.route c.args.best.now) c.args.route.now.route b
    c.self.inside.local m 0).world in
    let old : Kept = record {
      manifest = manifest;
      local = c.self.inside.local;
      engine = record { maps = maps.maps; faults = noted };
      wrote = c.self.inside.work.wrote;
    } in
    let new : Kept = record old {
      engine = record { maps = (left.maps).maps; faults = left.faults };
      wrote = left.wrote;
    } in
    subst (λ (k : Kept). Answers
    (encode k.manifest k.local k.engine c.args.peer.now c.args.source.now
    (g.R.RouteView.route c.args.best.now) c.args.route.now.route) k
    new c.at_encode.result c.args.route.now.route) c.self.view_is
    (answers (chain manifest Encode [] (world c.args.out.now maps) noted)
    (chain manifest Encode [] (world (record c.args.out.now { octets = [] }) (closed maps.maps)) noted)
    old new c.at_encode.result c.args.route.now.route left c.at_encode.ensures.ran
    (ap (λ (o : List ℕ). chain manifest Encode [] (world (record c.args.out.now { octets = o }) maps) noted)
    c.requires.empty
    ∙ ap (λ (m : Journalled). chain manifest Encode [] (world (record c.args.out.now { octets = [] }) m) noted)
    c.self.invariant.1)
    refl)

pub returns-clause-section : goal.returns-clause-section
returns-clause-section g c =
    let manifest = c.self.inside.manifest in
    let maps = c.self.inside.work.maps in
    let noted = c.self.inside.work.faults in
    let world = λ (b : Buffer) (m : Journalled).
    (shown_at_encode c.args.peer.now c.args.source.now (g.R.RouteView.route c.args.best.now) c.args.route.now.route b
    c.self.inside.local m 0).world in
    subst (λ (k : Kept). c.at_encode.new.out
    ≡ record c.args.out.now {
      octets = section_left
          (encode k.manifest k.local k.engine c.args.peer.now c.args.source.now (g.R.RouteView.route c.args.best.now)
          c.args.route.now.route);
    })
    c.self.view_is
    (subst (λ (x : Chained). c.at_encode.new.out ≡ record c.args.out.now { octets = section_left (called x) })
    (ap (λ (o : List ℕ). chain manifest Encode [] (world (record c.args.out.now { octets = o }) maps) noted)
    c.requires.empty
    ∙ ap (λ (m : Journalled). chain manifest Encode [] (world (record c.args.out.now { octets = [] }) m) noted)
    c.self.invariant.1)
    c.at_encode.ensures.out)

pub returns-clause-sendable : goal.returns-clause-sendable
unfolding chain
returns-clause-sendable g c =
    let self = c.args.self.now in
    let world = λ (b : Buffer) (m : Journalled).
    (shown_at_encode c.args.peer.now c.args.source.now (g.R.RouteView.route c.args.best.now) c.args.route.now.route b
    self.local m 0).world in
    let start = world (record c.args.out.now { octets = [] }) (closed self.engine.maps) in
    chain-sends [] start self.engine.faults (programs_at self.manifest Encode) start

pub returns-clause-undone : goal.returns-clause-undone
returns-clause-undone g c =
    let self = c.args.self.now in
    let w =
    world_of self.engine self.local c.args.peer.now c.args.source.now nowhere 0 c.args.route.now.route
    (g.R.RouteView.route c.args.best.now) c.args.source.now in
    undone self.manifest Encode [] w self _ c.at_encode.result c.args.route.now.route refl
    (returns-clause-answers g c)

-- The chain of the point, by the numbers of its programs.
use Rattle.std.proofs.Common.{◌∙◌, sym, ap, subst, []}
use Rattle.xb_domain.specs.declared.point.Point.TheVariants.{Decision}
use Rattle.xbgp_helpers.specs.Shows.{shown_at_decision}
use Rattle.xbgp_manifest.specs.Manifests.{Manifest}
use Rattle.xbgp_points.specs.Chains.{Chained, chain}
use Rattle.xbgp_points.specs.Orders.{Ran, numbers_from, picked}
use Rattle.xbgp_points.proofs.EngineLemmas.{chain-numbers, runnable, still-closed, still-shapes}
use Rattle.xbgp_points.proofs.decision.at_decision.Goals as goal

pub chain_at_decision-requires-clause-numbers : goal.chain_at_decision-requires-clause-numbers
chain_at_decision-requires-clause-numbers g c =
    let m : Manifest = record { maps = c.manifest.inside.maps; programs = c.manifest.inside.programs } in
    let numbers =
    c.deref.ensures.value ∙ c.requires.orders.decision
    ∙ ap (λ (x : Manifest). numbers_from Decision 0 x.programs) (sym c.manifest.view_is) in
    runnable m Decision c.deref.result.now c.manifest.invariant numbers

pub returns-clause-ran : goal.returns-clause-ran
returns-clause-ran g c =
    let m : Manifest = record { maps = c.manifest.inside.maps; programs = c.manifest.inside.programs } in
    let w =
    (shown_at_decision c.args.prefix (g.A.RouteView.route c.args.old.now) c.args.old_side.now
    (g.B.RouteView.route c.args.new.now) c.args.new_side.now c.args.local.now c.args.work.now.maps 0).world in
    let noted = c.args.work.now.faults in
    let numbers =
    c.deref.ensures.value ∙ c.requires.orders.decision
    ∙ ap (λ (x : Manifest). numbers_from Decision 0 x.programs) (sym c.manifest.view_is) in
    subst (λ (x : Chained).
    Ran x c.chain_at_decision.result (g.A.RouteView.route c.args.old.now) c.chain_at_decision.new.work)
    (chain-numbers m Decision [] w noted c.deref.result.now numbers
    ∙ ap (λ (x : Manifest). chain x Decision [] w noted) c.manifest.view_is)
    c.chain_at_decision.ensures.ran

pub returns-clause-closed : goal.returns-clause-closed
returns-clause-closed g c =
    let w =
    (shown_at_decision c.args.prefix (g.A.RouteView.route c.args.old.now) c.args.old_side.now
    (g.B.RouteView.route c.args.new.now) c.args.new_side.now c.args.local.now c.args.work.now.maps 0).world in
    still-closed Decision [] w c.args.work.now.faults (picked c.manifest.inside.programs c.deref.result.now)
    c.chain_at_decision.result (g.A.RouteView.route c.args.old.now) c.chain_at_decision.new.work
    c.chain_at_decision.ensures.ran

pub returns-clause-shapes : goal.returns-clause-shapes
returns-clause-shapes g c =
    let w =
    (shown_at_decision c.args.prefix (g.A.RouteView.route c.args.old.now) c.args.old_side.now
    (g.B.RouteView.route c.args.new.now) c.args.new_side.now c.args.local.now c.args.work.now.maps 0).world in
    still-shapes Decision [] w c.args.work.now.faults (picked c.manifest.inside.programs c.deref.result.now)
    c.chain_at_decision.result (g.A.RouteView.route c.args.old.now) c.chain_at_decision.new.work
    c.chain_at_decision.ensures.ran

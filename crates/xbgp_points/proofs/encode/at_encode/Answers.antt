-- The chain of the point, by the numbers of its programs.
use Rattle.std.proofs.Common.{◌≡◌, ◌∙◌, sym, ap, subst, []}
use Rattle.xb_domain.specs.declared.point.Point.TheVariants.{Encode}
use Rattle.xbgp_helpers.specs.Shows.{shown_at_encode}
use Rattle.std.specs.Option.{unwrap_or}
use Rattle.xbgp_manifest.specs.Manifests.{Manifest}
use Rattle.xbgp_points.specs.Chains.{Chained, chain}
use Rattle.xbgp_points.specs.Orders.{Ran, numbers_from, picked}
use Rattle.xbgp_points.specs.Points.{section_by}
use Rattle.xbgp_points.proofs.EngineLemmas.{chain-numbers, runnable, still-closed, still-shapes}
use Rattle.xbgp_points.proofs.encode.at_encode.Goals as goal

pub chain_at_encode-requires-clause-numbers : goal.chain_at_encode-requires-clause-numbers
chain_at_encode-requires-clause-numbers g c =
    let m : Manifest = record { maps = c.manifest.inside.maps; programs = c.manifest.inside.programs } in
    let numbers =
    c.deref.ensures.value ∙ c.requires.orders.encode
    ∙ ap (λ (x : Manifest). numbers_from Encode 0 x.programs) (sym c.manifest.view_is) in
    runnable m Encode c.deref.result.now c.manifest.invariant numbers

pub returns-clause-ran : goal.returns-clause-ran
returns-clause-ran g c =
    let m : Manifest = record { maps = c.manifest.inside.maps; programs = c.manifest.inside.programs } in
    let w =
    (shown_at_encode c.args.peer.now c.args.source.now (g.R.RouteView.route c.args.best.now) c.args.route.now.route
    c.args.out.now c.args.local.now c.args.work.now.maps 0).world in
    let noted = c.args.work.now.faults in
    let numbers =
    c.deref.ensures.value ∙ c.requires.orders.encode
    ∙ ap (λ (x : Manifest). numbers_from Encode 0 x.programs) (sym c.manifest.view_is) in
    subst (λ (x : Chained). Ran x c.chain_at_encode.result c.args.route.now.route c.chain_at_encode.new.work)
    (chain-numbers m Encode [] w noted c.deref.result.now numbers
    ∙ ap (λ (x : Manifest). chain x Encode [] w noted) c.manifest.view_is)
    c.chain_at_encode.ensures.ran

pub returns-clause-closed : goal.returns-clause-closed
returns-clause-closed g c =
    let w =
    (shown_at_encode c.args.peer.now c.args.source.now (g.R.RouteView.route c.args.best.now) c.args.route.now.route
    c.args.out.now c.args.local.now c.args.work.now.maps 0).world in
    still-closed Encode [] w c.args.work.now.faults (picked c.manifest.inside.programs c.deref.result.now)
    c.chain_at_encode.result c.args.route.now.route c.chain_at_encode.new.work
    c.chain_at_encode.ensures.ran

pub returns-clause-shapes : goal.returns-clause-shapes
returns-clause-shapes g c =
    let w =
    (shown_at_encode c.args.peer.now c.args.source.now (g.R.RouteView.route c.args.best.now) c.args.route.now.route
    c.args.out.now c.args.local.now c.args.work.now.maps 0).world in
    still-shapes Encode [] w c.args.work.now.faults (picked c.manifest.inside.programs c.deref.result.now)
    c.chain_at_encode.result c.args.route.now.route c.chain_at_encode.new.work
    c.chain_at_encode.ensures.ran

pub returns-clause-out : goal.returns-clause-out
returns-clause-out g c =
    let m : Manifest = record { maps = c.manifest.inside.maps; programs = c.manifest.inside.programs } in
    let w =
    (shown_at_encode c.args.peer.now c.args.source.now (g.R.RouteView.route c.args.best.now) c.args.route.now.route
    c.args.out.now c.args.local.now c.args.work.now.maps 0).world in
    let noted = c.args.work.now.faults in
    let numbers =
    c.deref.ensures.value ∙ c.requires.orders.encode
    ∙ ap (λ (x : Manifest). numbers_from Encode 0 x.programs) (sym c.manifest.view_is) in
    subst (λ (x : Chained). c.chain_at_encode.new.out
    ≡ record c.args.out.now { octets = unwrap_or (section_by x.outcome (x.world).route (x.world).buffer) [] })
    (chain-numbers m Encode [] w noted c.deref.result.now numbers
    ∙ ap (λ (x : Manifest). chain x Encode [] w noted) c.manifest.view_is)
    c.chain_at_encode.ensures.out

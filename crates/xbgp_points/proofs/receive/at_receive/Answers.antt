-- The chain of the point, by the numbers of its programs.
use Rattle.std.proofs.Common.{◌∙◌, sym, ap, subst}
use Rattle.xb_domain.specs.declared.point.Point.TheVariants.{Receive}
use Rattle.xbgp_helpers.specs.Shows.{shown_at_receive}
use Rattle.xbgp_manifest.specs.Manifests.{Manifest}
use Rattle.xbgp_points.specs.Chains.{Chained, chain}
use Rattle.xbgp_points.specs.Orders.{Ran, numbers_from, picked}
use Rattle.xbgp_points.proofs.EngineLemmas.{chain-numbers, runnable, still-closed, still-shapes}
use Rattle.xbgp_points.proofs.receive.at_receive.Goals as goal

pub chain_at_receive-requires-clause-numbers : goal.chain_at_receive-requires-clause-numbers
chain_at_receive-requires-clause-numbers c =
    let m : Manifest = record { maps = c.manifest.inside.maps; programs = c.manifest.inside.programs } in
    let numbers =
    c.deref.ensures.value ∙ c.requires.orders.receive
    ∙ ap (λ (x : Manifest). numbers_from Receive 0 x.programs) (sym c.manifest.view_is) in
    runnable m Receive c.deref.result.now c.manifest.invariant numbers

pub returns-clause-ran : goal.returns-clause-ran
returns-clause-ran c =
    let m : Manifest = record { maps = c.manifest.inside.maps; programs = c.manifest.inside.programs } in
    let w =
    (shown_at_receive c.args.now c.args.peer.now c.args.route.now c.args.local.now c.args.work.now.maps 0).world in
    let noted = c.args.work.now.faults in
    let numbers =
    c.deref.ensures.value ∙ c.requires.orders.receive
    ∙ ap (λ (x : Manifest). numbers_from Receive 0 x.programs) (sym c.manifest.view_is) in
    subst (λ (x : Chained).
    Ran x c.chain_at_receive.result c.chain_at_receive.new.route.route c.chain_at_receive.new.work)
    (chain-numbers m Receive c.args.body.now w noted c.deref.result.now numbers
    ∙ ap (λ (x : Manifest). chain x Receive c.args.body.now w noted) c.manifest.view_is)
    c.chain_at_receive.ensures.ran

pub returns-clause-closed : goal.returns-clause-closed
returns-clause-closed c =
    let w =
    (shown_at_receive c.args.now c.args.peer.now c.args.route.now c.args.local.now c.args.work.now.maps 0).world in
    still-closed Receive c.args.body.now w c.args.work.now.faults (picked c.manifest.inside.programs c.deref.result.now)
    c.chain_at_receive.result c.chain_at_receive.new.route.route c.chain_at_receive.new.work
    c.chain_at_receive.ensures.ran

pub returns-clause-shapes : goal.returns-clause-shapes
returns-clause-shapes c =
    let w =
    (shown_at_receive c.args.now c.args.peer.now c.args.route.now c.args.local.now c.args.work.now.maps 0).world in
    still-shapes Receive c.args.body.now w c.args.work.now.faults (picked c.manifest.inside.programs c.deref.result.now)
    c.chain_at_receive.result c.chain_at_receive.new.route.route c.chain_at_receive.new.work
    c.chain_at_receive.ensures.ran

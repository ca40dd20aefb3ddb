-- What the chain leaves, once it is taken back if a program failed.
use Rattle.std.proofs.Common.{◌≡◌, ◌∙◌, refl, sym, ap, subst, List, [], false}
use Rattle.xb_domain.specs.declared.point.Point.TheVariants.{Outbound}
use Rattle.bgp_attr.specs.Routes.{Route}
use Rattle.xbgp_helpers.specs.Shows.{shown_at_outbound}
use Rattle.xbgp_helpers.specs.Worlds.{World}
use Rattle.xbgp_maps.specs.Mappings.{Mapping, closed}
use Rattle.xbgp_view.specs.Views.{Edited}
use Rattle.xbgp_points.specs.declared.work.Work.{Work}
use Rattle.xbgp_points.specs.Chains.{chain_from, is_failed}
use Rattle.xbgp_points.specs.Engines.{KeepsRoute}
use Rattle.xbgp_points.specs.Orders.{Parts, Ran, picked}
use Rattle.xbgp_points.proofs.ChainLemmas.{chain-back, either-same, ran, route-after, wrote-none}
use Rattle.xbgp_points.proofs.SoundLemmas.{chain-keeps_route}
use Rattle.xbgp_points.proofs.outbound.chain_at_outbound.Goals as goal

pub returns-clause-ran : goal.returns-clause-ran
returns-clause-ran g c =
    let best = g.R.RouteView.route c.args.best.now in
    let m0 = c.args.work.now.maps in
    let world = λ (r : Edited).
    (shown_at_outbound c.args.peer.now c.args.source.now c.args.prefix best r c.args.local.now m0 0).world in
    let r0 = c.args.route.now in
    let r1 = c.keep.new.self in
    let r2 = c.run_programs-outcome.new.route in
    let given = c.run_programs-outcome.result in
    let noted = c.args.work.now.faults in
    let programs = picked c.args.programs.now c.args.numbers.now in
    let left : Parts = record { route = r2.route; maps = m0.maps; writes = 0; buffer = [] } in
    let before = world r1 in
    let same : before ≡ world r0 = ap (λ (r : Edited). world r) c.keep.ensures in
    let work : Work = record {
      maps = m0;
      faults = c.run_programs-outcome.new.faults;
      room = c.run_programs-outcome.new.room;
      section = c.args.work.now.section;
      wrote = false;
    } in
    let there =
    ran (chain_from Outbound [] before noted programs before) before left given
    c.run_programs-outcome.new.faults (chain-back Outbound [] before noted programs before)
    c.run_programs-outcome.ensures.left c.take_back.new.route.route work
    (route-after before left given r0 r1 r2 c.take_back.new.route c.keep.ensures
    c.run_programs-outcome.ensures.kept c.take_back.ensures refl refl)
    (c.requires.closed ∙ ap (λ (m : List Mapping). closed m) (sym (either-same (is_failed given) m0.maps)))
    refl (sym (wrote-none (is_failed given))) in
    subst (λ (w : World). Ran (chain_from Outbound [] w noted programs w) given c.take_back.new.route.route work)
    same there

pub returns-clause-keeps : goal.returns-clause-keeps
returns-clause-keeps g c =
    let best = g.R.RouteView.route c.args.best.now in
    let m0 = c.args.work.now.maps in
    let w =
    (shown_at_outbound c.args.peer.now c.args.source.now c.args.prefix best c.args.route.now c.args.local.now m0
    0).world in
    let route = (returns-clause-ran g c).route in
    subst (λ (r : Route). KeepsRoute c.args.route.now.route r) (sym route)
    (chain-keeps_route Outbound [] c.args.work.now.faults (picked c.args.programs.now c.args.numbers.now) w
    c.code_from-shape.ensures.shape)

-- What the chain leaves, once it is taken back if a program failed.
use Rattle.std.proofs.Common.{◌≡◌, ◌∙◌, refl, sym, ap, subst, []}
use Rattle.xb_domain.specs.declared.point.Point.TheVariants.{Receive}
use Rattle.bgp_attr.specs.Routes.{Route}
use Rattle.xbgp_helpers.specs.Shows.{shown_at_receive}
use Rattle.xbgp_helpers.specs.Worlds.{World}
use Rattle.xbgp_maps.specs.Mappings.{Journalled}
use Rattle.xbgp_view.specs.Views.{Edited}
use Rattle.xbgp_points.specs.declared.work.Work.{Work}
use Rattle.xbgp_points.specs.Chains.{chain_from}
use Rattle.xbgp_points.specs.Engines.{KeepsRoute}
use Rattle.xbgp_points.specs.Orders.{Parts, Ran, picked}
use Rattle.xbgp_points.proofs.ChainLemmas.{chain-back, maps-after, ran, route-after}
use Rattle.xbgp_points.proofs.SoundLemmas.{chain-keeps_route}
use Rattle.xbgp_points.proofs.receive.chain_at_receive.Goals as goal

pub returns-clause-ran : goal.returns-clause-ran
returns-clause-ran c =
    let world = λ (r : Edited) (m : Journalled).
    (shown_at_receive c.args.now c.args.peer.now r c.args.local.now m 0).world in
    let r0 = c.args.route.now in
    let r1 = c.keep.new.self in
    let r2 = c.run_programs-outcome.new.route in
    let m0 = c.args.work.now.maps in
    let m1 = c.begin.new.self in
    let m2 = c.run_programs-outcome.new.maps in
    let given = c.run_programs-outcome.result in
    let noted = c.args.work.now.faults in
    let programs = picked c.args.programs.now c.args.numbers.now in
    let left : Parts = record { route = r2.route; maps = m2.maps; writes = m2.writes; buffer = [] } in
    let before = world r1 m1 in
    let same : before ≡ world r0 m0 =
    ap (λ (r : Edited). world r m1) c.keep.ensures
    ∙ ap (λ (m : Journalled). world r0 m) c.begin.ensures
    ∙ sym (ap (λ (m : Journalled). world r0 m) c.requires.closed) in
    let work : Work = record {
      maps = c.close_run-work.new.maps;
      faults = c.run_programs-outcome.new.faults;
      room = c.run_programs-outcome.new.room;
      section = c.args.work.now.section;
      wrote = c.close_run-work.result;
    } in
    let there =
    ran (chain_from Receive c.args.body.now before noted programs before) before left given
    c.run_programs-outcome.new.faults (chain-back Receive c.args.body.now before noted programs before)
    c.run_programs-outcome.ensures.left c.take_back.new.route.route
    work
    (route-after before left given r0 r1 r2 c.take_back.new.route c.keep.ensures
    c.run_programs-outcome.ensures.kept c.take_back.ensures refl refl)
    (maps-after before left given m0 m1 m2 c.close_run-work.new.maps c.begin.ensures
    c.run_programs-outcome.ensures.began c.close_run-work.ensures.maps refl refl)
    refl c.close_run-work.ensures.wrote in
    subst (λ (w : World).
    Ran (chain_from Receive c.args.body.now w noted programs w) given c.take_back.new.route.route work)
    same there

pub returns-clause-keeps : goal.returns-clause-keeps
returns-clause-keeps c =
    let w =
    (shown_at_receive c.args.now c.args.peer.now c.args.route.now c.args.local.now c.args.work.now.maps 0).world in
    let route = (returns-clause-ran c).route in
    subst (λ (r : Route). KeepsRoute c.args.route.now.route r) (sym route)
    (chain-keeps_route Receive c.args.body.now c.args.work.now.faults (picked c.args.programs.now c.args.numbers.now) w
    c.code_from-shape.ensures.shape)

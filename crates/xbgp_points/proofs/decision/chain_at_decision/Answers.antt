-- What the chain leaves.
use Rattle.std.proofs.Common.{◌∙◌, refl, sym, ap, List, [], false}
use Rattle.xb_domain.specs.declared.point.Point.TheVariants.{Decision}
use Rattle.xbgp_helpers.specs.Shows.{shown_at_decision}
use Rattle.xbgp_maps.specs.Mappings.{Mapping, closed}
use Rattle.xbgp_points.specs.declared.work.Work.{Work}
use Rattle.xbgp_points.specs.Chains.{chain_from, is_failed}
use Rattle.xbgp_points.specs.Orders.{Parts, picked}
use Rattle.xbgp_points.proofs.ChainLemmas.{chain-back, either-same, ran, wrote-none}
use Rattle.xbgp_points.proofs.decision.chain_at_decision.Goals as goal

pub returns-clause-ran : goal.returns-clause-ran
returns-clause-ran g c =
    let old = g.A.RouteView.route c.args.old.now in
    let new = g.B.RouteView.route c.args.new.now in
    let m0 = c.args.work.now.maps in
    let before =
    (shown_at_decision c.args.prefix old c.args.old_side.now new c.args.new_side.now c.args.local.now m0 0).world in
    let given = c.run_programs.result in
    let noted = c.args.work.now.faults in
    let programs = picked c.args.programs.now c.args.numbers.now in
    let left : Parts = record { route = old; maps = m0.maps; writes = 0; buffer = [] } in
    let work : Work = record {
      maps = m0;
      faults = c.run_programs.new.faults;
      room = c.run_programs.new.room;
      section = c.args.work.now.section;
      wrote = false;
    } in
    ran (chain_from Decision [] before noted programs before) before left given c.run_programs.new.faults
    (chain-back Decision [] before noted programs before) c.run_programs.ensures old work
    (sym (either-same (is_failed given) old))
    (c.requires.closed ∙ ap (λ (m : List Mapping). closed m) (sym (either-same (is_failed given) m0.maps)))
    refl (sym (wrote-none (is_failed given)))

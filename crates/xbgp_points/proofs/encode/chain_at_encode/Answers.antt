-- What the chain leaves, and the section that it gives.
use Rattle.std.proofs.Common.{◌∙◌, refl, sym, ap, subst, List, ℕ, [], false, Option}
use Rattle.std.specs.Prelude.{IfSome, IsTrue}
use Rattle.std.specs.Option.{unwrap_or}
use Rattle.xb_domain.specs.declared.point.Point.TheVariants.{Encode}
use Rattle.xb_values.specs.Buffers.{Buffer}
use Rattle.xbgp_helpers.specs.Shows.{shown_at_encode}
use Rattle.xbgp_maps.specs.Mappings.{Mapping, closed}
use Rattle.xbgp_points.specs.declared.work.Work.{Work}
use Rattle.xbgp_points.specs.Chains.{chain_from, is_failed, is_sendable}
use Rattle.xbgp_points.specs.Orders.{Parts, picked}
use Rattle.xbgp_points.specs.Points.{section_by}
use Rattle.xbgp_points.proofs.ChainLemmas.{chain-back, either-same, ran, wrote-none}
use Rattle.xbgp_points.proofs.SectionLemmas.{chain-sends, section-left}
use Rattle.xbgp_points.proofs.encode.chain_at_encode.Goals as goal

pub give_section-requires-clause-sendable : goal.give_section-requires-clause-sendable
give_section-requires-clause-sendable g c =
    let best = g.R.RouteView.route c.args.best.now in
    let m0 = c.args.work.now.maps in
    let before =
    (shown_at_encode c.args.peer.now c.args.source.now best c.args.route.now.route c.args.out.now c.args.local.now m0
    0).world in
    let noted = c.args.work.now.faults in
    let programs = picked c.args.programs.now c.args.numbers.now in
    let left : Parts = record {
      route = c.args.route.now.route;
      maps = m0.maps;
      writes = 0;
      buffer = c.run_programs-outcome.new.out.octets;
    } in
    let chain = chain_from Encode [] before noted programs before in
    subst (λ (o : Option (List ℕ)). IfSome o (λ s. IsTrue (is_sendable s)))
    (sym (section-left chain c.run_programs-outcome.result c.run_programs-outcome.new.faults left
    c.run_programs-outcome.ensures.left))
    (chain-sends [] before noted programs before)

pub returns-clause-ran : goal.returns-clause-ran
returns-clause-ran g c =
    let best = g.R.RouteView.route c.args.best.now in
    let m0 = c.args.work.now.maps in
    let route = c.args.route.now.route in
    let before =
    (shown_at_encode c.args.peer.now c.args.source.now best route c.args.out.now c.args.local.now m0 0).world in
    let given = c.run_programs-outcome.result in
    let noted = c.args.work.now.faults in
    let programs = picked c.args.programs.now c.args.numbers.now in
    let left : Parts = record {
      route = route;
      maps = m0.maps;
      writes = 0;
      buffer = c.run_programs-outcome.new.out.octets;
    } in
    let work : Work = record {
      maps = m0;
      faults = c.run_programs-outcome.new.faults;
      room = c.run_programs-outcome.new.room;
      section = c.give_section.new.section;
      wrote = false;
    } in
    ran (chain_from Encode [] before noted programs before) before left given c.run_programs-outcome.new.faults
    (chain-back Encode [] before noted programs before) c.run_programs-outcome.ensures.left route work
    (sym (either-same (is_failed given) route))
    (c.requires.closed ∙ ap (λ (m : List Mapping). closed m) (sym (either-same (is_failed given) m0.maps)))
    refl (sym (wrote-none (is_failed given)))

pub returns-clause-out : goal.returns-clause-out
returns-clause-out g c =
    let best = g.R.RouteView.route c.args.best.now in
    let m0 = c.args.work.now.maps in
    let before =
    (shown_at_encode c.args.peer.now c.args.source.now best c.args.route.now.route c.args.out.now c.args.local.now m0
    0).world in
    let noted = c.args.work.now.faults in
    let programs = picked c.args.programs.now c.args.numbers.now in
    let left : Parts = record {
      route = c.args.route.now.route;
      maps = m0.maps;
      writes = 0;
      buffer = c.run_programs-outcome.new.out.octets;
    } in
    let chain = chain_from Encode [] before noted programs before in
    let same =
    section-left chain c.run_programs-outcome.result c.run_programs-outcome.new.faults left
    c.run_programs-outcome.ensures.left in
    c.give_section.ensures.out
    ∙ ap (λ (n : ℕ). let b : Buffer = record {
      octets = unwrap_or (section_by c.run_programs-outcome.result left.route left.buffer) [];
      capacity = n;
    } in b) c.run_programs-outcome.ensures.out
    ∙ ap (λ (o : Option (List ℕ)). let b : Buffer = record {
      octets = unwrap_or o [];
      capacity = c.args.out.now.capacity;
    } in b)
    same

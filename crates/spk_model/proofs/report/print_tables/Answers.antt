use Rattle.std.proofs.Common.{◌++◌, refl}
use Rattle.xb_io.proofs.PageLemmas.{gathered_begin}
use Rattle.spk_model.specs.Reports.{adv_lines, drained_lines, fault_lines, map_lines, route_lines, table_lines}
use Rattle.spk_model.proofs.GatherLemmas.{gathered_line, gathers_last, gathers_no_line}
use Rattle.spk_model.proofs.report.print_tables.Goals as goal

pub returns-in_err-print_routes : goal.returns-in_err-print_routes
returns-in_err-print_routes g c =
    let s = g.H.Host.speaker c.args.host.now in
    let setup = g.H.Host.built_from c.args.host.now in
    let faults = fault_lines setup.manifest s in
    let maps = map_lines setup.manifest s ++ faults in
    let drained = drained_lines setup s ++ maps in
    let adv = adv_lines setup s ++ drained in
    let all = table_lines setup s in
    let g0 = gathered_begin g.K.Sink.took g.K.Sink.faults c.args.sink.now c.args.page.now all in
    gathers_no_line g.K.Sink.took g.K.Sink.faults _ _ _ c.args.page.now all c.args.page.now c.print_routes.new.page
    (route_lines s) all adv
    c.in_err-print_routes.field-0.0 c.from_residual.result refl c.from_residual.ensures.1 g0
    c.in_err-print_routes.ensures

pub returns-in_err-print_all_advertised : goal.returns-in_err-print_all_advertised
returns-in_err-print_all_advertised g c =
    let s = g.H.Host.speaker c.args.host.now in
    let setup = g.H.Host.built_from c.args.host.now in
    let faults = fault_lines setup.manifest s in
    let maps = map_lines setup.manifest s ++ faults in
    let drained = drained_lines setup s ++ maps in
    let adv = adv_lines setup s ++ drained in
    let all = table_lines setup s in
    let g0 = gathered_begin g.K.Sink.took g.K.Sink.faults c.args.sink.now c.args.page.now all in
    let g1 = gathered_line g.K.Sink.took g.K.Sink.faults _ _ _ _ c.args.page.now c.print_routes.new.page
    (route_lines s) all adv refl g0 c.in_ok-print_routes.ensures in
    gathers_no_line g.K.Sink.took g.K.Sink.faults _ _ _ c.args.page.now all c.print_routes.new.page
    c.print_all_advertised.new.page (adv_lines setup s) adv drained
    c.in_err-print_all_advertised.field-0.0 c.from_residual-in_err-print_all_advertised.result refl
    c.from_residual-in_err-print_all_advertised.ensures.1 g1 c.in_err-print_all_advertised.ensures

pub returns-in_err-print_drained : goal.returns-in_err-print_drained
returns-in_err-print_drained g c =
    let s = g.H.Host.speaker c.args.host.now in
    let setup = g.H.Host.built_from c.args.host.now in
    let faults = fault_lines setup.manifest s in
    let maps = map_lines setup.manifest s ++ faults in
    let drained = drained_lines setup s ++ maps in
    let adv = adv_lines setup s ++ drained in
    let all = table_lines setup s in
    let g0 = gathered_begin g.K.Sink.took g.K.Sink.faults c.args.sink.now c.args.page.now all in
    let g1 = gathered_line g.K.Sink.took g.K.Sink.faults _ _ _ _ c.args.page.now c.print_routes.new.page
    (route_lines s) all adv refl g0 c.in_ok-print_routes.ensures in
    let g2 = gathered_line g.K.Sink.took g.K.Sink.faults _ _ _ _ c.print_routes.new.page
    c.print_all_advertised.new.page (adv_lines setup s) adv drained refl g1 c.in_ok-print_all_advertised.ensures in
    gathers_no_line g.K.Sink.took g.K.Sink.faults _ _ _ c.args.page.now all c.print_all_advertised.new.page
    c.print_drained.new.page (drained_lines setup s) drained maps
    c.in_err-print_drained.field-0.0 c.from_residual-in_err-print_drained.result refl
    c.from_residual-in_err-print_drained.ensures.1 g2 c.in_err-print_drained.ensures

pub returns-in_err-print_maps : goal.returns-in_err-print_maps
returns-in_err-print_maps g c =
    let s = g.H.Host.speaker c.args.host.now in
    let setup = g.H.Host.built_from c.args.host.now in
    let faults = fault_lines setup.manifest s in
    let maps = map_lines setup.manifest s ++ faults in
    let drained = drained_lines setup s ++ maps in
    let adv = adv_lines setup s ++ drained in
    let all = table_lines setup s in
    let g0 = gathered_begin g.K.Sink.took g.K.Sink.faults c.args.sink.now c.args.page.now all in
    let g1 = gathered_line g.K.Sink.took g.K.Sink.faults _ _ _ _ c.args.page.now c.print_routes.new.page
    (route_lines s) all adv refl g0 c.in_ok-print_routes.ensures in
    let g2 = gathered_line g.K.Sink.took g.K.Sink.faults _ _ _ _ c.print_routes.new.page
    c.print_all_advertised.new.page (adv_lines setup s) adv drained refl g1 c.in_ok-print_all_advertised.ensures in
    let g3 = gathered_line g.K.Sink.took g.K.Sink.faults _ _ _ _ c.print_all_advertised.new.page
    c.print_drained.new.page (drained_lines setup s) drained maps refl g2 c.in_ok-print_drained.ensures in
    gathers_no_line g.K.Sink.took g.K.Sink.faults _ _ _ c.args.page.now all c.print_drained.new.page
    c.print_maps.new.page (map_lines setup.manifest s) maps faults
    c.in_err-print_maps.field-0.0 c.from_residual-in_err-print_maps.result refl
    c.from_residual-in_err-print_maps.ensures.1 g3 c.in_err-print_maps.ensures

pub returns : goal.returns
returns g c =
    let s = g.H.Host.speaker c.args.host.now in
    let setup = g.H.Host.built_from c.args.host.now in
    let faults = fault_lines setup.manifest s in
    let maps = map_lines setup.manifest s ++ faults in
    let drained = drained_lines setup s ++ maps in
    let adv = adv_lines setup s ++ drained in
    let all = table_lines setup s in
    let g0 = gathered_begin g.K.Sink.took g.K.Sink.faults c.args.sink.now c.args.page.now all in
    let g1 = gathered_line g.K.Sink.took g.K.Sink.faults _ _ _ _ c.args.page.now c.print_routes.new.page
    (route_lines s) all adv refl g0 c.in_ok-print_routes.ensures in
    let g2 = gathered_line g.K.Sink.took g.K.Sink.faults _ _ _ _ c.print_routes.new.page
    c.print_all_advertised.new.page (adv_lines setup s) adv drained refl g1 c.in_ok-print_all_advertised.ensures in
    let g3 = gathered_line g.K.Sink.took g.K.Sink.faults _ _ _ _ c.print_all_advertised.new.page
    c.print_drained.new.page (drained_lines setup s) drained maps refl g2 c.in_ok-print_drained.ensures in
    let g4 = gathered_line g.K.Sink.took g.K.Sink.faults _ _ _ _ c.print_drained.new.page c.print_maps.new.page
    (map_lines setup.manifest s) maps faults refl g3 c.in_ok-print_maps.ensures in
    gathers_last g.K.Sink.took g.K.Sink.faults _ _ _ c.args.page.now all c.print_maps.new.page c.print_faults.new.page
    faults c.print_faults.result g4
    c.print_faults.ensures

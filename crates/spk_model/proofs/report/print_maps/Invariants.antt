use Rattle.std.proofs.Common.{◌++◌, drop, flat_map}
use Rattle.std.specs.Prelude.{zip}
use Rattle.xb_io.specs.Pages.{Gathered}
use Rattle.spk_model.specs.Reports.{lines_of_map, map_lines}
use Rattle.spk_model.proofs.report.print_maps.Given as goal

-- the lines so far are gathered, and those of the maps that are left are still to come
abbrev pub invariant-maps : goal.invariant-maps
invariant-maps g l =
    let s = g.H.Host.speaker l.host in
    let manifest = (g.H.Host.built_from l.host).manifest in
    Gathered g.K.Sink.took g.K.Sink.faults l.fn.sink l.sink (l.fn.page ++ map_lines manifest s) l.page
    (flat_map lines_of_map (drop l.i (zip manifest.maps ((s.routing).engine).maps)))

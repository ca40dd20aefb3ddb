use Rattle.std.proofs.Common.{◌++◌, drop, flat_map}
use Rattle.xb_io.specs.Pages.{Gathered}
use Rattle.xbgp_points.specs.Chains.{numbered}
use Rattle.spk_model.specs.Reports.{numbered_fault_lines, fault_lines}
use Rattle.spk_model.proofs.report.print_faults.Given as goal

-- the lines so far are gathered, and those of the programs that are left are still to come
abbrev pub invariant-programs : goal.invariant-programs
invariant-programs g l =
    let s = g.H.Host.speaker l.host in
    let manifest = (g.H.Host.built_from l.host).manifest in
    Gathered g.K.Sink.took g.K.Sink.faults l.fn.sink l.sink (l.fn.page ++ fault_lines manifest s) l.page
    (flat_map (numbered_fault_lines s) (drop l.i (numbered 0 manifest.programs)))

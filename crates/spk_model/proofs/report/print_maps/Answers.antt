use Rattle.std.proofs.Common.{◌++◌, ◌≤◌, length, ◌∙◌, ◌+◌, ℕ, List, ap, sym, subst, drop, flat_map, arith}
use Rattle.std.specs.Prelude.{zip}
use Rattle.std.specs.List.{slice_get}
use Rattle.xbgp_maps.specs.Mappings.{mapping_at}
use Rattle.spk_model.specs.Names.{Named}
use Rattle.spk_model.specs.Readers.{entries_in}
use Rattle.spk_model.specs.Reports.{entry_lines, lines_of_map, map_lines}
use Rattle.spk_model.proofs.GatherLemmas.{gathered_line, gathered_all, gathers_no_line}
use Rattle.spk_model.proofs.PrintLemmas.{lines_of_maps, made_at, past_all, lines_of_no_maps}
use Rattle.spk_model.proofs.report.print_maps.Goals as goal

pub overflow_cast-i : goal.overflow_cast-i
overflow_cast-i g c = omega (arith, c.maps-i-end.ensures.few, c.maps-test.true)

pub returns-in_err-print_entries : goal.returns-in_err-print_entries
returns-in_err-print_entries g c =
    let s = g.H.Host.speaker c.args.host.now in
    let manifest = (g.H.Host.built_from c.args.host.now).manifest in
    let maps = ((s.routing).engine).maps in
    let i = c.maps.i in
    let entry = made_at (λ m. m.name) manifest.maps i c.map.result.now
    (ap (λ (n : Named). slice_get n.maps i) (sym c.requires) ∙ c.map.ensures) in
    let line = entry_lines c.map.result.now (entries_in (mapping_at maps i)) in
    gathers_no_line g.K.Sink.took g.K.Sink.faults _ _ _ c.args.page.now (map_lines manifest s) _
    c.print_entries.new.page line
    (flat_map lines_of_map (drop i (zip manifest.maps maps)))
    (flat_map lines_of_map (drop (i + 1) (zip manifest.maps maps)))
    c.in_err-print_entries.field-0.0 c.from_residual.result
    (lines_of_maps manifest.maps maps i entry.0 entry.1
    ∙ ap (λ (name : List ℕ). entry_lines name (entries_in (mapping_at maps i)) ++ flat_map lines_of_map
    (drop (i + 1) (zip manifest.maps maps))) entry.2)
    c.from_residual.ensures.1 c.maps.invariant c.in_err-print_entries.ensures

pub maps-preserved : goal.maps-preserved
maps-preserved g c =
    let s = g.H.Host.speaker c.args.host.now in
    let manifest = (g.H.Host.built_from c.args.host.now).manifest in
    let maps = ((s.routing).engine).maps in
    let i = c.maps.i in
    let entry = made_at (λ m. m.name) manifest.maps i c.map.result.now
    (ap (λ (n : Named). slice_get n.maps i) (sym c.requires) ∙ c.map.ensures) in
    let line = entry_lines c.map.result.now (entries_in (mapping_at maps i)) in
    gathered_line g.K.Sink.took g.K.Sink.faults _ _ _ _ _ _ line
    (flat_map lines_of_map (drop i (zip manifest.maps maps)))
    (flat_map lines_of_map (drop (i + 1) (zip manifest.maps maps)))
    (lines_of_maps manifest.maps maps i entry.0 entry.1
    ∙ ap (λ (name : List ℕ). entry_lines name (entries_in (mapping_at maps i)) ++ flat_map lines_of_map
    (drop (i + 1) (zip manifest.maps maps))) entry.2)
    c.maps.invariant c.in_ok-print_entries.ensures

pub returns : goal.returns
returns g c =
    let s = g.H.Host.speaker c.args.host.now in
    let manifest = (g.H.Host.built_from c.args.host.now).manifest in
    let maps = ((s.routing).engine).maps in
    gathered_all g.K.Sink.took g.K.Sink.faults _ _ _ _ (flat_map lines_of_map (drop c.maps.i (zip manifest.maps maps)))
    (lines_of_no_maps manifest.maps maps c.maps.i
    (past_all (λ m. m.name) manifest.maps c.maps.i (subst (λ (n : Named). length n.maps ≤ c.maps.i) c.requires
    (subst (λ (n : ℕ). n ≤ c.maps.i) c.maps-i-end.ensures.count c.maps-test.false))))
    c.maps.invariant

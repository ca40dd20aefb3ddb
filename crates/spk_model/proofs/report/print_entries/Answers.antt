use Rattle.std.proofs.Common.{◌≡◌, ◌∙◌, Some, sym, flat_map, ℕ, List}
use Rattle.std.specs.Option.{option_map}
use Rattle.std.proofs.lemmas.Cmp.{nat_list_cmp_total}
use Rattle.xb_words.specs.Table.{entry_after, entries_after}
use Rattle.xbgp_maps.specs.Mappings.{key_cmp}
use Rattle.spk_model.specs.Readers.{map_entries}
use Rattle.spk_model.specs.Reports.{entry_line_of, entry_lines}
use Rattle.spk_model.proofs.GatherLemmas.{gathered_line, gathers_no_line}
use Rattle.spk_model.proofs.PrintLemmas.{fewer_after, lines_after-some, map_entry}
use Rattle.spk_model.proofs.report.print_entries.Goals as goal

pub returns-in_err-entry : goal.returns-in_err-entry
returns-in_err-entry g c =
    let s = g.H.Host.speaker c.args.host.now in
    let entries = map_entries s c.args.map in
    let after = option_map (λ k. k.now) c.entries.after in
    let e : List ℕ × List ℕ = (c.in-Some.key.now, c.in-Some.value.now) in
    let next : entry_after key_cmp entries after ≡ Some e = map_entry s c.args.map after ∙ sym c.in-Some.ensures.entry
    in
    gathers_no_line g.K.Sink.took g.K.Sink.faults _ _ _ c.args.page.now (entry_lines c.args.name.now entries) _
    c.entry.new.self
    (entry_line_of c.args.name.now e) (flat_map (entry_line_of c.args.name.now) (entries_after key_cmp entries after))
    (flat_map (entry_line_of c.args.name.now) (entries_after key_cmp entries (Some e.0))) c.in_err-entry.field-0.0
    c.from_residual.result
    (lines_after-some key_cmp nat_list_cmp_total (entry_line_of c.args.name.now) entries after e
    c.in-Some.ensures.rising next)
    c.from_residual.ensures.1 c.entries.invariant c.in_err-entry.ensures

pub entries-smaller : goal.entries-smaller
entries-smaller g c =
    let s = g.H.Host.speaker c.args.host.now in
    let entries = map_entries s c.args.map in
    let after = option_map (λ k. k.now) c.entries.after in
    let e : List ℕ × List ℕ = (c.in-Some.key.now, c.in-Some.value.now) in
    let next : entry_after key_cmp entries after ≡ Some e = map_entry s c.args.map after ∙ sym c.in-Some.ensures.entry
    in
    fewer_after key_cmp nat_list_cmp_total (entry_line_of c.args.name.now) entries after e c.in-Some.ensures.rising next

pub entries-preserved : goal.entries-preserved
entries-preserved g c =
    let s = g.H.Host.speaker c.args.host.now in
    let entries = map_entries s c.args.map in
    let after = option_map (λ k. k.now) c.entries.after in
    let e : List ℕ × List ℕ = (c.in-Some.key.now, c.in-Some.value.now) in
    let next : entry_after key_cmp entries after ≡ Some e = map_entry s c.args.map after ∙ sym c.in-Some.ensures.entry
    in
    gathered_line g.K.Sink.took g.K.Sink.faults _ _ _ _ _ _ (entry_line_of c.args.name.now e)
    (flat_map (entry_line_of c.args.name.now) (entries_after key_cmp entries after))
    (flat_map (entry_line_of c.args.name.now) (entries_after key_cmp entries (Some e.0)))
    (lines_after-some key_cmp nat_list_cmp_total (entry_line_of c.args.name.now) entries after e
    c.in-Some.ensures.rising next)
    c.entries.invariant c.in_ok-entry.ensures

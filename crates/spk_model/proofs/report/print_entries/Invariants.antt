use Rattle.std.proofs.Common.{◌++◌, length, flat_map}
use Rattle.std.specs.Option.{option_map}
use Rattle.xb_words.specs.Table.{entries_after}
use Rattle.xb_io.specs.Pages.{Gathered}
use Rattle.xbgp_maps.specs.Mappings.{key_cmp}
use Rattle.spk_model.specs.Readers.{map_entries}
use Rattle.spk_model.specs.Reports.{entry_line_of, entry_lines}
use Rattle.spk_model.proofs.report.print_entries.Given as goal

-- the lines so far are gathered, and those of the entries after the last key are still to come
abbrev pub invariant-entries : goal.invariant-entries
invariant-entries g l =
    let entries = map_entries (g.H.Host.speaker l.host) l.map in
    Gathered g.K.Sink.took g.K.Sink.faults l.fn.sink l.sink (l.fn.page ++ entry_lines l.name entries) l.page
    (flat_map (entry_line_of l.name) (entries_after key_cmp entries (option_map (λ k. k.now) l.after)))

-- the entries after the last key
abbrev pub decreases-entries : goal.decreases-entries
decreases-entries g l =
    length (entries_after key_cmp (map_entries (g.H.Host.speaker l.host) l.map) (option_map (λ k. k.now) l.after))

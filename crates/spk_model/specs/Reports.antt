-- The report of a replay (this project's own): a line for each output, and then the tables.
use Rattle.std.specs.Prelude.{ℕ, ◌-◌, Bool, List, [], ◌∷◌, ◌++◌, length, flat_map, zip, codes, decimal}
use Rattle.std.specs.Prelude.{◌==◌, ◌&&◌, if◌then◌else◌}
use Rattle.std.specs.List.{slice_index_or, range_with_len}
use Rattle.xb_domain.specs.declared.output.Packing.{Packing}
use Rattle.xb_domain.specs.declared.point.Point.{Point}
use Rattle.xb_domain.specs.Outputs.{Output}
use Rattle.xb_values.specs.Texts.{line}
use Rattle.bgp_attr.specs.Routes.{canon}
use Rattle.bgp_write.specs.Pending.{pending}
use Rattle.xb_values.specs.Prefixes.{Prefix}
use Rattle.xbgp_maps.specs.Mappings.{Mapping}
use Rattle.xbgp_manifest.specs.Manifests.{Manifest}
use Rattle.xbgp_manifest.specs.declared.entries.MapEntry.{MapEntry}
use Rattle.xbgp_manifest.specs.declared.entries.ProgramEntry.{ProgramEntry}
use Rattle.bpf_machine.specs.declared.world.Cause.{Cause}
use Rattle.bpf_machine.specs.declared.world.Cause.TheVariants.{Memory, Fuel, Misuse, BadReturn, BadOutput}
use Rattle.xbgp_points.specs.Chains.{numbered}
use Rattle.replay_log.specs.Logs.{Ending, whole_log, bad_line, long_log, log}
use Rattle.table_print.specs.Lines.{output_line, route_line, adv_line, drained_line, map_line, fault_line}
use Rattle.spk_model.specs.declared.host.Setup.{Setup}
use Rattle.spk_model.specs.Sources.{is_up}
use Rattle.spk_model.specs.Routing.{Chosen, tables_of}
use Rattle.spk_model.specs.Turning.{Speaker, Happened, history, start_of}
use Rattle.spk_model.specs.Readers.{has_fault}

-- a line for each output
abbrev pub output_lines : List Output → List ℕ
output_lines outputs = flat_map output_line outputs

-- the line of a best route, with its canonical section
abbrev pub route_line_of : Prefix × Chosen → List ℕ
route_line_of e = route_line e.0 (e.1).source (canon (e.1).route)

-- a line for each best route, by rising prefix
abbrev pub route_lines : Speaker → List ℕ
route_lines s = flat_map route_line_of (s.routing).best

-- the numbers of the configured peers
abbrev pub configured : Setup → List ℕ
configured setup = range_with_len 1 (length (setup.config).peers)

-- the line of a prefix that a peer is advertised, with its section
abbrev pub adv_line_of : ℕ → Prefix × List ℕ → List ℕ
adv_line_of p e = adv_line p e.0 e.1

-- a line for each prefix that a peer is advertised, by rising prefix
abbrev pub adv_lines_of : Speaker → ℕ → List ℕ
adv_lines_of s p = flat_map (adv_line_of p) (tables_of s.routing p).adv

-- these lines of each peer, by rising peer
abbrev pub adv_lines : Setup → Speaker → List ℕ
adv_lines setup s = flat_map (adv_lines_of s) (configured setup)

-- a peer's session is Established, and nothing is left to tell it
abbrev pub is_drained : Speaker → ℕ → Bool
is_drained s p =
    is_up s.sessions p && length (pending (tables_of s.routing p).adv (tables_of s.routing p).told) == 0
    && length (slice_index_or s.rests (p - 1) []) == 0

-- the line of such a peer
abbrev pub drained_line_of : Speaker → ℕ → List ℕ
drained_line_of s p = if is_drained s p then drained_line p else []

-- a line for each such peer
abbrev pub drained_lines : Setup → Speaker → List ℕ
drained_lines setup s = flat_map (drained_line_of s) (configured setup)

-- the line of an entry of a map with a name
abbrev pub entry_line_of : List ℕ → List ℕ × List ℕ → List ℕ
entry_line_of name e = map_line name e.0 e.1

-- a line for each entry, by rising key
abbrev pub entry_lines : List ℕ → List (List ℕ × List ℕ) → List ℕ
entry_lines name entries = flat_map (entry_line_of name) entries

-- these lines of a map
abbrev pub lines_of_map : MapEntry × Mapping → List ℕ
lines_of_map m = entry_lines (m.0).name (m.1).entries

-- these lines of each map, in the manifest's order
abbrev pub map_lines : Manifest → Speaker → List ℕ
map_lines manifest s = flat_map lines_of_map (zip manifest.maps ((s.routing).engine).maps)

-- the causes in the order of their lines
abbrev pub all_causes : List Cause
all_causes = Memory ∷ Fuel ∷ Misuse ∷ BadReturn ∷ BadOutput ∷ []

-- the line of a program's fault, if it was noted
abbrev pub fault_line_of : Speaker → ℕ → List ℕ → Point → Cause → List ℕ
fault_line_of s program name point cause = if has_fault s program cause then fault_line name point cause else []

-- a line for each fault of a program that was noted
abbrev pub program_fault_lines : Speaker → ℕ → List ℕ → Point → List ℕ
program_fault_lines s program name point = flat_map (fault_line_of s program name point) all_causes

-- these lines of a program with its number
abbrev pub numbered_fault_lines : Speaker → ℕ × ProgramEntry → List ℕ
numbered_fault_lines s p = program_fault_lines s p.0 (p.1).name (p.1).point

-- these lines of each program, in the manifest's order
abbrev pub fault_lines : Manifest → Speaker → List ℕ
fault_lines manifest s = flat_map (numbered_fault_lines s) (numbered 0 manifest.programs)

-- the tables of a speaker
abbrev pub table_lines : Setup → Speaker → List ℕ
table_lines setup s =
    route_lines s
    ++ (adv_lines setup s
    ++ (drained_lines setup s ++ (map_lines setup.manifest s ++ fault_lines setup.manifest s)))

-- the last line of a whole report
abbrev pub end_line : List ℕ
end_line = line (codes "end" ∷ [])

-- the last line of a report whose log has a line n outside the grammar
abbrev pub bad_log_line : ℕ → List ℕ
bad_log_line n = line (codes "fault" ∷ codes "log" ∷ decimal n ∷ [])

-- the last line of a report whose log passes its limit
abbrev pub long_log_line : List ℕ
long_log_line = line (codes "fault" ∷ codes "long" ∷ codes "log" ∷ [])

-- what follows the outputs: the tables of a whole log, or the line that says how the log is wrong
abbrev pub ending_text : Setup → Speaker → Ending → List ℕ
ending_text setup s whole_log = table_lines setup s ++ end_line
ending_text setup s (bad_line n) = bad_log_line n
ending_text setup s long_log = long_log_line

-- the text of what happened, and of how the log ends
abbrev pub text_of : Setup → Ending → Happened → List ℕ
text_of setup ending h = output_lines h.outputs ++ ending_text setup h.speaker ending

-- the report of a log's octets
unfoldable pub report : Packing → Setup → List ℕ → List ℕ
report rule setup text =
    let l = log (length (setup.config).peers) text in
    text_of setup l.ending (history rule setup (start_of setup) l.events)

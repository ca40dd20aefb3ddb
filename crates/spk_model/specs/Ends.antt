-- What the lines of a log give as they are played, and how that ends (for lines.rt, report.rt and play.rt).
use Rattle.std.specs.Prelude.{◌≡◌, ◌≢◌, ◌⊎◌, ℕ, ◌≤◌, List, [], ◌++◌, length, Option, Some, Result, Ok, Err}
use Rattle.xb_io.specs.Causes.{Files, told_file, FaultsRose, IsMissing, TookFront}
use Rattle.xb_io.specs.Pages.{Gathered, Stops}
use Rattle.xb_io.specs.declared.page.Halt.{Halt}
use Rattle.xb_io.specs.declared.page.Halt.TheVariants as halts
use Rattle.xb_domain.specs.declared.output.Packing.{Packing}
use Rattle.xb_domain.specs.Outputs.{Output, came_up, went_down, sent}
use Rattle.replay_log.specs.Lines.{Line, blank_line, says}
use Rattle.replay_log.specs.Logs.{Ending, whole_log, bad_line, long_log}
use Rattle.spk_model.specs.declared.host.Setup.{Setup}
use Rattle.spk_model.specs.declared.lines.End.{End}
use Rattle.spk_model.specs.declared.lines.End.TheVariants.{Whole, BadLine, LongLog}
use Rattle.spk_model.specs.declared.stop.Stop.{Stop}
use Rattle.spk_model.specs.declared.stop.Stop.TheVariants as stops
use Rattle.spk_model.specs.declared.play.Played.{Played}
use Rattle.spk_model.specs.declared.play.Played.TheVariants.{ReadFault, WriteFault, OutOfMemory}
use Rattle.spk_model.specs.Turning.{Speaker, Happened, event}
use Rattle.spk_model.specs.Readers.{AreConfigured}
use Rattle.spk_model.specs.Reports.{output_lines, ending_text, bad_log_line, long_log_line}
use Rattle.spk_model.specs.Names.{Named, names_of}
use Rattle.spk_model.specs.Playing.{coming, text_to_come}

-- how many octets an output sends
abbrev pub sent_octets : Output → ℕ
sent_octets (came_up p) = 0
sent_octets (went_down p) = 0
sent_octets (sent p octets) = length octets

-- the number of an output's peer
abbrev pub peer_number : Output → ℕ
peer_number (came_up p) = p
peer_number (went_down p) = p
peer_number (sent p octets) = p

-- what the end of a text's writing is to the whole replay
abbrev pub stop_of : Halt → Stop
stop_of halts.WriteFault = stops.WriteFault
stop_of halts.OutOfMemory = stops.OutOfMemory

-- how a replay ends that was stopped
abbrev pub played_by_stop : Stop → Played
played_by_stop stops.ReadFault = ReadFault
played_by_stop stops.WriteFault = WriteFault
played_by_stop stops.OutOfMemory = OutOfMemory

-- how a replay ends, by either
abbrev pub played_of : Result Played Stop → Played
played_of (Ok played) = played
played_of (Err stop) = played_by_stop stop

-- how the log ends
abbrev pub ending_of : {H : Type 0} → End H → Ending
ending_of (Whole host) = whole_log
ending_of (BadLine n) = bad_line n
ending_of LongLog = long_log

-- what follows the outputs
abbrev pub end_text : {H : Type 0} → (H → Setup) → (H → Speaker) → End H → List ℕ
end_text built_from speaker (Whole host) = ending_text (built_from host) (speaker host) whole_log
end_text built_from speaker (BadLine n) = bad_log_line n
end_text built_from speaker LongLog = long_log_line

-- the host of a whole log has these names and this number of peers
abbrev pub IsEnd : {H : Type 0} → (H → Setup) → Named → ℕ → End H → Type 0
IsEnd built_from names peers (Whole host) =
    (names ≡ names_of (built_from host).manifest) × (peers ≡ length ((built_from host).config).peers)
IsEnd built_from names peers (BadLine n) = Unit {0}
IsEnd built_from names peers LongLog = Unit {0}

-- the host of a whole log was built from this setup
abbrev pub IsBuiltFrom : {H : Type 0} → (H → Setup) → Setup → End H → Type 0
IsBuiltFrom built_from setup (Whole host) = built_from host ≡ setup
IsBuiltFrom built_from setup (BadLine n) = Unit {0}
IsBuiltFrom built_from setup LongLog = Unit {0}

-- a host may take what a line says
abbrev pub Fits : Setup → Speaker → Line → Type 0
Fits setup s blank_line = Unit {0}
Fits setup s (says e) = AreConfigured setup s e

-- what happens at a line
abbrev pub line_happens : Packing → Setup → Speaker → Line → Happened
line_happens rule setup s blank_line = record { speaker = s; outputs = [] }
line_happens rule setup s (says e) = event rule setup s e

-- a host took what a line says, and the lines of its outputs were gathered
pub record TookLine {H K : Type 0} (rule : Packing) (built_from : H → Setup) (speaker : H → Speaker)
    (old_host : H) (said : Line) (took : K → Option (List ℕ)) (faults : K → ℕ) (old new : K) (page next : List ℕ)
    (new_host : H) : Type 0 where
  pub setup : built_from new_host ≡ built_from old_host
  pub after : speaker new_host ≡ (line_happens rule (built_from old_host) (speaker old_host) said).speaker
  pub gathered : Gathered took faults old new
      (page ++ output_lines (line_happens rule (built_from old_host) (speaker old_host) said).outputs) next []

-- the same, or that ended early
abbrev pub PlaysLine : {H K : Type 0} → Packing → (H → Setup) → (H → Speaker) → H → Line → (K → Option (List ℕ))
    → (K → ℕ) → K → K → List ℕ → List ℕ → Result H Halt → Type 0
PlaysLine rule built_from speaker host said took faults old new page next (Ok h) =
    TookLine rule built_from speaker host said took faults old new page next h
PlaysLine rule built_from speaker host said took faults old new page next (Err halt) =
    Stops took faults old new
    (page ++ output_lines (line_happens rule (built_from host) (speaker host) said).outputs) halt

-- the log was read as far as it is in the grammar, and what follows the outputs is still to come
pub record Ended {H S K : Type 0} (rule : Packing) (built_from : H → Setup) (speaker : H → Speaker) (host : H)
    (held : S → Option Files) (reads : S → ℕ) (took : K → Option (List ℕ)) (writes : K → ℕ)
    (shelf_old shelf_new : S) (sink_old sink_new : K) (name page next : List ℕ) (end : End H) : Type 0 where
  pub gathered : (text : List ℕ) → told_file (held shelf_old) name ≡ Some text
      → Gathered took writes sink_old sink_new
      (page ++ text_to_come (built_from host) (coming rule (built_from host) text 0 1 (speaker host))) next
      (end_text built_from speaker end)
  pub ending : (text : List ℕ) → told_file (held shelf_old) name ≡ Some text
      → (coming rule (built_from host) text 0 1 (speaker host)).ending ≡ ending_of end
  pub is_held : ¬ IsMissing (held shelf_old) name
  pub built : IsBuiltFrom built_from (built_from host) end
  pub quiet_shelf : reads shelf_new ≡ reads shelf_old
  pub quiet_sink : writes sink_new ≡ writes sink_old
  pub same : held shelf_new ≡ held shelf_old

-- the replay ended before its report
pub record Stopped {S K : Type 0} (held : S → Option Files) (reads : S → ℕ) (took : K → Option (List ℕ))
    (writes : K → ℕ)
    (shelf_old shelf_new : S) (sink_old sink_new : K) (name : List ℕ) (whole : List ℕ → List ℕ) (stop : Stop)
    : Type 0 where
  pub front : (text : List ℕ) → told_file (held shelf_old) name ≡ Some text
      → TookFront (took sink_old) (took sink_new) (whole text)
  pub missing : IsMissing (held shelf_old) name → took sink_new ≡ took sink_old
  pub read_cause : stop ≡ stops.ReadFault
      → FaultsRose (reads shelf_old) (reads shelf_new) ⊎ IsMissing (held shelf_old) name
  pub write_cause : stop ≡ stops.WriteFault → FaultsRose (writes sink_old) (writes sink_new)
  pub quiet_shelf : stop ≢ stops.ReadFault → reads shelf_new ≡ reads shelf_old
  pub quiet_sink : stop ≡ stops.ReadFault → writes sink_new ≡ writes sink_old
  pub later_shelf : reads shelf_old ≤ reads shelf_new
  pub later_sink : writes sink_old ≤ writes sink_new
  pub same : held shelf_new ≡ held shelf_old

-- the lines of a log were played, or that ended early
abbrev pub PlaysLines : {H S K : Type 0} → Packing → (H → Setup) → (H → Speaker) → H → (S → Option Files) → (S → ℕ)
    → (K → Option (List ℕ)) → (K → ℕ) → S → S → K → K → List ℕ → List ℕ → List ℕ → Result (End H) Stop → Type 0
PlaysLines rule built_from speaker host held reads took writes shelf_old shelf_new sink_old sink_new name page next
    (Ok end) =
    Ended rule built_from speaker host held reads took writes shelf_old shelf_new sink_old sink_new name page next end
PlaysLines rule built_from speaker host held reads took writes shelf_old shelf_new sink_old sink_new name page next
    (Err stop) =
    Stopped held reads took writes shelf_old shelf_new sink_old sink_new name
    (λ text. page ++ text_to_come (built_from host) (coming rule (built_from host) text 0 1 (speaker host))) stop

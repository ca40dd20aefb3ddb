-- What the replay of a log gives, and when (this project's own).
use Rattle.std.specs.Prelude.{◌≡◌, ◌≢◌, ◌⊎◌, ℕ, ◌≤◌, List, [], ◌++◌, length, Option, Some, None}
use Rattle.xb_io.specs.Causes.{Files, file_named, FaultsRose, IsMissing, TookFront, with_text}
use Rattle.xb_domain.specs.declared.output.Packing.{Packing}
use Rattle.xb_domain.specs.Outputs.{Output}
use Rattle.replay_log.specs.Logs.{Ending, whole_log, bad_line, long_log, log, log_at}
use Rattle.spk_model.specs.declared.play.Played.{Played}
use Rattle.spk_model.specs.declared.play.Played.TheVariants.{Done, ReadFault, WriteFault, BadLog, TooLong, OutOfMemory}
use Rattle.spk_model.specs.declared.host.Setup.{Setup}
use Rattle.spk_model.specs.Turning.{Speaker, Happened, history}
use Rattle.spk_model.specs.Reports.{output_lines, ending_text, report}

-- how a replay ends, by how its log ends
abbrev pub played_by : Ending → Played
played_by whole_log = Done
played_by (bad_line n) = BadLog n
played_by long_log = TooLong

-- how a replay ends, and the whole text that it writes
pub record Replayed : Type 0 where
  pub played : Played
  pub text : List ℕ

-- the replay of the octets of a log, or of a log that is not held
abbrev pub replay_of : Packing → Setup → Option (List ℕ) → Replayed
replay_of rule setup None = record { played = ReadFault; text = [] }
replay_of rule setup (Some text) =
    record { played = played_by (log (length (setup.config).peers) text).ending; text = report rule setup text }

-- the replay of the log under a name, by the files that are held
abbrev pub replayed : Packing → Setup → List ℕ → Files → Replayed
replayed rule setup name files = replay_of rule setup (file_named files name)

-- the replay ended as it should, with its whole text unless the log is not held
abbrev pub IsReplayed : Replayed → Option (List ℕ) → Option (List ℕ) → Played → Type 0
IsReplayed r before now played = (played ≡ r.played) × (played ≢ ReadFault → now ≡ with_text before r.text)

-- a replay of the log under a name, over a shelf and a sink, ended in a way that the log or a fault explains
pub record Plays {S K : Type 0} (held : S → Option Files) (reads : S → ℕ)
    (took : K → Option (List ℕ)) (writes : K → ℕ)
    (shelf_old shelf_new : S) (sink_old sink_new : K)
    (name : List ℕ) (replay : Files → Replayed) (played : Played) : Type 0 where
  pub exact : (files : Files) → held shelf_old ≡ Some files
      → ¬ FaultsRose (reads shelf_old) (reads shelf_new) → ¬ FaultsRose (writes sink_old) (writes sink_new)
      → played ≢ OutOfMemory → IsReplayed (replay files) (took sink_old) (took sink_new) played
  pub whole : (files : Files) → held shelf_old ≡ Some files
      → played ≢ ReadFault → played ≢ WriteFault → played ≢ OutOfMemory
      → IsReplayed (replay files) (took sink_old) (took sink_new) played
  pub front : (files : Files) → held shelf_old ≡ Some files
      → TookFront (took sink_old) (took sink_new) (replay files).text
  pub read_cause : played ≡ ReadFault
      → FaultsRose (reads shelf_old) (reads shelf_new) ⊎ IsMissing (held shelf_old) name
  pub write_cause : played ≡ WriteFault → FaultsRose (writes sink_old) (writes sink_new)
  pub quiet_shelf : played ≢ ReadFault → reads shelf_new ≡ reads shelf_old
  pub quiet_sink : played ≢ WriteFault → played ≢ OutOfMemory → writes sink_new ≡ writes sink_old
  pub later_shelf : reads shelf_old ≤ reads shelf_new
  pub later_sink : writes sink_old ≤ writes sink_new
  pub same : held shelf_new ≡ held shelf_old

-- what is still to come of a replay: outputs, the speaker after them, and how the log ends (for the loop of `replay`)
pub record Coming : Type 0 where
  pub outputs : List Output
  pub speaker : Speaker
  pub ending : Ending

-- what happens, and then how the log ends
abbrev pub then_ends : Ending → Happened → Coming
then_ends ending h = record { outputs = h.outputs; speaker = h.speaker; ending = ending }

-- what is still to come of a log from line n on, which begins at the offset `at`
unfoldable pub coming : Packing → Setup → List ℕ → ℕ → ℕ → Speaker → Coming
coming rule setup text at n s =
    let l = log_at (length (setup.config).peers) text at n s.clock in
    then_ends l.ending (history rule setup s l.events)

-- its text
abbrev pub text_to_come : Setup → Coming → List ℕ
text_to_come setup c = output_lines c.outputs ++ ending_text setup c.speaker c.ending

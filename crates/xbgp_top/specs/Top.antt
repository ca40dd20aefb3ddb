-- Which answer the top call gives, and when.
use Rattle.std.specs.Prelude.{◌≡◌, ◌≢◌, ◌⊎◌, ℕ, ◌≤◌, List, Option, Some, None}
use Rattle.xb_io.specs.Causes.{Files, FaultsRose, TookFront, with_text}
use Rattle.xbgp_top.specs.declared.status.Status.{Status}
use Rattle.xbgp_top.specs.declared.status.Status.TheVariants.{Done, Usage, ReadFault, WriteFault, OutOfMemory}
use Rattle.xbgp_top.specs.Answers.{Answer, fault_text}
use Rattle.xbgp_top.specs.Commands.{Command}

-- the answer's status, and its whole text unless an input is not held
abbrev pub IsAnswered : Answer → Option (List ℕ) → Option (List ℕ) → Status → Type 0
IsAnswered answer before now status =
    (status ≡ answer.status) × (status ≢ ReadFault → now ≡ with_text before answer.text)

-- the answer is Done, by the files of a shelf that tells, and its whole text was taken
abbrev pub WasDone : Option Files → Option (List ℕ) → Option (List ℕ) → (Files → Answer) → Type 0
WasDone held before now answer =
    (files : Files) → held ≡ Some files
    → ((answer files).status ≡ Done) × (now ≡ with_text before (answer files).text)

-- words that are no command give Usage with its line, unless the sink failed; a command never gives Usage
abbrev pub IsUsage : Option Command → Option (List ℕ) → Option (List ℕ) → Status → Type 0
IsUsage None before now status =
    ((status ≡ Usage) × (now ≡ with_text before (fault_text Usage))) ⊎ (status ≡ WriteFault)
IsUsage (Some command) before now status = status ≢ Usage

-- the shelf tells, and the answer says that an input is not held
abbrev pub SaysMissing : Option Files → (Files → Answer) → Type 0
SaysMissing None answer = ⊥
SaysMissing (Some files) answer = (answer files).status ≡ ReadFault

-- a run over a shelf and a sink ended with a status, which the answer or a fault explains
pub record Explains {S K : Type 0} (held : S → Option Files) (reads : S → ℕ)
    (took : K → Option (List ℕ)) (writes : K → ℕ)
    (shelf_old shelf_new : S) (sink_old sink_new : K) (answer : Files → Answer) (status : Status) : Type 0 where
  pub exact : (files : Files) → held shelf_old ≡ Some files
      → ¬ FaultsRose (reads shelf_old) (reads shelf_new) → ¬ FaultsRose (writes sink_old) (writes sink_new)
      → status ≢ OutOfMemory → IsAnswered (answer files) (took sink_old) (took sink_new) status
  pub front : (files : Files) → held shelf_old ≡ Some files
      → TookFront (took sink_old) (took sink_new) (answer files).text
  pub read_cause : status ≡ ReadFault
      → FaultsRose (reads shelf_old) (reads shelf_new) ⊎ SaysMissing (held shelf_old) answer
  pub write_cause : status ≡ WriteFault → FaultsRose (writes sink_old) (writes sink_new)
  pub quiet_shelf : status ≢ ReadFault → status ≢ OutOfMemory → reads shelf_new ≡ reads shelf_old
  pub quiet_sink : status ≢ WriteFault → status ≢ OutOfMemory → writes sink_new ≡ writes sink_old
  pub later_shelf : reads shelf_old ≤ reads shelf_new
  pub later_sink : writes sink_old ≤ writes sink_new

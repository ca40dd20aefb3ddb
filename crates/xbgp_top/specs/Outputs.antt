-- How an answer goes to a sink, and what the status says of it.
use Rattle.std.specs.Prelude.{◌≡◌, ◌≢◌, ◌⊎◌, ℕ, ◌≤◌, List, Option, Result, Ok, Err}
use Rattle.xb_io.specs.Causes.{FaultsRose, TookFront, with_text}
use Rattle.xb_io.specs.declared.page.Halt.{Halt}
use Rattle.xb_io.specs.declared.page.Halt.TheVariants as halts
use Rattle.xbgp_top.specs.Answers.{Answer}
use Rattle.xbgp_top.specs.declared.status.Status.{Status}
use Rattle.xbgp_top.specs.declared.status.Status.TheVariants.{WriteFault, OutOfMemory}

-- an answer was to be written, and that ended with a status
pub record Writes {K : Type 0} (answer : Answer) (took : K → Option (List ℕ)) (faults : K → ℕ) (old new : K)
    (status : Status) : Type 0 where
  -- the answer's status, a fault of the sink, or want of memory
  pub only : (status ≡ answer.status) ⊎ ((status ≡ WriteFault) ⊎ (status ≡ OutOfMemory))
  -- the whole text was taken if the status is the answer's
  pub whole : status ≢ WriteFault → status ≢ OutOfMemory → took new ≡ with_text (took old) answer.text
  pub front : TookFront (took old) (took new) answer.text
  pub fault : status ≡ WriteFault → (answer.status ≡ WriteFault) ⊎ FaultsRose (faults old) (faults new)
  pub quiet : status ≢ WriteFault → status ≢ OutOfMemory → faults new ≡ faults old
  pub later : faults old ≤ faults new

-- a status if the text was written, or else why it wasn't
abbrev pub end_status : Result (Unit {0}) Halt → Status → Status
end_status (Ok done) status = status
end_status (Err halts.WriteFault) status = WriteFault
end_status (Err halts.OutOfMemory) status = OutOfMemory

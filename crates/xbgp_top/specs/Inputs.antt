-- What a shelf's files say of a step that reads inputs.
use Rattle.std.specs.Prelude.{◌≡◌, ◌≢◌, ◌⊎◌, ℕ, ◌<◌, ◌≤◌, List, []}
use Rattle.std.specs.Prelude.{length, take, Option, Some, None, Ok, Err, MatchOption}
use Rattle.xb_io.specs.Causes.{Files, file_named, FaultsRose, IsMissing}
use Rattle.xbgp_top.specs.declared.input.TheConstants.{INPUT_LIMIT}
use Rattle.xbgp_top.specs.declared.input.Unread.{Unread}
use Rattle.xbgp_top.specs.declared.input.Unread.TheVariants.{Long, Fault}
use Rattle.xbgp_top.specs.declared.input.Unread.TheVariants as reasons
use Rattle.xbgp_top.specs.declared.status.File.{File}
use Rattle.xbgp_top.specs.declared.status.Status.{Status}
use Rattle.xbgp_top.specs.declared.status.Status.TheVariants.{ReadFault, WriteFault, Usage, OutOfMemory, TooLong}
use Rattle.xbgp_top.specs.Answers.{Outcome}

-- what was wanted, or want of memory
abbrev pub Gives : {A : Type 0} → Outcome A → Outcome A → Type 0
Gives want (Ok x) = want ≡ Ok x
Gives want (Err status) = (status ≡ OutOfMemory) ⊎ (want ≡ Err status)

-- a step over a shelf gave what its files say, or had no memory, or a read failed; it left the files as they were
pub record Obtains {S A : Type 0} (held : S → Option Files) (faults : S → ℕ) (old new : S)
    (want : Files → Outcome A) (got : Outcome A) : Type 0 where
  pub told : (files : Files) → held old ≡ Some files
      → Gives (want files) got ⊎ ((got ≡ Err ReadFault) × FaultsRose (faults old) (faults new))
  -- a shelf that doesn't tell has no name that is missing
  pub cause : held old ≡ None → got ≡ Err ReadFault → FaultsRose (faults old) (faults new)
  pub quiet : got ≢ Err ReadFault → faults new ≡ faults old
  pub later : faults old ≤ faults new
  pub same : held new ≡ held old
  -- neither the words nor the sink are judged
  pub usage : got ≢ Err Usage
  pub write : got ≢ Err WriteFault

-- octets that were read are a front of the file, if the shelf tells (for the loop of read_pieces)
abbrev pub IsFront : Option Files → List ℕ → List ℕ → Type 0
IsFront None name front = Unit {0}
IsFront (Some files) name front =
    MatchOption (file_named files name) (front ≡ []) (λ octets. front ≡ take (length front) octets)

-- all octets of the file, which are within the limit, if the shelf tells
abbrev pub IsWhole : Option Files → List ℕ → List ℕ → Type 0
IsWhole held name octets =
    MatchOption held (Unit {0}) (λ files. (file_named files name ≡ Some octets) × (length octets ≤ INPUT_LIMIT))

-- the file is longer than the limit, if the shelf tells
abbrev pub IsLong : Option Files → List ℕ → Type 0
IsLong held name =
    MatchOption held (Unit {0}) (λ files. MatchOption (file_named files name) ⊥ (λ octets. INPUT_LIMIT < length octets))

-- an input that was not read has its cause; without a fault the count of faults stays
abbrev pub IsUnread : Option Files → List ℕ → ℕ → ℕ → Unread → Type 0
IsUnread held name before now Long = IsLong held name × (now ≡ before)
IsUnread held name before now Fault = (before ≤ now) × (FaultsRose before now ⊎ IsMissing held name)
IsUnread held name before now reasons.OutOfMemory = now ≡ before

-- the status of an input that was not read
abbrev pub unread_status : File → Unread → Status
unread_status file Long = TooLong file
unread_status file Fault = ReadFault
unread_status file reasons.OutOfMemory = OutOfMemory

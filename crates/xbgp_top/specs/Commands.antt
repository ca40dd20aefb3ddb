-- The commands of the program, by the words of the command line (this project's own).
use Rattle.std.specs.Prelude.{ℕ, true, false, List, [], ◌∷◌, Option, Some, None, option_and_then, nat_lt, codes}
use Rattle.std.specs.Prelude.{if◌then◌else◌}
use Rattle.std.specs.Option.{option_map}
use Rattle.std.specs.Str.{bytes_eq}
use Rattle.xb_values.specs.Readers.{read_decimal}
use Rattle.xbgp_top.specs.declared.command.Job.{Job}
use Rattle.xbgp_top.specs.declared.command.Job.TheVariants.{Heard, Judge, Exec}
use Rattle.xbgp_top.specs.declared.command.HostName.{HostName}
use Rattle.xbgp_top.specs.declared.command.HostName.TheVariants.{Interned, Listed}
use Rattle.xbgp_top.specs.declared.command.Hosts.{Hosts}
use Rattle.xbgp_top.specs.declared.command.Hosts.TheVariants.{One, Both}
use Rattle.xbgp_top.specs.declared.command.TheConstants.{MAX_UPDATES}

-- what words ask for: something about one file, to check a configuration and a manifest, to replay a log with them, or
-- to play the events that a number and a count of updates give on a speaker
pub data Command : Type 0 where
  on_file : Job → List ℕ → Command
  check : List ℕ → List ℕ → Command
  replay : Hosts → List ℕ → List ℕ → List ℕ → Command
  work : ℕ → ℕ → HostName → Command

-- what is asked about one file
abbrev pub job_of : List ℕ → Option Job
job_of word =
    if bytes_eq word (codes "heard") then Some Heard
    else if bytes_eq word (codes "judge") then Some (Judge false)
    else if bytes_eq word (codes "judge4") then Some (Judge true)
    else if bytes_eq word (codes "exec") then Some Exec
    else None

-- the speaker that a word names
abbrev pub host_of : List ℕ → Option HostName
host_of word =
    if bytes_eq word (codes "interned") then Some Interned
    else if bytes_eq word (codes "listed") then Some Listed
    else None

-- the speakers that a word names
abbrev pub hosts_of : List ℕ → Option Hosts
hosts_of word = if bytes_eq word (codes "both") then Some Both else option_map One (host_of word)

-- a value if there is one, and what follows from it
infixl 10 ◌>>=◌
abbrev pub ◌>>=◌ : {A B : Type 0} → Option A → (A → Option B) → Option B
o >>= f = option_and_then f o

-- how many updates are asked for: a number up to the limit
abbrev pub count_of : List ℕ → Option ℕ
count_of word = read_decimal word >>= (λ count. if nat_lt MAX_UPDATES count then None else Some count)

-- the check of a configuration and a manifest
abbrev pub check_of : List ℕ → List ℕ → List ℕ → Option Command
check_of word config manifest = if bytes_eq word (codes "check") then Some (check config manifest) else None

-- events that are generated from a number
abbrev pub work_of : List ℕ → List ℕ → List ℕ → List ℕ → Option Command
work_of word number count host =
    if bytes_eq word (codes "work")
    then read_decimal number >>= (λ n. count_of count >>= (λ c. host_of host >>= (λ h. Some (work n c h))))
    else None

-- the replay of a log
abbrev pub replay_of : List ℕ → List ℕ → List ℕ → List ℕ → List ℕ → Option Command
replay_of word hosts config manifest log =
    if bytes_eq word (codes "replay") then option_map (λ h. replay h config manifest log) (hosts_of hosts) else None

-- the command that words are
abbrev pub command_of : List (List ℕ) → Option Command
command_of (word ∷ name ∷ []) = option_map (λ job. on_file job name) (job_of word)
command_of (word ∷ config ∷ manifest ∷ []) = check_of word config manifest
command_of (word ∷ number ∷ count ∷ host ∷ []) = work_of word number count host
command_of (word ∷ hosts ∷ config ∷ manifest ∷ log ∷ []) = replay_of word hosts config manifest log
command_of words = None

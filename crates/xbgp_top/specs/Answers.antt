-- The answer to the words of a command line, from the files that are held (this project's own): a status and a text. A
-- command comes to an outcome: the text of Done, or the status that ends it, which has a text of its own.
use Rattle.std.specs.Prelude.{ℕ, Bool, true, false, List, [], ◌∷◌, ◌++◌, length, map, flat_map}
use Rattle.std.specs.Prelude.{◌==◌, Option, Some, None, Result, Ok, Err, codes, decimal, nat_lt, if◌then◌else◌}
use Rattle.std.specs.List.{concat}
use Rattle.std.specs.Result.{result_map_both}
use Rattle.std.specs.Str.{bytes_eq}
use Rattle.xb_words.specs.Cut.{with_offsets}
use Rattle.xb_values.specs.Prefixes.{Prefix, Sections}
use Rattle.xb_values.specs.Texts.{line, prefix_text, hex_text}
use Rattle.xb_wire.specs.declared.numbers.TheConstants.{UPDATE}
use Rattle.xb_wire.specs.Messages.{split}
use Rattle.xb_io.specs.Causes.{Files, file_named}
use Rattle.bgp_update.specs.Heard.{heard}
use Rattle.bgp_update.specs.Walks.{FoundMessage, found_message}
use Rattle.bgp_attr.specs.Paths.{width_of}
use Rattle.bgp_check.specs.Judgement.{judge}
use Rattle.bpf_mem.specs.Memory.{fresh}
use Rattle.bpf_insn.specs.Loading.{load_fault}
use Rattle.bpf_machine.specs.declared.world.Called.TheVariants as called
use Rattle.bpf_machine.specs.declared.world.End.{End}
use Rattle.bpf_machine.specs.declared.world.End.TheVariants as ends
use Rattle.bpf_machine.specs.Running.{Helps, bpf}
use Rattle.table_print.specs.Words.{cause_word}
use Rattle.xbgp_config.specs.Configs.{Config, config}
use Rattle.xbgp_manifest.specs.Manifests.{Manifest, manifest, no_manifest}
use Rattle.xb_domain.specs.declared.output.Packing.{Packing}
use Rattle.xb_domain.specs.declared.output.Packing.TheVariants.{Sorted, Grouped}
use Rattle.spk_model.specs.declared.host.Setup.{Setup}
use Rattle.spk_model.specs.Playing.{Replayed, replayed}
use Rattle.spk_model.specs.Reports.{bad_log_line, end_line}
use Rattle.xbgp_top.specs.Summaries.{count_line, work_text}
use Rattle.xbgp_top.specs.declared.command.HostName.{HostName}
use Rattle.xbgp_top.specs.declared.command.HostName.TheVariants.{Interned, Listed}
use Rattle.xbgp_top.specs.declared.command.Hosts.{Hosts}
use Rattle.xbgp_top.specs.declared.command.Hosts.TheVariants.{One, Both}
use Rattle.xbgp_top.specs.declared.input.TheConstants.{INPUT_LIMIT}
use Rattle.xbgp_top.specs.declared.exec.TheConstants.{FUEL}
use Rattle.xbgp_top.specs.declared.command.Job.{Job}
use Rattle.xbgp_top.specs.declared.command.Job.TheVariants.{Heard, Judge, Exec}
use Rattle.xbgp_top.specs.declared.status.File.{File}
use Rattle.xbgp_top.specs.declared.status.File.TheVariants as inputs
use Rattle.xbgp_top.specs.declared.status.Status.{Status}
use Rattle.xbgp_top.specs.declared.status.Status.TheVariants.{Done, Usage, ReadFault, WriteFault, OutOfMemory, TooLong}
use Rattle.xbgp_top.specs.declared.status.Status.TheVariants.{BadConfig, BadManifest, BadLog, BadStream, BadCode}
use Rattle.xbgp_top.specs.Commands.{Command, on_file, check, replay, work, command_of}
use Rattle.xbgp_top.specs.Statuses.{played_status}
use Rattle.xbgp_top.specs.Words.{file_word, kind_word, load_word, part_word}

-- a status and the text that is written
pub record Answer : Type 0 where
  pub status : Status
  pub text : List ℕ

-- a status with its text
abbrev pub answered : Status → List ℕ → Answer
answered status text = record { status = status; text = text }

-- a line that begins with `fault`
abbrev pub refusal_line : List (List ℕ) → List ℕ
refusal_line words = line (codes "fault" ∷ words)

-- the line of a status that says what is wrong with the words or an input; another status has no line
abbrev pub fault_text : Status → List ℕ
fault_text Usage = refusal_line (codes "usage" ∷ [])
fault_text (TooLong file) = refusal_line (codes "long" ∷ file_word file ∷ [])
fault_text (BadConfig fault) =
    refusal_line (codes "config" ∷ kind_word fault.kind ∷ part_word fault.part ∷ decimal fault.index ∷ [])
fault_text (BadManifest fault) =
    refusal_line (codes "manifest" ∷ kind_word fault.kind ∷ part_word fault.part ∷ decimal fault.index
    ∷ decimal fault.slot ∷ [])
fault_text (BadLog n) = bad_log_line n
fault_text (BadStream at) = refusal_line (codes "stream" ∷ decimal at ∷ [])
fault_text (BadCode fault) = refusal_line (codes "code" ∷ load_word fault.kind ∷ decimal fault.slot ∷ [])
fault_text Done = []
fault_text ReadFault = []
fault_text WriteFault = []
fault_text OutOfMemory = []

-- a value that a command comes to, or the status that ends it before
abbrev pub Outcome : Type 0 → Type 0
Outcome A = Result A Status

-- a step, and what follows if it gives a value
infixl 10 ◌>>=◌
abbrev pub ◌>>=◌ : {A B : Type 0} → Outcome A → (A → Outcome B) → Outcome B
(Ok x) >>= f = f x
(Err status) >>= f = Err status

-- Done with its text, or another status with its line
abbrev pub ended : Outcome (List ℕ) → Answer
ended (Ok text) = answered Done text
ended (Err status) = answered status (fault_text status)

-- the octets under a name, if they are held and within the limit
abbrev pub within_limit : File → Option (List ℕ) → Outcome (List ℕ)
within_limit file None = Err ReadFault
within_limit file (Some octets) = if nat_lt INPUT_LIMIT (length octets) then Err (TooLong file) else Ok octets

-- an input that is read whole
abbrev pub input : File → List ℕ → Files → Outcome (List ℕ)
input file name files = within_limit file (file_named files name)

-- a prefix and its section of path attributes
abbrev pub heard_line : Prefix × List ℕ → List ℕ
heard_line e = line (prefix_text e.0 ∷ hex_text e.1 ∷ [])

-- a line for each prefix, by rising prefix
abbrev pub heard_lines : Sections → List ℕ
heard_lines table = flat_map heard_line table

-- the table that a stream announces, or the offset at which it is refused
abbrev pub heard_outcome : List ℕ → Outcome (List ℕ)
heard_outcome octets =
    elim (heard octets) [ Ok table ↦ Ok (heard_lines table ++ end_line) | Err at ↦ Err (BadStream at) ]

-- the messages of a stream, each with its offset
abbrev pub messages_of : List ℕ → List FoundMessage
messages_of s = map (λ m. found_message m.0 m.1) (with_offsets 0 (split s).items)

-- the offset of what is left of a stream after its messages, if anything is
abbrev pub rest_offset : List ℕ → Option ℕ
rest_offset s = if length (split s).rest == 0 then None else Some (length (concat (split s).items))

-- what is said of a message, with `w` octets an AS number: an UPDATE is clean or gets a NOTIFICATION, another kind is
-- not judged
abbrev pub verdict : ℕ → FoundMessage → List (List ℕ)
verdict w m =
    if m.kind == UPDATE then
    elim (judge w m.body) as (λ o. List (List ℕ)) [
      | None ↦ codes "clean" ∷ []
      | Some n ↦ codes "notice" ∷ decimal n.code ∷ decimal n.subcode ∷ hex_text n.extra ∷ []
    ]
    else codes "other" ∷ []

-- a message's offset, and what is said of it
abbrev pub judge_line : ℕ → FoundMessage → List ℕ
judge_line w m = line (decimal m.at ∷ verdict w m)

-- a line for each message
abbrev pub judge_lines : ℕ → List ℕ → List ℕ
judge_lines w octets = flat_map (judge_line w) (messages_of octets)

-- a line for each message of a stream, or the offset of what is left after them
abbrev pub judge_outcome : ℕ → List ℕ → Outcome (List ℕ)
judge_outcome w octets =
    elim (rest_offset octets) as (λ o. Outcome (List ℕ)) [
      | None ↦ Ok (judge_lines w octets ++ end_line)
      | Some at ↦ Err (BadStream at)
    ]

-- no helper may be called
abbrev pub no_helper : ℕ → Bool
no_helper number = false

-- a world that says whether helpers may be called, and in which each call is a misuse
abbrev pub no_help : Helps Bool
no_help number args memory world = record { called = called.Misuse; memory = memory; world = world }

-- how bytecode ends that runs alone: without helpers, with an empty window and this program's fuel
abbrev pub alone : List ℕ → End
alone code = (bpf no_help code (fresh []) FUEL false).end

-- the words for how bytecode ends; without helpers it never ends by Next
abbrev pub end_words : End → List (List ℕ)
end_words (ends.Exit n) = codes "r0" ∷ decimal n ∷ []
end_words ends.Next = []
end_words (ends.Failed cause) = codes "fault" ∷ cause_word cause ∷ []

-- the end of bytecode, or its first fault
abbrev pub exec_outcome : List ℕ → Outcome (List ℕ)
exec_outcome octets =
    elim (load_fault no_helper octets) as (λ o. Outcome (List ℕ)) [
      | None ↦ Ok (line (end_words (alone octets)) ++ end_line)
      | Some fault ↦ Err (BadCode fault)
    ]

-- what is asked about the octets of one file
abbrev pub job_outcome : Job → List ℕ → Outcome (List ℕ)
job_outcome Heard octets = heard_outcome octets
job_outcome (Judge wide) octets = judge_outcome (width_of wide) octets
job_outcome Exec octets = exec_outcome octets

-- what a configuration and a manifest have
abbrev pub counts : Config → Manifest → List ℕ
counts config manifest =
    count_line (codes "peers") (length config.peers) ++ count_line (codes "networks") (length config.networks)
    ++ count_line (codes "maps") (length manifest.maps) ++ count_line (codes "programs") (length manifest.programs)
    ++ end_line

-- a configuration that is read and judged
abbrev pub config_input : List ℕ → Files → Outcome Config
config_input name files = input inputs.Config name files >>= (λ text. result_map_both (λ c. c) BadConfig (config text))

-- a manifest that is read and judged; `-` is no manifest, and no file
abbrev pub manifest_input : List ℕ → Files → Outcome Manifest
manifest_input name files =
    if bytes_eq name (codes "-") then Ok no_manifest
    else input inputs.Manifest name files >>= (λ text. result_map_both (λ m. m) BadManifest (manifest text))

-- the counts of a configuration and a manifest; the manifest is read after the configuration is judged
abbrev pub check_outcome : List ℕ → List ℕ → Files → Outcome (List ℕ)
check_outcome config manifest files =
    config_input config files >>= (λ c. manifest_input manifest files >>= (λ m. Ok (counts c m)))

-- what is asked about one file, which is read whole before
abbrev pub file_outcome : Job → List ℕ → Files → Outcome (List ℕ)
file_outcome job name files = input inputs.Input name files >>= job_outcome job

-- what a speaker is made of; the manifest is read after the configuration is judged
abbrev pub setup_input : List ℕ → List ℕ → Files → Outcome Setup
setup_input config manifest files =
    config_input config files
    >>= (λ c. manifest_input manifest files >>= (λ m. Ok (record { config = c; manifest = m })))

-- the status and the report of a replay
abbrev pub replay_done : Replayed → Answer
replay_done r = answered (played_status r.played) r.text

-- the replay of the log of that name by a speaker that packs by a rule, or why there is no speaker
abbrev pub replay_answer : Packing → Outcome Setup → List ℕ → Files → Answer
replay_answer rule (Ok setup) log files = replay_done (replayed rule setup log files)
replay_answer rule (Err status) log files = ended (Err status)

-- how a speaker packs
abbrev pub rule_of : HostName → Packing
rule_of Interned = Grouped
rule_of Listed = Sorted

-- the line with the name of a speaker
abbrev pub host_line : HostName → List ℕ
host_line Interned = line (codes "host" ∷ codes "interned" ∷ [])
host_line Listed = line (codes "host" ∷ codes "listed" ∷ [])

-- whether a status is Done
abbrev pub is_done : Status → Bool
is_done Done = true
is_done status = false

-- an answer, and if it is Done the next one after it
abbrev pub then_answer : Answer → Answer → Answer
then_answer first next = if is_done first.status then answered next.status (first.text ++ next.text) else first

-- a title, and then the replay of the log of that name by a speaker that packs by a rule
abbrev pub titled_replay : List ℕ → Packing → Setup → List ℕ → Files → Answer
titled_replay title rule setup log files =
    then_answer (answered Done title) (replay_done (replayed rule setup log files))

-- the replay by each speaker after its name
abbrev pub both_replays : Setup → List ℕ → Files → Answer
both_replays setup log files =
    then_answer (titled_replay (host_line Interned) (rule_of Interned) setup log files)
    (titled_replay (host_line Listed) (rule_of Listed) setup log files)

-- the replay of the log of that name by speakers, or why there is no speaker
abbrev pub hosts_answer : Hosts → Outcome Setup → List ℕ → Files → Answer
hosts_answer (One host) setup log files = replay_answer (rule_of host) setup log files
hosts_answer Both (Ok setup) log files = both_replays setup log files
hosts_answer Both (Err status) log files = ended (Err status)

-- what a command comes to, from the files that are held
unfoldable pub command_answer : Command → Files → Answer
command_answer (on_file job name) files = ended (file_outcome job name files)
command_answer (check config manifest) files = ended (check_outcome config manifest files)
command_answer (replay hosts config manifest log) files =
    hosts_answer hosts (setup_input config manifest files) log files
command_answer (work number count host) files = ended (Ok (work_text (rule_of host) number count))

-- the answer to words, from the files that are held; words that are no command are bad usage
unfoldable pub answer : List (List ℕ) → Files → Answer
answer words files = elim (command_of words) [ None ↦ ended (Err Usage) | Some command ↦ command_answer command files ]

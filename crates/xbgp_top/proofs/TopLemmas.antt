-- How a step over a shelf and one over a sink make a run.
use Rattle.std.proofs.Common.{◌≡◌, ◌≢◌, ◌⊎◌, ℕ, List, Option, Some, None, ◌++◌, Ok, Err, refl, sym, ap, subst}
use Rattle.std.proofs.Common.{inl, inr, arith}
use Rattle.std.specs.Result.{IfErr}
use Rattle.xb_values.specs.Texts.{line}
use Rattle.xb_io.specs.Causes.{Files, FaultsRose, TookFront}
use Rattle.bgp_update.specs.Heard.{heard}
use Rattle.bgp_attr.specs.Paths.{width_of}
use Rattle.bpf_insn.specs.Loading.{load_fault}
use Rattle.spk_model.specs.Reports.{end_line}
use Rattle.xbgp_top.specs.declared.command.HostName.{HostName}
use Rattle.xbgp_top.specs.declared.command.Hosts.{Hosts}
use Rattle.xbgp_top.specs.declared.command.Job.{Job}
use Rattle.xbgp_top.specs.declared.command.Job.TheVariants.{Heard, Judge, Exec}
use Rattle.xbgp_top.specs.declared.status.File.TheVariants.{Input}
use Rattle.xbgp_top.specs.declared.status.Status.{Status}
use Rattle.xbgp_top.specs.declared.status.Status.TheVariants.{Done, Usage, ReadFault, WriteFault, OutOfMemory}
use Rattle.xbgp_top.specs.declared.status.Status.TheVariants.{BadStream, BadCode}
use Rattle.xbgp_top.specs.Answers.{Answer, Outcome, ◌>>=◌, alone, answer, check_outcome, command_answer, end_words}
use Rattle.xbgp_top.specs.Answers.{ended, file_outcome, heard_lines, input, job_outcome, judge_lines, no_helper}
use Rattle.xbgp_top.specs.Answers.{hosts_answer, rest_offset, rule_of, setup_input}
use Rattle.xbgp_top.specs.Commands.{Command, check, command_of, on_file, replay, work}
use Rattle.xbgp_top.specs.Inputs.{Gives, Obtains}
use Rattle.xbgp_top.specs.Outputs.{Writes}
use Rattle.xbgp_top.specs.Summaries.{work_text}
use Rattle.xbgp_top.specs.Top.{Explains, IsAnswered}
use Rattle.xbgp_top.proofs.StopLemmas.{explains_stopped, front_of_nothing}

-- a status that says what is wrong with an input
abbrev pub IsOfInput : Status → Type 0
IsOfInput Usage = ⊥
IsOfInput ReadFault = ⊥
IsOfInput WriteFault = ⊥
IsOfInput status = Unit {0}

of_input : (job : Job) (octets : List ℕ) → IfErr (job_outcome job octets) IsOfInput
of_input Heard octets =
    elim (heard octets) as (λ r. IfErr (elim r as (λ x. Outcome (List ℕ))
    [ Ok table ↦ Ok (heard_lines table ++ end_line) | Err at ↦ Err (BadStream at) ]) IsOfInput)
    [ Ok table ↦ tt | Err at ↦ tt ]
of_input (Judge wide) octets =
    elim (rest_offset octets) as (λ o. IfErr (elim o as (λ x. Outcome (List ℕ))
    [ None ↦ Ok (judge_lines (width_of wide) octets ++ end_line) | Some at ↦ Err (BadStream at) ]) IsOfInput)
    [ None ↦ tt | Some at ↦ tt ]
of_input Exec octets =
    elim (load_fault no_helper octets) as (λ o. IfErr (elim o as (λ x. Outcome (List ℕ))
    [ None ↦ Ok (line (end_words (alone octets)) ++ end_line) | Some fault ↦ Err (BadCode fault) ]) IsOfInput)
    [ None ↦ tt | Some fault ↦ tt ]

-- what a step over the shelf gives, and what follows from it
module _ {S : Type 0} (held : S → Option Files) (faults : S → ℕ) (old new : S) (want : Files → Outcome (List ℕ))
    (go : List ℕ → Outcome (List ℕ)) where
  -- the step gave octets, and what follows needs no file
  obtains_then : (octets : List ℕ) → IfErr (go octets) IsOfInput → Obtains held faults old new want (Ok octets)
      → Obtains held faults old new (λ files. want files >>= go) (go octets)
  obtains_then octets known first =
      record {
        told = λ files e. inl (subst (λ (w : Outcome (List ℕ)). Gives (w >>= go) (go octets)) (sym (given files e))
            (itself (go octets)));
        cause = λ none read. absurd (subst (λ (o : Outcome (List ℕ)). IfErr o IsOfInput) read known);
        quiet = λ other. first.quiet (λ e. cc e);
        later = first.later;
        same = first.same;
        usage = λ e. subst (λ (o : Outcome (List ℕ)). IfErr o IsOfInput) e known;
        write = λ e. subst (λ (o : Outcome (List ℕ)). IfErr o IsOfInput) e known;
      }
    where
      given : (files : Files) → held old ≡ Some files → want files ≡ Ok octets
      given files e = elim (first.told files e) as (λ _. want files ≡ Ok octets)
          [ inl gives ↦ gives | inr read ↦ absurd (let f : Ok octets ≡ Err ReadFault = read.0 in cc f) ]

      itself : (x : Outcome (List ℕ)) → Gives x x
      itself (Ok x) = refl
      itself (Err status) = inr refl

-- how a run ends
module _ {S K : Type 0} (held : S → Option Files) (reads : S → ℕ) (took : K → Option (List ℕ)) (writes : K → ℕ)
    (shelf_old shelf_new : S) (sink_old sink_new : K) (status : Status) where
  -- a step over the shelf gave a text, which was written to the sink
  pub explains_text : (want : Files → Outcome (List ℕ)) (text : List ℕ)
      → Obtains held reads shelf_old shelf_new want (Ok text)
      → Writes (ended (Ok text)) took writes sink_old sink_new status
      → Explains held reads took writes shelf_old shelf_new sink_old sink_new (λ files. ended (want files)) status
  explains_text want text o w =
      record {
        exact = λ files e no_read no_write memory.
            let written : status ≢ WriteFault = λ fault. elim (w.fault fault) as (λ _. ⊥) [
              | inl other ↦ cc other
              | inr rose ↦ no_write rose
            ] in
            let same : status ≡ Done = elim (w.only) as (λ _. status ≡ Done) [
              | inl s ↦ s
              | inr failed ↦ elim failed as (λ _. status ≡ Done) [
                | inl f ↦ absurd (written f)
                | inr m ↦ absurd (memory m)
              ]
            ] in
            subst (λ (x : Outcome (List ℕ)). IsAnswered (ended x) (took sink_old) (took sink_new) status)
            (sym (given files e)) (same, λ _. w.whole written memory);
        front = λ files e.
            subst (λ (x : Outcome (List ℕ)). TookFront (took sink_old) (took sink_new) (ended x).text)
            (sym (given files e)) w.front;
        read_cause = λ fault. absurd (elim (w.only) as (λ _. ⊥) [
          | inl s ↦ cc
          | inr failed ↦ elim failed as (λ _. ⊥) [ inl f ↦ cc | inr m ↦ cc ]
        ]);
        write_cause = λ fault. elim (w.fault fault) as (λ _. FaultsRose (writes sink_old) (writes sink_new)) [
          | inl other ↦ absurd (cc other)
          | inr rose ↦ rose
        ];
        quiet_shelf = λ read memory. o.quiet (λ e. cc e);
        quiet_sink = w.quiet;
        later_shelf = o.later;
        later_sink = w.later;
      }
    where
      given : (files : Files) → held shelf_old ≡ Some files → want files ≡ Ok text
      given files e = elim (o.told files e) as (λ _. want files ≡ Ok text) [
        | inl gives ↦ gives
        | inr read ↦ absurd (let f : Ok text ≡ Err ReadFault = read.0 in cc f)
      ]

  -- what a step over the shelf came to was written to the sink
  explains_writes : (want : Files → Outcome (List ℕ)) (got : Outcome (List ℕ))
      → Obtains held reads shelf_old shelf_new want got
      → Writes (ended got) took writes sink_old sink_new status → (got ≡ Err ReadFault → status ≡ ReadFault)
      → Explains held reads took writes shelf_old shelf_new sink_old sink_new (λ files. ended (want files)) status
  explains_writes want (Ok text) o w unread = explains_text want text o w
  explains_writes want (Err why) o w unread =
      explains_stopped held reads took writes shelf_old shelf_new sink_old sink_new status want why
      (λ files. ended (want files)) (λ files is. ap (λ (x : Outcome (List ℕ)). ended x) is) o w
      (λ e. unread (ap Err e))

  -- a file was read, and what is asked about it was written
  pub explains_file : (job : Job) (name octets : List ℕ)
      → Obtains held reads shelf_old shelf_new (input Input name) (Ok octets)
      → Writes (ended (job_outcome job octets)) took writes sink_old sink_new status
      → Explains held reads took writes shelf_old shelf_new sink_old sink_new (command_answer (on_file job name)) status
  unfolding command_answer
  explains_file job name octets o w =
      explains_writes (file_outcome job name) (job_outcome job octets)
      (obtains_then held reads shelf_old shelf_new (input Input name) (job_outcome job) octets (of_input job octets)
      o) w
      (λ e. absurd (subst (λ (x : Outcome (List ℕ)). IfErr x IsOfInput) e (of_input job octets)))

  -- a file was not read, and that was written
  pub explains_unread : (job : Job) (name : List ℕ) (why : Status)
      → Obtains held reads shelf_old shelf_new (input Input name) (Err why)
      → Writes (ended (Err why)) took writes sink_old sink_new status → (why ≡ ReadFault → status ≡ ReadFault)
      → Explains held reads took writes shelf_old shelf_new sink_old sink_new (command_answer (on_file job name)) status
  unfolding command_answer
  explains_unread job name why o w unread =
      explains_stopped held reads took writes shelf_old shelf_new sink_old sink_new status (input Input name) why
      (λ files. ended (file_outcome job name files))
      (λ files is. ap (λ (x : Outcome (List ℕ)). ended (x >>= job_outcome job)) is) o w unread

  -- a configuration and a manifest were checked, and what came of it was written
  pub explains_check : (config manifest : List ℕ) (got : Outcome (List ℕ))
      → Obtains held reads shelf_old shelf_new (check_outcome config manifest) got
      → Writes (ended got) took writes sink_old sink_new status → (got ≡ Err ReadFault → status ≡ ReadFault)
      → Explains held reads took writes shelf_old shelf_new sink_old sink_new (command_answer (check config manifest))
      status
  unfolding command_answer
  explains_check config manifest got o w unread = explains_writes (check_outcome config manifest) got o w unread

  -- the replay on speakers is the command's
  pub explains_replay : (hosts : Hosts) (config manifest log : List ℕ)
      → Explains held reads took writes shelf_old shelf_new sink_old sink_new
      (λ files. hosts_answer hosts (setup_input config manifest files) log files) status
      → Explains held reads took writes shelf_old shelf_new sink_old sink_new
      (command_answer (replay hosts config manifest log)) status
  unfolding command_answer
  explains_replay hosts config manifest log e = e

  -- generated events were played, and what came of them was written; the shelf was not asked
  pub explains_work : (number count : ℕ) (host : HostName) → held shelf_new ≡ held shelf_old
      → reads shelf_new ≡ reads shelf_old
      → Writes (ended (Ok (work_text (rule_of host) number count))) took writes sink_old sink_new status
      → Explains held reads took writes shelf_old shelf_new sink_old sink_new
      (command_answer (work number count host)) status
  unfolding command_answer
  explains_work number count host kept quiet w =
      let text = work_text (rule_of host) number count in
      explains_text (λ files. Ok text) text
      (record {
        told = λ files e. inl refl;
        cause = λ none e. absurd (cc e);
        quiet = λ e. quiet;
        later = omega (arith, quiet);
        same = kept;
        usage = λ e. cc e;
        write = λ e. cc e;
      }) w

  -- the words' command decides on the answer
  pub explains_command : (words : List (List ℕ)) (command : Command)
      → Explains held reads took writes shelf_old shelf_new sink_old sink_new (command_answer command) status
      → command_of words ≡ Some command
      → Explains held reads took writes shelf_old shelf_new sink_old sink_new (answer words) status
  unfolding answer
  explains_command words command e is =
      let by : Option Command → Files → Answer = λ o files. elim o as (λ x. Answer)
      [ None ↦ ended (Err Usage) | Some c ↦ command_answer c files ] in
      subst (λ (o : Option Command). Explains held reads took writes shelf_old shelf_new sink_old sink_new (by o)
      status) (sym is) e

-- the answer to words that are no command
pub answer-none : (words : List (List ℕ)) (files : Files) → command_of words ≡ None
    → answer words files ≡ ended (Err Usage)
unfolding answer
answer-none words files is =
    ap (λ (o : Option Command). elim o as (λ x. Answer) [ None ↦ ended (Err Usage) | Some c ↦ command_answer c files ])
    is

-- a text that was wanted was written, or there was no memory for it
pub writes_given : {K : Type 0} (took : K → Option (List ℕ)) (faults : K → ℕ) (old new : K) (status : Status)
    (text : List ℕ) (got : Outcome (List ℕ)) → Gives (Ok text) got → Writes (ended got) took faults old new status
    → Writes (ended (Ok text)) took faults old new status
writes_given took faults old new status text (Ok x) given w =
    subst (λ (o : Outcome (List ℕ)). Writes (ended o) took faults old new status) (sym given) w
writes_given took faults old new status text (Err why) (inr wrong) w =
    absurd (let f : ◌≡◌ {A = Outcome (List ℕ)} (Ok text) (Err why) = wrong in cc f)
writes_given took faults old new status text (Err why) (inl none) w =
    let v : Writes (ended (Err OutOfMemory)) took faults old new status =
    subst (λ (s : Status). Writes (ended (Err s)) took faults old new status) none w in
    let failed : (status ≡ WriteFault) ⊎ (status ≡ OutOfMemory) =
    elim (v.only) as (λ _. (status ≡ WriteFault) ⊎ (status ≡ OutOfMemory)) [ inl m ↦ inr m | inr other ↦ other ] in
    record {
      only = inr failed;
      whole = λ write memory. absurd (elim failed as (λ _. ⊥) [ inl f ↦ write f | inr m ↦ memory m ]);
      front = front_of_nothing (took old) (took new) text v.front;
      fault = λ e. elim (v.fault e) as (λ _. (Done ≡ WriteFault) ⊎ FaultsRose (faults old) (faults new)) [
        | inl other ↦ absurd (cc other)
        | inr rose ↦ inr rose
      ];
      quiet = v.quiet;
      later = v.later;
    }

-- the line of Usage was written
pub usage_written : {K : Type 0} (took : K → Option (List ℕ)) (faults : K → ℕ) (old new : K) (status : Status)
    → Writes (ended (Err Usage)) took faults old new status
    → ¬ FaultsRose (faults old) (faults new) → status ≢ OutOfMemory
    → IsAnswered (ended (Err Usage)) (took old) (took new) status
usage_written took faults old new status w no_write memory =
    let written : status ≢ WriteFault = λ fault. elim (w.fault fault) as (λ _. ⊥)
    [ inl other ↦ cc other | inr rose ↦ no_write rose ] in (
      elim (w.only) as (λ _. status ≡ Usage) [
        | inl s ↦ s
        | inr failed ↦ elim failed as (λ _. status ≡ Usage)
            [ inl f ↦ absurd (written f) | inr m ↦ absurd (memory m) ]
      ],
      λ _. w.whole written memory,
    )

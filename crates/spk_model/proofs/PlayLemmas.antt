-- How what is to come of a replay goes on by a line, and how a replay ends.
use Rattle.std.proofs.Common.{◌≡◌, ◌≢◌, ◌⊎◌, ℕ, ◌+◌, length, List, [], ◌++◌, take, drop, Option, Some, None, Result, Ok}
use Rattle.std.proofs.Common.{Err, refl, sym, ◌∙◌, ap, subst, inl, inr, arith, append_assoc}
use Rattle.std.proofs.lemmas.List.{append-nil}
use Rattle.std.proofs.lemmas.Grind.{flat_map-append}
use Rattle.xb_domain.specs.Outputs.{Output}
use Rattle.xb_domain.specs.declared.output.Packing.{Packing}
use Rattle.xb_io.specs.Causes.{Files, file_named, told_file, FaultsRose, IsMissing, TookFront, with_text}
use Rattle.xb_io.specs.Pages.{Gathered, Stops, Puts}
use Rattle.xb_io.specs.declared.page.Halt.{Halt}
use Rattle.xb_io.specs.declared.page.Halt.TheVariants as halts
use Rattle.xb_io.proofs.PageLemmas.{gathered_begin, puts_gathered, stops_then, with_text-nil}
use Rattle.replay_log.specs.Lines.{Line, blank_line, says, line_of}
use Rattle.replay_log.specs.Logs.{Log, Ending, whole_log, bad_line, long_log, log, log_at, line_clock, line_then, ended}
use Rattle.replay_log.specs.Logs.{after_line}
use Rattle.replay_log.specs.Readings.{Next, next_line, next_end, next_line_too_long, next_log_too_long, next_at, log_by}
use Rattle.replay_log.specs.Readings.{Reading, AreAhead, IsReadAhead}
use Rattle.replay_log.proofs.LogLemmas.{log_at-log_by}
use Rattle.replay_log.proofs.FitLemmas.{IsFor-line_of}
use Rattle.std.specs.Prelude.{IsNone, MatchOption}
use Rattle.std.proofs.Math.Seq.{take-length}
use Rattle.std.specs.Result.{IsErrAnd}
use Rattle.spk_model.specs.declared.stop.Stop.{Stop}
use Rattle.spk_model.specs.declared.stop.Stop.TheVariants as stops
use Rattle.spk_model.specs.declared.lines.End.{End}
use Rattle.spk_model.specs.declared.lines.End.TheVariants as ends
use Rattle.spk_model.specs.Names.{Named, names_of}
use Rattle.spk_model.specs.declared.play.Played.{Played}
use Rattle.spk_model.specs.declared.play.Played.TheVariants.{ReadFault, WriteFault, OutOfMemory}
use Rattle.spk_model.specs.declared.host.Setup.{Setup}
use Rattle.spk_model.specs.Turning.{Speaker, event, history, start_of}
use Rattle.table_print.specs.Lines.{output_line}
use Rattle.spk_model.specs.Reports.{output_lines, ending_text, report}
use Rattle.spk_model.specs.Playing.{Coming, coming, text_to_come, then_ends, played_by, replay_of, replayed, IsReplayed}
use Rattle.spk_model.specs.Playing.{Plays}
use Rattle.spk_model.specs.Ends.{line_happens, end_text, stop_of, played_by_stop, played_of, Fits, IsBuiltFrom, IsEnd}
use Rattle.spk_model.specs.Ends.{Ended, Stopped, PlaysLines}
use Rattle.spk_model.proofs.ClockLemmas.{event_clock}
use Rattle.spk_model.proofs.GatherLemmas.{front_gathered, gathered_line}

-- what is to come of a log, from a speaker on
abbrev come_by : Packing → Setup → Speaker → Log → Coming
come_by rule setup s l = then_ends l.ending (history rule setup s l.events)

-- outputs before what is to come
abbrev pub onto_coming : List Output → Coming → Coming
onto_coming outputs c = record { outputs = outputs ++ c.outputs; speaker = c.speaker; ending = c.ending }

-- nothing comes but an ending
abbrev pub only_ends : Speaker → Ending → Coming
only_ends s ending = record { outputs = []; speaker = s; ending = ending }

module _ (rule : Packing) (setup : Setup) where
  coming_by : (text : List ℕ) (at n : ℕ) (s : Speaker) (next : Next) → next ≡ next_at text at
      → coming rule setup text at n s
      ≡ come_by rule setup s (log_by (length (setup.config).peers) text n s.clock next)
  unfolding coming
  coming_by text at n s next is =
      ap (come_by rule setup s)
      (log_at-log_by (length (setup.config).peers) n s.clock at text
      ∙ ap (log_by (length (setup.config).peers) text n s.clock) (sym is))

  said_then : (text : List ℕ) (after n : ℕ) (s : Speaker) (said : Line)
      → come_by rule setup s
      (line_then said (log_at (length (setup.config).peers) text after (n + 1) (line_clock s.clock said)))
      ≡ onto_coming (line_happens rule setup s said).outputs
      (coming rule setup text after (n + 1) (line_happens rule setup s said).speaker)
  unfolding coming history
  said_then text after n s blank_line = refl
  said_then text after n s (says e) =
      ap (λ (clock : ℕ). let l = log_at (length (setup.config).peers) text after (n + 1) clock in
      onto_coming (event rule setup s e).outputs
      (then_ends l.ending (history rule setup (event rule setup s e).speaker l.events)))
      (sym (event_clock rule setup s e))

  no_more : (s : Speaker) (ending : Ending) → come_by rule setup s (ended ending) ≡ only_ends s ending
  unfolding history
  no_more s ending = refl

  -- a line comes, and it says something
  pub coming_line : (text : List ℕ) (at n after : ℕ) (s : Speaker) (octets : List ℕ) (said : Line)
      → next_line octets after ≡ next_at text at → line_of (length (setup.config).peers) s.clock octets ≡ Some said
      → coming rule setup text at n s
      ≡ onto_coming (line_happens rule setup s said).outputs
      (coming rule setup text after (n + 1) (line_happens rule setup s said).speaker)
  coming_line text at n after s octets said is says_so =
      coming_by text at n s (next_line octets after) is
      ∙ ap (λ (o : Option Line). come_by rule setup s (after_line n
      (λ l. log_at (length (setup.config).peers) text after (n + 1) (line_clock s.clock l)) o)) says_so
      ∙ said_then text after n s said

  -- a line comes that is outside the grammar
  pub coming_bad : (text : List ℕ) (at n after : ℕ) (s : Speaker) (octets : List ℕ)
      → next_line octets after ≡ next_at text at → line_of (length (setup.config).peers) s.clock octets ≡ None
      → coming rule setup text at n s ≡ only_ends s (bad_line n)
  coming_bad text at n after s octets is not_said =
      coming_by text at n s (next_line octets after) is
      ∙ ap (λ (o : Option Line). come_by rule setup s (after_line n
      (λ l. log_at (length (setup.config).peers) text after (n + 1) (line_clock s.clock l)) o)) not_said
      ∙ no_more s (bad_line n)

  -- the log ends, or what comes is too long
  pub coming_end : (text : List ℕ) (at n : ℕ) (s : Speaker) → next_end ≡ next_at text at
      → coming rule setup text at n s ≡ only_ends s whole_log
  coming_end text at n s is = coming_by text at n s next_end is ∙ no_more s whole_log

  pub coming_long_line : (text : List ℕ) (at n : ℕ) (s : Speaker) → next_line_too_long ≡ next_at text at
      → coming rule setup text at n s ≡ only_ends s (bad_line n)
  coming_long_line text at n s is = coming_by text at n s next_line_too_long is ∙ no_more s (bad_line n)

  pub coming_long_log : (text : List ℕ) (at n : ℕ) (s : Speaker) → next_log_too_long ≡ next_at text at
      → coming rule setup text at n s ≡ only_ends s long_log
  coming_long_log text at n s is = coming_by text at n s next_log_too_long is ∙ no_more s long_log

-- the text of outputs before what is to come
pub text_onto : (setup : Setup) (outputs : List Output) (c d : Coming) → c ≡ onto_coming outputs d
    → text_to_come setup c ≡ output_lines outputs ++ text_to_come setup d
text_onto setup outputs c d is =
    ap (text_to_come setup) is
    ∙ ap (λ l. l ++ ending_text setup d.speaker d.ending) (flat_map-append output_line outputs d.outputs)
    ∙ append_assoc (output_lines outputs) (output_lines d.outputs) (ending_text setup d.speaker d.ending)

-- the text, if nothing comes but an ending
pub text_ends : (setup : Setup) (c : Coming) (s : Speaker) (ending : Ending) → c ≡ only_ends s ending
    → text_to_come setup c ≡ ending_text setup s ending
text_ends setup c s ending is = ap (text_to_come setup) is

-- a host of this setup took a line that came
pub line_comes : (rule : Packing) (of setup : Setup) → of ≡ setup → (text : List ℕ) (at n after : ℕ) (s next : Speaker)
    (octets : List ℕ) (said : Line) → next_line octets after ≡ next_at text at
    → line_of (length (setup.config).peers) s.clock octets ≡ Some said → next ≡ (line_happens rule of s said).speaker
    → coming rule setup text at n s
    ≡ onto_coming (line_happens rule of s said).outputs (coming rule setup text after (n + 1) next)
line_comes rule of setup built text at n after s next octets said is says_so then =
    coming_line rule setup text at n after s octets said is says_so
    ∙ ap (λ (x : Setup). onto_coming (line_happens rule x s said).outputs
    (coming rule setup text after (n + 1) (line_happens rule x s said).speaker)) (sym built)
    ∙ ap (λ (x : Speaker). onto_coming (line_happens rule of s said).outputs (coming rule setup text after (n + 1) x))
    (sym then)

-- the clock after a line
pub happens_clock : (rule : Packing) (setup : Setup) (s : Speaker) (said : Line)
    → ((line_happens rule setup s said).speaker).clock ≡ line_clock s.clock said
happens_clock rule setup s blank_line = refl
happens_clock rule setup s (says e) = event_clock rule setup s e

-- what a line says, by another name for the number of peers and for the clock
pub line_at : (peers here now clock : ℕ) (octets : List ℕ) (o : Option Line) → peers ≡ here → now ≡ clock
    → o ≡ line_of peers now octets → line_of here clock octets ≡ o
line_at peers here now clock octets o p q is =
    sym (is ∙ ap (λ (k : ℕ). line_of k now octets) p ∙ ap (λ (k : ℕ). line_of here k octets) q)

-- a host may take what a line says
pub line_fits : (setup : Setup) (s : Speaker) (octets : List ℕ) (said : Line)
    → line_of (length (setup.config).peers) s.clock octets ≡ Some said → Fits setup s said
line_fits setup s octets blank_line is = tt
line_fits setup s octets (says e) is = IsFor-line_of (length (setup.config).peers) s.clock octets e is

-- nothing was read ahead
pub nothing_ahead : (held : Option Files) (name : List ℕ) (r : Reading) → r.ahead ≡ [] → IsReadAhead held name r
nothing_ahead held name r none = subst (λ (l : List ℕ). AreAhead held name r.at l) (sym none) (by held)
  where
    by_file : (o : Option (List ℕ)) → MatchOption o (◌≡◌ {A = List ℕ} [] [])
        (λ log. ◌≡◌ {A = List ℕ} [] (take 0 (drop r.at log)))
    by_file None = refl
    by_file (Some log) = refl

    by : (h : Option Files) → AreAhead h name r.at []
    by None = tt
    by (Some files) = by_file (file_named files name)

none_is : {A : Type 0} (o : Option A) → o ≡ None → IsNone o
none_is None e = refl
none_is (Some x) e = absurd (cc e)

-- no end of a log is a fault
no_fault : (ending : Ending) (played : Played) → (played ≡ ReadFault) ⊎ (played ≡ WriteFault)
    → played_by ending ≡ played → ⊥
no_fault whole_log played (inl e) is = cc (e, is)
no_fault whole_log played (inr e) is = cc (e, is)
no_fault (bad_line n) played (inl e) is = cc (e, is)
no_fault (bad_line n) played (inr e) is = cc (e, is)
no_fault long_log played (inl e) is = cc (e, is)
no_fault long_log played (inr e) is = cc (e, is)

read_stop : (stop : Stop) → played_by_stop stop ≡ ReadFault → stop ≡ stops.ReadFault
read_stop stops.ReadFault e = refl
read_stop stops.WriteFault e = absurd (cc e)
read_stop stops.OutOfMemory e = absurd (cc e)

write_stop : (stop : Stop) → played_by_stop stop ≡ WriteFault → stop ≡ stops.WriteFault
write_stop stops.WriteFault e = refl
write_stop stops.ReadFault e = absurd (cc e)
write_stop stops.OutOfMemory e = absurd (cc e)

-- a replay that was stopped failed
stopped_failed : (stop : Stop) → played_by_stop stop ≢ ReadFault → played_by_stop stop ≢ WriteFault
    → played_by_stop stop ≢ OutOfMemory → ⊥
stopped_failed stops.ReadFault read write memory = read refl
stopped_failed stops.WriteFault read write memory = write refl
stopped_failed stops.OutOfMemory read write memory = memory refl

no_read_fault : (halt : Halt) → stop_of halt ≡ stops.ReadFault → ⊥
no_read_fault halts.WriteFault e = cc e
no_read_fault halts.OutOfMemory e = cc e

write_fault : (halt : Halt) → stop_of halt ≡ stops.WriteFault → halt ≡ halts.WriteFault
write_fault halts.WriteFault e = refl
write_fault halts.OutOfMemory e = absurd (cc e)

module _ {S K : Type 0} (held : S → Option Files) (reads : S → ℕ) (took : K → Option (List ℕ)) (writes : K → ℕ) where
  -- there was no memory before anything was read
  pub stopped_begin : (shelf : S) (sink : K) (name page : List ℕ) (whole : List ℕ → List ℕ)
      → Stopped held reads took writes shelf shelf sink sink name (λ text. page ++ whole text) stops.OutOfMemory
  stopped_begin shelf sink name page whole =
      record {
        front = λ text e. front_gathered took writes sink sink (page ++ whole text) page (whole text)
            (gathered_begin took writes sink page (whole text));
        missing = λ m. refl;
        read_cause = λ e. absurd (cc e);
        write_cause = λ e. absurd (cc e);
        quiet_shelf = λ e. refl;
        quiet_sink = λ e. refl;
        later_shelf = omega arith;
        later_sink = omega arith;
        same = refl;
      }

  -- a text was not gathered or written to its end, after what was read and written before
  pub stopped_halt : (shelf_old shelf_new : S) (sink_old sink_mid sink_new : K) (name : List ℕ)
      (whole : List ℕ → List ℕ) (part : List ℕ) (halt : Halt)
      → ((text : List ℕ) → told_file (held shelf_old) name ≡ Some text
      → TookFront (took sink_old) (took sink_new) (whole text))
      → ¬ IsMissing (held shelf_old) name → reads shelf_new ≡ reads shelf_old → held shelf_new ≡ held shelf_old
      → writes sink_mid ≡ writes sink_old → Stops took writes sink_mid sink_new part halt
      → Stopped held reads took writes shelf_old shelf_new sink_old sink_new name whole (stop_of halt)
  stopped_halt shelf_old shelf_new sink_old sink_mid sink_new name whole part halt front is_held quiet same calm s =
      record {
        front = front;
        missing = λ m. absurd (is_held m);
        read_cause = λ e. absurd (no_read_fault halt e);
        write_cause = λ e. subst (λ (n : ℕ). FaultsRose n (writes sink_new)) calm (s.fault (write_fault halt e));
        quiet_shelf = λ e. quiet;
        quiet_sink = λ e. absurd (no_read_fault halt e);
        later_shelf = omega (arith, quiet);
        later_sink = omega (arith, calm, s.later);
        same = same;
      }

  module _ {H : Type 0} (rule : Packing) (built_from : H → Setup) (speaker : H → Speaker) (host : H) where
    -- a call that hands a stop on by `?` ends as that says
    pub plays_stopped : (shelf_old shelf_new : S) (sink_old sink_new : K) (name page next : List ℕ) (stop : Stop)
        (result : Result (End H) Stop) → IsErrAnd result (λ s. s ≡ stop)
        → Stopped held reads took writes shelf_old shelf_new sink_old sink_new name
        (λ text. page ++ text_to_come (built_from host) (coming rule (built_from host) text 0 1 (speaker host))) stop
        → PlaysLines rule built_from speaker host held reads took writes shelf_old shelf_new sink_old sink_new name page
        next result
    plays_stopped shelf_old shelf_new sink_old sink_new name page next stop (Ok end) wrong s = absurd wrong
    plays_stopped shelf_old shelf_new sink_old sink_new name page next stop (Err other) same s =
        subst (λ (x : Stop). Stopped held reads took writes shelf_old shelf_new sink_old sink_new name
        (λ text. page ++ text_to_come (built_from host) (coming rule (built_from host) text 0 1 (speaker host))) x)
        (sym same) s

  -- the same of another name for the text
  pub stopped_as : (shelf_old shelf_new : S) (sink_old sink_new : K) (name : List ℕ) (whole other : List ℕ → List ℕ)
      (stop : Stop) → ((text : List ℕ) → whole text ≡ other text)
      → Stopped held reads took writes shelf_old shelf_new sink_old sink_new name whole stop
      → Stopped held reads took writes shelf_old shelf_new sink_old sink_new name other stop
  stopped_as shelf_old shelf_new sink_old sink_new name whole other stop same s =
      record {
        front = λ text e. subst (λ l. TookFront (took sink_old) (took sink_new) l) (same text) (s.front text e);
        missing = s.missing;
        read_cause = s.read_cause;
        write_cause = s.write_cause;
        quiet_shelf = s.quiet_shelf;
        quiet_sink = s.quiet_sink;
        later_shelf = s.later_shelf;
        later_sink = s.later_sink;
        same = s.same;
      }

  module _ (rule : Packing) (setup : Setup) (name : List ℕ) (shelf_old shelf_new : S) (sink_old sink_new : K) where
    -- a front of what is written of a log was taken, be it held or not
    front_of : (files : Files) → held shelf_old ≡ Some files
        → ((text : List ℕ) → told_file (held shelf_old) name ≡ Some text
        → TookFront (took sink_old) (took sink_new) (report rule setup text))
        → (IsMissing (held shelf_old) name → took sink_new ≡ took sink_old)
        → TookFront (took sink_old) (took sink_new) (replayed rule setup name files).text
    front_of files is front missing = by (file_named files name) refl
      where
        by : (o : Option (List ℕ)) → file_named files name ≡ o
            → TookFront (took sink_old) (took sink_new) (replay_of rule setup o).text
        by None e = (
          0,
          missing (subst (λ (h : Option Files). IsMissing h name) (sym is) (none_is (file_named files name) e))
              ∙ with_text-nil (took sink_old),
        )
        by (Some text) e = front text (ap (λ (h : Option Files). told_file h name) is ∙ e)

    -- a replay was stopped
    stopped_exact : (stop : Stop)
        → Stopped held reads took writes shelf_old shelf_new sink_old sink_new name (λ text. report rule setup text)
        stop
        → (files : Files) → held shelf_old ≡ Some files → ¬ FaultsRose (reads shelf_old) (reads shelf_new)
        → ¬ FaultsRose (writes sink_old) (writes sink_new) → played_by_stop stop ≢ OutOfMemory
        → IsReplayed (replayed rule setup name files) (took sink_old) (took sink_new) (played_by_stop stop)
    stopped_exact stops.WriteFault s files is calm_reads calm_writes memory = absurd (calm_writes (s.write_cause refl))
    stopped_exact stops.OutOfMemory s files is calm_reads calm_writes memory = absurd (memory refl)
    stopped_exact stops.ReadFault s files is calm_reads calm_writes memory = elim (s.read_cause refl) [
      | inl rose ↦ absurd (calm_reads rose)
      | inr missing ↦ by (file_named files name) (subst (λ (h : Option Files). IsMissing h name) is missing)
    ]
      where
        by : (o : Option (List ℕ)) → IsNone o
            → IsReplayed (replay_of rule setup o) (took sink_old) (took sink_new) ReadFault
        by None none = (refl, λ other. absurd (other refl))
        by (Some text) none = absurd (cc none)

    stopped_quiet : (stop : Stop)
        → Stopped held reads took writes shelf_old shelf_new sink_old sink_new name (λ text. report rule setup text)
        stop
        → played_by_stop stop ≢ WriteFault → played_by_stop stop ≢ OutOfMemory → writes sink_new ≡ writes sink_old
    stopped_quiet stops.ReadFault s a b = s.quiet_sink refl
    stopped_quiet stops.WriteFault s a b = absurd (a refl)
    stopped_quiet stops.OutOfMemory s a b = absurd (b refl)

    stopped_plays : (stop : Stop)
        → Stopped held reads took writes shelf_old shelf_new sink_old sink_new name (λ text. report rule setup text)
        stop
        → Plays held reads took writes shelf_old shelf_new sink_old sink_new name (replayed rule setup name)
        (played_by_stop stop)
    stopped_plays stop s =
        record {
          exact = stopped_exact stop s;
          whole = λ files is read write memory. absurd (stopped_failed stop read write memory);
          front = λ files is. front_of files is s.front s.missing;
          read_cause = λ e. s.read_cause (read_stop stop e);
          write_cause = λ e. s.write_cause (write_stop stop e);
          quiet_shelf = λ e. s.quiet_shelf (λ is. e (ap played_by_stop is));
          quiet_sink = stopped_quiet stop s;
          later_shelf = s.later_shelf;
          later_sink = s.later_sink;
          same = s.same;
        }

    -- a call that hands a stop on by `?` ends as that says
    pub plays_stop : (stop : Stop) (result : Result Played Stop) → IsErrAnd result (λ s. s ≡ stop)
        → Stopped held reads took writes shelf_old shelf_new sink_old sink_new name (λ text. report rule setup text)
        stop
        → Plays held reads took writes shelf_old shelf_new sink_old sink_new name (replayed rule setup name)
        (played_of result)
    plays_stop stop (Ok played) wrong s = absurd wrong
    plays_stop stop (Err other) same s =
        subst (λ (x : Stop). Plays held reads took writes shelf_old shelf_new sink_old sink_new name
        (replayed rule setup name) (played_by_stop x))
        (sym same) (stopped_plays stop s)

    -- the whole report of a log that is held was written
    pub plays_ended : (ending : Ending) (played : Played) → played ≡ played_by ending
        → ¬ IsMissing (held shelf_old) name
        → ((text : List ℕ) → told_file (held shelf_old) name ≡ Some text
        → ((log (length (setup.config).peers) text).ending ≡ ending)
        × (took sink_new ≡ with_text (took sink_old) (report rule setup text)))
        → reads shelf_new ≡ reads shelf_old → writes sink_new ≡ writes sink_old → held shelf_new ≡ held shelf_old
        → Plays held reads took writes shelf_old shelf_new sink_old sink_new name (replayed rule setup name) played
    plays_ended ending played is is_held written quiet calm same =
        record {
          exact = λ files has a b memory. exact files has (file_named files name) refl;
          whole = λ files has read write memory. exact files has (file_named files name) refl;
          front = λ files has. front_of files has
              (λ text e. (
                length (report rule setup text),
                (written text e).1
                    ∙ ap (with_text (took sink_old)) (sym (take-length (report rule setup text))),
              ))
              (λ m. absurd (is_held m));
          read_cause = λ e. absurd (no_fault ending ReadFault (inl refl) (sym is ∙ e));
          write_cause = λ e. absurd (no_fault ending WriteFault (inr refl) (sym is ∙ e));
          quiet_shelf = λ e. quiet;
          quiet_sink = λ a b. calm;
          later_shelf = omega (arith, quiet);
          later_sink = omega (arith, calm);
          same = same;
        }
      where
        exact : (files : Files) → held shelf_old ≡ Some files → (o : Option (List ℕ)) → file_named files name ≡ o
            → IsReplayed (replay_of rule setup o) (took sink_old) (took sink_new) played
        exact files has None e =
            absurd (is_held (subst (λ (h : Option Files). IsMissing h name) (sym has)
            (none_is (file_named files name) e)))
        exact files has (Some text) e =
            let w = written text (ap (λ (h : Option Files). told_file h name) has ∙ e) in
            (is ∙ ap played_by (sym w.0), λ other. w.1)

report_comes : (rule : Packing) (setup : Setup) (text : List ℕ)
    → text_to_come setup (coming rule setup text 0 1 (start_of setup)) ≡ report rule setup text
unfolding coming report
report_comes rule setup text = refl

ending_comes : (rule : Packing) (setup : Setup) (text : List ℕ)
    → (log (length (setup.config).peers) text).ending ≡ (coming rule setup text 0 1 (start_of setup)).ending
unfolding coming
ending_comes rule setup text = refl

-- the text of a whole replay is its report
pub whole_report : (rule : Packing) (setup built : Setup) (start : Speaker) (page text : List ℕ) → page ≡ []
    → built ≡ setup → start ≡ start_of setup
    → page ++ text_to_come built (coming rule built text 0 1 start) ≡ report rule setup text
whole_report rule setup built start page text empty is begins =
    ap (λ l. l ++ text_to_come built (coming rule built text 0 1 start)) empty
    ∙ ap (λ (x : Setup). text_to_come x (coming rule x text 0 1 start)) is
    ∙ ap (λ (s : Speaker). text_to_come setup (coming rule setup text 0 1 s)) begins
    ∙ report_comes rule setup text

-- how a log ends
pub whole_ending : (rule : Packing) (setup built : Setup) (start : Speaker) (text : List ℕ) → built ≡ setup
    → start ≡ start_of setup
    → (log (length (setup.config).peers) text).ending ≡ (coming rule built text 0 1 start).ending
whole_ending rule setup built start text is begins =
    ending_comes rule setup text ∙ ap (λ (s : Speaker). (coming rule setup text 0 1 s).ending) (sym begins)
    ∙ ap (λ (x : Setup). (coming rule x text 0 1 start).ending) (sym is)

-- the names and the number of peers of a setup are those of a host that was built from it
pub end_names : {H : Type 0} (built_from : H → Setup) (setup : Setup) (names : Named) (peers : ℕ) (end : End H)
    → names ≡ names_of setup.manifest → peers ≡ length (setup.config).peers → IsBuiltFrom built_from setup end
    → IsEnd built_from names peers end
end_names built_from setup names peers (ends.Whole host) p q is =
    (p ∙ ap (λ (x : Setup). names_of x.manifest) (sym is), q ∙ ap (λ (x : Setup). length (x.config).peers) (sym is))
end_names built_from setup names peers (ends.BadLine n) p q is = tt
end_names built_from setup names peers ends.LongLog p q is = tt

module _ {H S K : Type 0} (rule : Packing) (built_from : H → Setup) (speaker : H → Speaker) (host : H)
    (held : S → Option Files) (reads : S → ℕ) (took : K → Option (List ℕ)) (writes : K → ℕ) (end : End H)
    (shelf_old shelf_new : S) (sink_old sink_mid : K) (name page mid : List ℕ)
    (ended : Ended rule built_from speaker host held reads took writes shelf_old shelf_new sink_old sink_mid name page
    mid
    end) where
  abbrev whole_of : List ℕ → List ℕ
  whole_of text = text_to_come (built_from host) (coming rule (built_from host) text 0 1 (speaker host))

  -- what follows the outputs was not gathered to its end
  pub stopped_end : (sink_new : K) (halt : Halt)
      → Stops took writes sink_mid sink_new (mid ++ end_text built_from speaker end) halt
      → Stopped held reads took writes shelf_old shelf_new sink_old sink_new name (λ text. page ++ whole_of text)
      (stop_of halt)
  stopped_end sink_new halt s =
      let last = end_text built_from speaker end in
      stopped_halt held reads took writes shelf_old shelf_new sink_old sink_mid sink_new name
      (λ text. page ++ whole_of text) (mid ++ last) halt
      (λ text e. (stops_then took writes sink_old sink_mid sink_new (page ++ whole_of text) mid last [] halt
      (subst (λ l. Gathered took writes sink_old sink_mid (page ++ whole_of text) mid l) (sym (append-nil last))
      (ended.gathered text e)) s).front)
      ended.is_held ended.quiet_shelf ended.same ended.quiet_sink s

  module _ (sink_late sink_new : K) (late : List ℕ) (empty : page ≡ [])
      (gathered : Gathered took writes sink_mid sink_late (mid ++ end_text built_from speaker end) late []) where
    puts_whole : (text : List ℕ) → told_file (held shelf_old) name ≡ Some text → (result : Result (Unit {0}) Halt)
        → Puts took writes sink_late sink_new late result
        → Puts took writes sink_old sink_new (whole_of text) result
    puts_whole text e result p =
        let last = end_text built_from speaker end in
        puts_gathered took writes sink_old sink_late sink_new page (whole_of text) late result empty
        (gathered_line took writes sink_old sink_mid sink_late (page ++ whole_of text) mid late last last []
        (sym (append-nil last)) (ended.gathered text e) gathered) p

    -- the page was not written to its end
    pub stopped_put : (halt : Halt) → Stops took writes sink_late sink_new late halt
        → Stopped held reads took writes shelf_old shelf_new sink_old sink_new name (λ text. page ++ whole_of text)
        (stop_of halt)
    stopped_put halt s =
        stopped_halt held reads took writes shelf_old shelf_new sink_old sink_late sink_new name
        (λ text. page ++ whole_of text) late halt
        (λ text e. subst (λ l. TookFront (took sink_old) (took sink_new) (l ++ whole_of text)) (sym empty)
        (puts_whole text e (Err halt) s).front)
        ended.is_held ended.quiet_shelf ended.same (gathered.quiet ∙ ended.quiet_sink) s

    -- the whole text was written
    pub written_whole : Puts took writes sink_late sink_new late (Ok tt)
        → (text : List ℕ) → told_file (held shelf_old) name ≡ Some text
        → took sink_new ≡ with_text (took sink_old) (whole_of text)
    written_whole p text e = (puts_whole text e (Ok tt) p).0

    pub written_calm : Puts took writes sink_late sink_new late (Ok tt) → writes sink_new ≡ writes sink_old
    written_calm p = p.1 ∙ gathered.quiet ∙ ended.quiet_sink

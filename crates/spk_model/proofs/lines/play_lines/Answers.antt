use Rattle.std.proofs.Common.{◌≡◌, ◌<◌, ◌+◌, ◌++◌, ◌∙◌, ◌⊎◌, ℕ, List, [], Option, Some, None, length, refl, sym, ap}
use Rattle.std.proofs.Common.{subst, arith, rules}
use Rattle.xb_values.specs.Buffers.{Buffer}
use Rattle.xb_io.specs.Causes.{Files, FaultsRose, IsMissing, told_file}
use Rattle.xb_io.specs.Pages.{Gathered}
use Rattle.xb_io.proofs.PageLemmas.{gathered_begin, stops_then}
use Rattle.replay_log.specs.Lines.{line_of}
use Rattle.replay_log.specs.Logs.{bad_line, line_clock, long_log, whole_log}
use Rattle.replay_log.specs.Readings.{IsReadAhead, Reading, next_at, next_line}
use Rattle.replay_log.specs.Views.{line_view}
use Rattle.spk_model.specs.declared.host.Setup.{Setup}
use Rattle.spk_model.specs.declared.stop.Stop.TheVariants.{OutOfMemory}
use Rattle.spk_model.specs.Turning.{Speaker}
use Rattle.spk_model.specs.Reports.{ending_text, output_lines}
use Rattle.spk_model.specs.Playing.{Coming, coming, text_to_come}
use Rattle.spk_model.specs.Ends.{Fits, line_happens, stop_of}
use Rattle.spk_model.proofs.GatherLemmas.{front_gathered, gathered_line}
use Rattle.spk_model.proofs.PlayLemmas.{coming_bad, coming_end, coming_long_line, coming_long_log, happens_clock}
use Rattle.spk_model.proofs.PlayLemmas.{line_at, line_comes}
use Rattle.spk_model.proofs.PlayLemmas.{line_fits, nothing_ahead, only_ends, onto_coming, plays_stopped, stopped_begin}
use Rattle.spk_model.proofs.PlayLemmas.{stopped_halt}
use Rattle.spk_model.proofs.PlayLemmas.{text_ends, text_onto}
use Rattle.spk_model.proofs.lines.play_lines.Goals as goal

pub returns-in_err-octets : goal.returns-in_err-octets
returns-in_err-octets g c =
    let setup = g.H.Host.built_from c.args.host in
    let rule = g.H.Host.RULE in
    plays_stopped g.S.Shelf.held g.S.Shelf.faults g.K.Sink.took g.K.Sink.faults rule g.H.Host.built_from
    g.H.Host.speaker c.args.host
    _ _ _ _ c.args.log.now c.args.page.now c.args.page.now OutOfMemory c.from_residual-in_err-octets.result
    c.from_residual-in_err-octets.ensures.1
    (stopped_begin g.S.Shelf.held g.S.Shelf.faults g.K.Sink.took g.K.Sink.faults c.args.shelf.now c.args.sink.now
    c.args.log.now c.args.page.now
    (λ text. text_to_come setup (coming rule setup text 0 1 (g.H.Host.speaker c.args.host))))

pub returns-in_err-outputs : goal.returns-in_err-outputs
returns-in_err-outputs g c =
    let setup = g.H.Host.built_from c.args.host in
    let rule = g.H.Host.RULE in
    plays_stopped g.S.Shelf.held g.S.Shelf.faults g.K.Sink.took g.K.Sink.faults rule g.H.Host.built_from
    g.H.Host.speaker c.args.host
    _ _ _ _ c.args.log.now c.args.page.now c.args.page.now OutOfMemory c.from_residual-in_err-outputs.result
    c.from_residual-in_err-outputs.ensures.1
    (stopped_begin g.S.Shelf.held g.S.Shelf.faults g.K.Sink.took g.K.Sink.faults c.args.shelf.now c.args.sink.now
    c.args.log.now c.args.page.now
    (λ text. text_to_come setup (coming rule setup text 0 1 (g.H.Host.speaker c.args.host))))

pub lines-init : goal.lines-init
lines-init g c =
    let setup = g.H.Host.built_from c.args.host in
    let rule = g.H.Host.RULE in
    let start = g.H.Host.speaker c.args.host in
    let at : c.in_ok-reader.reader.at ≡ 0 = ap (λ (r : Reading). r.at) c.in_ok-reader.ensures in
    let ahead : c.in_ok-reader.reader.ahead ≡ [] = ap (λ (r : Reading). r.ahead) c.in_ok-reader.ensures in
    record {
      built = refl;
      clock = sym c.requires.clock;
      room = ap (λ (b : Buffer). b.capacity) c.in_ok-octets.ensures;
      number = omega arith;
      within = omega (arith, at);
      ahead = nothing_ahead (g.S.Shelf.held c.args.shelf.now) c.args.log.now c.in_ok-reader.reader ahead;
      same = refl;
      gathered = λ text e.
          subst (λ (k : ℕ). Gathered g.K.Sink.took g.K.Sink.faults c.args.sink.now c.args.sink.now
          (c.args.page.now ++ text_to_come setup (coming rule setup text 0 1 start)) c.args.page.now
          (text_to_come setup (coming rule setup text k 1 start))) (sym at)
          (gathered_begin g.K.Sink.took g.K.Sink.faults c.args.sink.now c.args.page.now
          (text_to_come setup (coming rule setup text 0 1 start)));
      ending = λ text e. ap (λ (k : ℕ). (coming rule setup text k 1 start).ending) at;
      missing = λ m. refl;
      quiet_shelf = refl;
      quiet_sink = refl;
    }

pub returns-in-End : goal.returns-in-End
returns-in-End g c =
    let i = c.lines.invariant in
    let setup = g.H.Host.built_from c.args.host in
    let rule = g.H.Host.RULE in
    let here = g.H.Host.speaker c.lines.host in
    let at = c.lines.reader.at in
    let n = c.lines.number in
    let held = g.S.Shelf.held c.args.shelf.now in
    let name = c.args.log.now in
    let comes : (text : List ℕ) → told_file held name ≡ Some text
    → coming rule setup text at n here ≡ only_ends here (whole_log) =
    λ text e. coming_end rule setup text at n here (c.in-End.ensures.told text
    (ap (λ (h : Option Files). told_file h name) i.same ∙ e)) in
    record {
      gathered = λ text e.
          subst (λ l. Gathered g.K.Sink.took g.K.Sink.faults c.args.sink.now c.lines.sink
          (c.args.page.now ++ text_to_come setup (coming rule setup text 0 1 (g.H.Host.speaker c.args.host)))
          c.lines.page l)
          (text_ends setup (coming rule setup text at n here) here (whole_log) (comes text e)
          ∙ ap (λ (x : Setup). ending_text x here whole_log) (sym i.built)) (i.gathered text e);
      ending = λ text e. sym (i.ending text e) ∙ ap (λ (x : Coming). x.ending) (comes text e);
      is_held = λ m. absurd (cc (c.in-End.ensures.missing (subst (λ (h : Option Files). IsMissing h name) (sym i.same)
          m)));
      built = i.built;
      quiet_shelf = c.in-End.ensures.quiet (λ e. cc) ∙ i.quiet_shelf;
      quiet_sink = i.quiet_sink;
      same = c.in-End.ensures.same ∙ i.same;
    }

pub returns-in-LineTooLong : goal.returns-in-LineTooLong
returns-in-LineTooLong g c =
    let i = c.lines.invariant in
    let setup = g.H.Host.built_from c.args.host in
    let rule = g.H.Host.RULE in
    let here = g.H.Host.speaker c.lines.host in
    let at = c.lines.reader.at in
    let n = c.lines.number in
    let held = g.S.Shelf.held c.args.shelf.now in
    let name = c.args.log.now in
    let comes : (text : List ℕ) → told_file held name ≡ Some text
    → coming rule setup text at n here ≡ only_ends here (bad_line n) =
    λ text e. coming_long_line rule setup text at n here (c.in-LineTooLong.ensures.told text
    (ap (λ (h : Option Files). told_file h name) i.same ∙ e)) in
    record {
      gathered = λ text e.
          subst (λ l. Gathered g.K.Sink.took g.K.Sink.faults c.args.sink.now c.lines.sink
          (c.args.page.now ++ text_to_come setup (coming rule setup text 0 1 (g.H.Host.speaker c.args.host)))
          c.lines.page l)
          (text_ends setup (coming rule setup text at n here) here (bad_line n) (comes text e)) (i.gathered text e);
      ending = λ text e. sym (i.ending text e) ∙ ap (λ (x : Coming). x.ending) (comes text e);
      is_held = λ m. absurd (cc (c.in-LineTooLong.ensures.missing
          (subst (λ (h : Option Files). IsMissing h name) (sym i.same) m)));
      built = tt;
      quiet_shelf = c.in-LineTooLong.ensures.quiet (λ e. cc) ∙ i.quiet_shelf;
      quiet_sink = i.quiet_sink;
      same = c.in-LineTooLong.ensures.same ∙ i.same;
    }

pub returns-in-TooLong : goal.returns-in-TooLong
returns-in-TooLong g c =
    let i = c.lines.invariant in
    let setup = g.H.Host.built_from c.args.host in
    let rule = g.H.Host.RULE in
    let here = g.H.Host.speaker c.lines.host in
    let at = c.lines.reader.at in
    let n = c.lines.number in
    let held = g.S.Shelf.held c.args.shelf.now in
    let name = c.args.log.now in
    let comes : (text : List ℕ) → told_file held name ≡ Some text
    → coming rule setup text at n here ≡ only_ends here (long_log) =
    λ text e. coming_long_log rule setup text at n here (c.in-TooLong.ensures.told text
    (ap (λ (h : Option Files). told_file h name) i.same ∙ e)) in
    record {
      gathered = λ text e.
          subst (λ l. Gathered g.K.Sink.took g.K.Sink.faults c.args.sink.now c.lines.sink
          (c.args.page.now ++ text_to_come setup (coming rule setup text 0 1 (g.H.Host.speaker c.args.host)))
          c.lines.page l)
          (text_ends setup (coming rule setup text at n here) here (long_log) (comes text e)) (i.gathered text e);
      ending = λ text e. sym (i.ending text e) ∙ ap (λ (x : Coming). x.ending) (comes text e);
      is_held = λ m. absurd (cc (c.in-TooLong.ensures.missing
          (subst (λ (h : Option Files). IsMissing h name) (sym i.same) m)));
      built = tt;
      quiet_shelf = c.in-TooLong.ensures.quiet (λ e. cc) ∙ i.quiet_shelf;
      quiet_sink = i.quiet_sink;
      same = c.in-TooLong.ensures.same ∙ i.same;
    }

pub returns-in-Failed : goal.returns-in-Failed
returns-in-Failed g c =
    let i = c.lines.invariant in
    let name = c.args.log.now in
    let faults = g.S.Shelf.faults c.next_line.new.shelf in
    record {
      front = λ text e. front_gathered g.K.Sink.took g.K.Sink.faults _ _ _ _ _ (i.gathered text e);
      missing = i.missing;
      read_cause = λ e.
          subst (λ (h : Option Files). FaultsRose (g.S.Shelf.faults c.args.shelf.now) faults ⊎ IsMissing h name) i.same
          (subst (λ (n : ℕ). FaultsRose n faults ⊎ IsMissing (g.S.Shelf.held c.lines.shelf) name) i.quiet_shelf
          (c.in-Failed.ensures.cause refl));
      write_cause = λ e. absurd (cc e);
      quiet_shelf = λ e. absurd (e refl);
      quiet_sink = λ e. i.quiet_sink;
      later_shelf = omega (arith, c.in-Failed.ensures.later, i.quiet_shelf);
      later_sink = omega (arith, i.quiet_sink);
      same = c.in-Failed.ensures.same ∙ i.same;
    }

pub returns-in_default : goal.returns-in_default
returns-in_default g c =
    let i = c.lines.invariant in
    let setup = g.H.Host.built_from c.args.host in
    let rule = g.H.Host.RULE in
    let here = g.H.Host.speaker c.lines.host in
    let at = c.lines.reader.at in
    let n = c.lines.number in
    let held = g.S.Shelf.held c.args.shelf.now in
    let name = c.args.log.now in
    let reader = c.next_line.new.self in
    let octets = c.line.result.now in
    let comes_line : (text : List ℕ) → told_file held name ≡ Some text → next_line octets reader.at ≡ next_at text at =
    λ text e. ap (λ (l : List ℕ). next_line l reader.at) c.line.ensures.value ∙
    (c.in-Line.ensures.told text (ap (λ (h : Option Files). told_file h name) i.same ∙ e)) in
    let is_held : ¬ IsMissing held name =
    λ m. absurd (cc (c.in-Line.ensures.missing (subst (λ (h : Option Files). IsMissing h name) (sym i.same) m))) in
    let none : line_of (length (setup.config).peers) here.clock octets ≡ None =
    line_at c.args.peers (length (setup.config).peers) c.lines.now here.clock octets None c.requires.peers i.clock
    c.in_default.ensures.line in
    let comes : (text : List ℕ) → told_file held name ≡ Some text
    → coming rule setup text at n here ≡ only_ends here (bad_line n) =
    λ text e. coming_bad rule setup text at n reader.at here octets (comes_line text e) none in
    record {
      gathered = λ text e.
          subst (λ l. Gathered g.K.Sink.took g.K.Sink.faults c.args.sink.now c.lines.sink
          (c.args.page.now ++ text_to_come setup (coming rule setup text 0 1 (g.H.Host.speaker c.args.host)))
          c.lines.page l)
          (text_ends setup (coming rule setup text at n here) here (bad_line n) (comes text e)) (i.gathered text e);
      ending = λ text e. sym (i.ending text e) ∙ ap (λ (x : Coming). x.ending) (comes text e);
      is_held = is_held;
      built = tt;
      quiet_shelf = c.in-Line.ensures.quiet (λ e. cc) ∙ i.quiet_shelf;
      quiet_sink = i.quiet_sink;
      same = c.in-Line.ensures.same ∙ i.same;
    }

pub play_line-requires : goal.play_line-requires
play_line-requires g c =
    let i = c.lines.invariant in
    let setup = g.H.Host.built_from c.args.host in
    let here = g.H.Host.speaker c.lines.host in
    let octets = c.line.result.now in
    let said = line_view c.in-Some.line in
    let says_so : line_of (length (setup.config).peers) here.clock octets ≡ Some said =
    line_at c.args.peers (length (setup.config).peers) c.lines.now here.clock octets (Some said) c.requires.peers
    i.clock
    c.in-Some.ensures.line in
    subst (λ (x : Setup). Fits x here said) (sym i.built) (line_fits setup here octets said says_so)

pub returns-in_err-host : goal.returns-in_err-host
returns-in_err-host g c =
    let i = c.lines.invariant in
    let setup = g.H.Host.built_from c.args.host in
    let rule = g.H.Host.RULE in
    let here = g.H.Host.speaker c.lines.host in
    let at = c.lines.reader.at in
    let n = c.lines.number in
    let held = g.S.Shelf.held c.args.shelf.now in
    let name = c.args.log.now in
    let reader = c.next_line.new.self in
    let octets = c.line.result.now in
    let comes_line : (text : List ℕ) → told_file held name ≡ Some text → next_line octets reader.at ≡ next_at text at =
    λ text e. ap (λ (l : List ℕ). next_line l reader.at) c.line.ensures.value ∙
    (c.in-Line.ensures.told text (ap (λ (h : Option Files). told_file h name) i.same ∙ e)) in
    let is_held : ¬ IsMissing held name =
    λ m. absurd (cc (c.in-Line.ensures.missing (subst (λ (h : Option Files). IsMissing h name) (sym i.same) m))) in
    let said = line_view c.in-Some.line in
    let says_so : line_of (length (setup.config).peers) here.clock octets ≡ Some said =
    line_at c.args.peers (length (setup.config).peers) c.lines.now here.clock octets (Some said) c.requires.peers
    i.clock
    c.in-Some.ensures.line in
    let of = g.H.Host.built_from c.lines.host in
    let outputs = (line_happens rule of here said).outputs in
    let later = coming rule setup in
    let whole : List ℕ → List ℕ =
    λ text. c.args.page.now ++ text_to_come setup (coming rule setup text 0 1 (g.H.Host.speaker c.args.host)) in
    let after = (line_happens rule of here said).speaker in
    let halt = c.in_err-host.field-0.0 in
    plays_stopped g.S.Shelf.held g.S.Shelf.faults g.K.Sink.took g.K.Sink.faults rule g.H.Host.built_from
    g.H.Host.speaker c.args.host
    _ _ _ _ name c.args.page.now c.play_line.new.page (stop_of halt) c.from_residual-in_err-host.result
    c.from_residual-in_err-host.ensures.1
    (stopped_halt g.S.Shelf.held g.S.Shelf.faults g.K.Sink.took g.K.Sink.faults c.args.shelf.now c.next_line.new.shelf
    c.args.sink.now c.lines.sink
    c.play_line.new.sink name whole (c.lines.page ++ output_lines outputs) halt
    (λ text e. (stops_then g.K.Sink.took g.K.Sink.faults c.args.sink.now c.lines.sink c.play_line.new.sink (whole text)
    c.lines.page
    (output_lines outputs) (text_to_come setup (coming rule setup text reader.at (n + 1) after)) halt
    (subst (λ l. Gathered g.K.Sink.took g.K.Sink.faults c.args.sink.now c.lines.sink (whole text) c.lines.page l)
    (text_onto setup outputs (coming rule setup text at n here) (coming rule setup text reader.at (n + 1) after)
    (line_comes rule of setup i.built text at n reader.at here after octets said (comes_line text e) says_so refl))
    (i.gathered text e)) c.in_err-host.ensures).front)
    is_held (c.in-Line.ensures.quiet (λ e. cc) ∙ i.quiet_shelf) (c.in-Line.ensures.same ∙ i.same) i.quiet_sink
    c.in_err-host.ensures)

pub lines-preserved : goal.lines-preserved
lines-preserved g c =
    let i = c.lines.invariant in
    let setup = g.H.Host.built_from c.args.host in
    let rule = g.H.Host.RULE in
    let here = g.H.Host.speaker c.lines.host in
    let at = c.lines.reader.at in
    let n = c.lines.number in
    let held = g.S.Shelf.held c.args.shelf.now in
    let name = c.args.log.now in
    let reader = c.next_line.new.self in
    let octets = c.line.result.now in
    let comes_line : (text : List ℕ) → told_file held name ≡ Some text → next_line octets reader.at ≡ next_at text at =
    λ text e. ap (λ (l : List ℕ). next_line l reader.at) c.line.ensures.value ∙
    (c.in-Line.ensures.told text (ap (λ (h : Option Files). told_file h name) i.same ∙ e)) in
    let is_held : ¬ IsMissing held name =
    λ m. absurd (cc (c.in-Line.ensures.missing (subst (λ (h : Option Files). IsMissing h name) (sym i.same) m))) in
    let said = line_view c.in-Some.line in
    let says_so : line_of (length (setup.config).peers) here.clock octets ≡ Some said =
    line_at c.args.peers (length (setup.config).peers) c.lines.now here.clock octets (Some said) c.requires.peers
    i.clock
    c.in-Some.ensures.line in
    let of = g.H.Host.built_from c.lines.host in
    let outputs = (line_happens rule of here said).outputs in
    let next = g.H.Host.speaker c.in_ok-host.host in
    let line = c.in_ok-host.ensures in
    let comes : (text : List ℕ) → told_file held name ≡ Some text
    → coming rule setup text at n here ≡ onto_coming outputs (coming rule setup text reader.at (n + 1) next) =
    λ text e. line_comes rule of setup i.built text at n reader.at here next octets said (comes_line text e) says_so
    line.after in
    let forward : at < reader.at = c.in-Line.ensures.forward refl in
    let same : g.S.Shelf.held c.next_line.new.shelf ≡ held = c.in-Line.ensures.same ∙ i.same in
    record {
      built = line.setup ∙ i.built;
      clock = c.clock_after-now.ensures ∙ ap (λ (k : ℕ). line_clock k said) i.clock
          ∙ sym (happens_clock rule of here said) ∙ ap (λ (s : Speaker). s.clock) (sym line.after);
      room = search rules;
      number = omega (arith, i.number, forward);
      within = c.in-Line.ensures.within;
      ahead = subst (λ (h : Option Files). IsReadAhead h name reader) same c.in-Line.ensures.ahead;
      same = same;
      gathered = λ text e.
          gathered_line g.K.Sink.took g.K.Sink.faults c.args.sink.now c.lines.sink c.play_line.new.sink
          (c.args.page.now ++ text_to_come setup (coming rule setup text 0 1 (g.H.Host.speaker c.args.host)))
          c.lines.page c.play_line.new.page (output_lines outputs)
          (text_to_come setup (coming rule setup text at n here))
          (text_to_come setup (coming rule setup text reader.at (n + 1) next))
          (text_onto setup outputs (coming rule setup text at n here) (coming rule setup text reader.at (n + 1) next)
          (comes text e))
          (i.gathered text e) line.gathered;
      ending = λ text e. sym (ap (λ (x : Coming). x.ending) (comes text e)) ∙ i.ending text e;
      missing = λ m. absurd (is_held m);
      quiet_shelf = c.in-Line.ensures.quiet (λ e. cc) ∙ i.quiet_shelf;
      quiet_sink = line.gathered.quiet ∙ i.quiet_sink;
    }

use Rattle.std.proofs.Common.{rules, map, refl, sym, subst}
use Rattle.std.specs.Prelude.{string_bytes}
use Rattle.xb_io.specs.Causes.{TookFront}
use Rattle.xbgp_top.specs.Answers.{Answer}
use Rattle.xbgp_top.specs.Top.{IsAnswered}
use Rattle.xbgp_top.proofs.TopLemmas.{answer-none, explains_command, explains_work, usage_written}
use Rattle.xbgp_top.proofs.entry.run.Goals as goal

pub returns-in-None-clause-exact : goal.returns-in-None-clause-exact
returns-in-None-clause-exact g c = λ files held no_read no_write memory.
    subst (λ (a : Answer). IsAnswered a (g.K.Sink.took c.args.sink.now) (g.K.Sink.took c.write_all.new.sink)
    c.write_all.result)
    (sym (answer-none (map string_bytes c.args.words.now) files (search rules)))
    (usage_written g.K.Sink.took g.K.Sink.faults _ _ c.write_all.result c.write_all.ensures.writes no_write memory)

pub returns-in-None-clause-front : goal.returns-in-None-clause-front
returns-in-None-clause-front g c = λ files held.
    subst (λ (a : Answer). TookFront (g.K.Sink.took c.args.sink.now) (g.K.Sink.took c.write_all.new.sink) a.text)
    (sym (answer-none (map string_bytes c.args.words.now) files (search rules)))
    c.write_all.ensures.writes.front

pub returns-in-Some-File-clause-exact : goal.returns-in-Some-File-clause-exact
returns-in-Some-File-clause-exact g c =
    (explains_command g.S.Shelf.held g.S.Shelf.faults g.K.Sink.took g.K.Sink.faults _ _ _ _
    c.ask_file.result (map string_bytes c.args.words.now) _ c.ask_file.ensures.explains (search rules)).exact

pub returns-in-Some-File-clause-front : goal.returns-in-Some-File-clause-front
returns-in-Some-File-clause-front g c =
    (explains_command g.S.Shelf.held g.S.Shelf.faults g.K.Sink.took g.K.Sink.faults _ _ _ _
    c.ask_file.result (map string_bytes c.args.words.now) _ c.ask_file.ensures.explains (search rules)).front

pub returns-in-Some-File-clause-read_cause : goal.returns-in-Some-File-clause-read_cause
returns-in-Some-File-clause-read_cause g c =
    (explains_command g.S.Shelf.held g.S.Shelf.faults g.K.Sink.took g.K.Sink.faults _ _ _ _
    c.ask_file.result (map string_bytes c.args.words.now) _ c.ask_file.ensures.explains (search rules)).read_cause

pub returns-in-Some-Check-clause-exact : goal.returns-in-Some-Check-clause-exact
returns-in-Some-Check-clause-exact g c =
    (explains_command g.S.Shelf.held g.S.Shelf.faults g.K.Sink.took g.K.Sink.faults _ _ _ _
    c.check_files.result (map string_bytes c.args.words.now) _ c.check_files.ensures.explains (search rules)).exact

pub returns-in-Some-Check-clause-front : goal.returns-in-Some-Check-clause-front
returns-in-Some-Check-clause-front g c =
    (explains_command g.S.Shelf.held g.S.Shelf.faults g.K.Sink.took g.K.Sink.faults _ _ _ _
    c.check_files.result (map string_bytes c.args.words.now) _ c.check_files.ensures.explains (search rules)).front

pub returns-in-Some-Check-clause-read_cause : goal.returns-in-Some-Check-clause-read_cause
returns-in-Some-Check-clause-read_cause g c =
    (explains_command g.S.Shelf.held g.S.Shelf.faults g.K.Sink.took g.K.Sink.faults _ _ _ _
    c.check_files.result (map string_bytes c.args.words.now) _ c.check_files.ensures.explains (search rules)).read_cause

pub returns-in-Some-Replay-clause-exact : goal.returns-in-Some-Replay-clause-exact
returns-in-Some-Replay-clause-exact g c =
    (explains_command g.S.Shelf.held g.S.Shelf.faults g.K.Sink.took g.K.Sink.faults _ _ _ _
    c.replay_files.result (map string_bytes c.args.words.now) _ c.replay_files.ensures.explains (search rules)).exact

pub returns-in-Some-Replay-clause-front : goal.returns-in-Some-Replay-clause-front
returns-in-Some-Replay-clause-front g c =
    (explains_command g.S.Shelf.held g.S.Shelf.faults g.K.Sink.took g.K.Sink.faults _ _ _ _
    c.replay_files.result (map string_bytes c.args.words.now) _ c.replay_files.ensures.explains (search rules)).front

pub returns-in-Some-Replay-clause-read_cause : goal.returns-in-Some-Replay-clause-read_cause
returns-in-Some-Replay-clause-read_cause g c =
    (explains_command g.S.Shelf.held g.S.Shelf.faults g.K.Sink.took g.K.Sink.faults _ _ _ _
    c.replay_files.result (map string_bytes c.args.words.now) _ c.replay_files.ensures.explains
    (search rules)).read_cause

pub returns-in-Some-Work-clause-exact : goal.returns-in-Some-Work-clause-exact
returns-in-Some-Work-clause-exact g c =
    (explains_command g.S.Shelf.held g.S.Shelf.faults g.K.Sink.took g.K.Sink.faults _ _ _ _ c.play_work.result
    (map string_bytes c.args.words.now) _
    (explains_work g.S.Shelf.held g.S.Shelf.faults g.K.Sink.took g.K.Sink.faults c.args.shelf.now c.args.shelf.now _ _
    c.play_work.result c.in-Some-Work.number c.in-Some-Work.count c.in-Some-Work.host refl refl (record {
      only = c.play_work.ensures.only;
      whole = c.play_work.ensures.whole;
      front = c.play_work.ensures.front;
      fault = c.play_work.ensures.fault;
      quiet = c.play_work.ensures.quiet;
      later = c.play_work.ensures.later;
    })) (search rules)).exact

pub returns-in-Some-Work-clause-front : goal.returns-in-Some-Work-clause-front
returns-in-Some-Work-clause-front g c =
    (explains_command g.S.Shelf.held g.S.Shelf.faults g.K.Sink.took g.K.Sink.faults _ _ _ _ c.play_work.result
    (map string_bytes c.args.words.now) _
    (explains_work g.S.Shelf.held g.S.Shelf.faults g.K.Sink.took g.K.Sink.faults c.args.shelf.now c.args.shelf.now _ _
    c.play_work.result c.in-Some-Work.number c.in-Some-Work.count c.in-Some-Work.host refl refl (record {
      only = c.play_work.ensures.only;
      whole = c.play_work.ensures.whole;
      front = c.play_work.ensures.front;
      fault = c.play_work.ensures.fault;
      quiet = c.play_work.ensures.quiet;
      later = c.play_work.ensures.later;
    })) (search rules)).front

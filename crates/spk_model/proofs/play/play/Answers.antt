use Rattle.std.proofs.Common.{◌∙◌, ◌++◌, [], length, ℕ, List, refl, sym, ap}
use Rattle.spk_model.specs.declared.host.Setup.{Setup}
use Rattle.spk_model.specs.Names.{names_of}
use Rattle.xb_io.specs.Causes.{with_text}
use Rattle.spk_model.specs.declared.stop.Stop.TheVariants.{OutOfMemory}
use Rattle.spk_model.specs.Turning.{Speaker}
use Rattle.spk_model.specs.Reports.{report}
use Rattle.spk_model.specs.Playing.{coming, text_to_come}
use Rattle.spk_model.specs.Ends.{ending_of, stop_of}
use Rattle.spk_model.proofs.PlayLemmas.{end_names, plays_ended, plays_stop, stopped_as, stopped_begin, stopped_end}
use Rattle.spk_model.proofs.PlayLemmas.{stopped_put}
use Rattle.spk_model.proofs.PlayLemmas.{whole_ending, whole_report, written_calm, written_whole}
use Rattle.spk_model.proofs.play.play.Goals as goal

pub returns-in_err-names : goal.returns-in_err-names
returns-in_err-names g c =
    plays_stop g.S.Shelf.held g.S.Shelf.faults g.K.Sink.took g.K.Sink.faults g.H.Host.RULE c.args.setup c.args.log.now
    _ _ _ _ OutOfMemory c.from_residual.result c.from_residual.ensures.1
    (stopped_begin g.S.Shelf.held g.S.Shelf.faults g.K.Sink.took g.K.Sink.faults c.args.shelf.now c.args.sink.now
    c.args.log.now [] (report g.H.Host.RULE c.args.setup))

pub returns-in_err-page : goal.returns-in_err-page
returns-in_err-page g c =
    plays_stop g.S.Shelf.held g.S.Shelf.faults g.K.Sink.took g.K.Sink.faults g.H.Host.RULE c.args.setup c.args.log.now
    _ _ _ _ OutOfMemory c.from_residual-in_err-page.result c.from_residual-in_err-page.ensures.1
    (stopped_begin g.S.Shelf.held g.S.Shelf.faults g.K.Sink.took g.K.Sink.faults c.args.shelf.now c.args.sink.now
    c.args.log.now [] (report g.H.Host.RULE c.args.setup))

pub returns-in_err-host : goal.returns-in_err-host
returns-in_err-host g c =
    plays_stop g.S.Shelf.held g.S.Shelf.faults g.K.Sink.took g.K.Sink.faults g.H.Host.RULE c.args.setup c.args.log.now
    _ _ _ _ OutOfMemory c.from_residual-in_err-host.result c.from_residual-in_err-host.ensures.1
    (stopped_begin g.S.Shelf.held g.S.Shelf.faults g.K.Sink.took g.K.Sink.faults c.args.shelf.now c.args.sink.now
    c.args.log.now [] (report g.H.Host.RULE c.args.setup))

pub play_lines-requires-clause-clock : goal.play_lines-requires-clause-clock
play_lines-requires-clause-clock g c = ap (λ (s : Speaker). s.clock) c.in_ok-host.ensures.speaker

pub returns-in_err-end : goal.returns-in_err-end
returns-in_err-end g c =
    let host = c.in_ok-host.host in
    let rule = g.H.Host.RULE in
    let setup = c.args.setup in
    let name = c.args.log.now in
    let built = g.H.Host.built_from host in
    let start = g.H.Host.speaker host in
    let whole : List ℕ → List ℕ = λ text. c.in_ok-page.page ++ text_to_come built (coming rule built text 0 1 start) in
    let stop = c.in_err-end.field-0.0 in
    plays_stop g.S.Shelf.held g.S.Shelf.faults g.K.Sink.took g.K.Sink.faults rule setup name _ _ _ _ stop
    c.from_residual-in_err-end.result c.from_residual-in_err-end.ensures.1
    (stopped_as g.S.Shelf.held g.S.Shelf.faults g.K.Sink.took g.K.Sink.faults _ _ _ _ name whole (report rule setup)
    stop (λ text. whole_report rule setup built start c.in_ok-page.page text c.in_ok-page.ensures
    c.in_ok-host.ensures.setup
    c.in_ok-host.ensures.speaker) c.in_err-end.ensures)

pub print_end-requires : goal.print_end-requires
print_end-requires g c =
    let host = c.in_ok-host.host in
    end_names g.H.Host.built_from (g.H.Host.built_from host) c.in_ok-names.names c.peers_of-peers.result c.in_ok-end.end
    (c.in_ok-names.ensures ∙ ap (λ (x : Setup). names_of x.manifest) (sym c.in_ok-host.ensures.setup))
    (c.peers_of-peers.ensures ∙ ap (λ (x : Setup). length (x.config).peers) (sym c.in_ok-host.ensures.setup))
    c.in_ok-end.ensures.built

pub returns-in_err-print_end : goal.returns-in_err-print_end
returns-in_err-print_end g c =
    let host = c.in_ok-host.host in
    let rule = g.H.Host.RULE in
    let setup = c.args.setup in
    let name = c.args.log.now in
    let built = g.H.Host.built_from host in
    let start = g.H.Host.speaker host in
    let whole : List ℕ → List ℕ = λ text. c.in_ok-page.page ++ text_to_come built (coming rule built text 0 1 start) in
    let halt = c.in_err-print_end.field-0.0 in
    plays_stop g.S.Shelf.held g.S.Shelf.faults g.K.Sink.took g.K.Sink.faults rule setup name _ _ _ _ (stop_of halt)
    c.from_residual-in_err-print_end.result
    c.from_residual-in_err-print_end.ensures.1
    (stopped_as g.S.Shelf.held g.S.Shelf.faults g.K.Sink.took g.K.Sink.faults _ _ _ _ name whole (report rule setup)
    (stop_of halt) (λ text. whole_report rule setup built start c.in_ok-page.page text c.in_ok-page.ensures
    c.in_ok-host.ensures.setup
    c.in_ok-host.ensures.speaker)
    (stopped_end rule g.H.Host.built_from g.H.Host.speaker host g.S.Shelf.held g.S.Shelf.faults g.K.Sink.took
    g.K.Sink.faults c.in_ok-end.end _ _ _ _ name c.in_ok-page.page
    c.play_lines.new.page c.in_ok-end.ensures c.print_end.new.sink halt c.in_err-print_end.ensures))

pub returns-in_err-put : goal.returns-in_err-put
returns-in_err-put g c =
    let host = c.in_ok-host.host in
    let rule = g.H.Host.RULE in
    let setup = c.args.setup in
    let name = c.args.log.now in
    let built = g.H.Host.built_from host in
    let start = g.H.Host.speaker host in
    let whole : List ℕ → List ℕ = λ text. c.in_ok-page.page ++ text_to_come built (coming rule built text 0 1 start) in
    let halt = c.in_err-put.field-0.0 in
    plays_stop g.S.Shelf.held g.S.Shelf.faults g.K.Sink.took g.K.Sink.faults rule setup name _ _ _ _ (stop_of halt)
    c.from_residual-in_err-put.result
    c.from_residual-in_err-put.ensures.1
    (stopped_as g.S.Shelf.held g.S.Shelf.faults g.K.Sink.took g.K.Sink.faults _ _ _ _ name whole (report rule setup)
    (stop_of halt) (λ text. whole_report rule setup built start c.in_ok-page.page text c.in_ok-page.ensures
    c.in_ok-host.ensures.setup
    c.in_ok-host.ensures.speaker)
    (stopped_put rule g.H.Host.built_from g.H.Host.speaker host g.S.Shelf.held g.S.Shelf.faults g.K.Sink.took
    g.K.Sink.faults c.in_ok-end.end _ _ _ _ name c.in_ok-page.page
    c.play_lines.new.page c.in_ok-end.ensures c.print_end.new.sink c.put.new.sink c.print_end.new.page
    c.in_ok-page.ensures
    c.in_ok-print_end.ensures halt c.in_err-put.ensures))

pub returns : goal.returns
returns g c =
    let host = c.in_ok-host.host in
    let rule = g.H.Host.RULE in
    let setup = c.args.setup in
    let name = c.args.log.now in
    let built = g.H.Host.built_from host in
    let start = g.H.Host.speaker host in
    let whole : List ℕ → List ℕ = λ text. c.in_ok-page.page ++ text_to_come built (coming rule built text 0 1 start) in
    plays_ended g.S.Shelf.held g.S.Shelf.faults g.K.Sink.took g.K.Sink.faults rule setup name c.args.shelf.now
    c.play_lines.new.shelf c.args.sink.now c.put.new.sink
    (ending_of c.in_ok-end.end) c.played_at.result c.played_at.ensures c.in_ok-end.ensures.is_held
    (λ text e. (
      whole_ending rule setup built start text c.in_ok-host.ensures.setup c.in_ok-host.ensures.speaker
          ∙ c.in_ok-end.ensures.ending text e,
      written_whole rule g.H.Host.built_from g.H.Host.speaker host g.S.Shelf.held g.S.Shelf.faults g.K.Sink.took
          g.K.Sink.faults c.in_ok-end.end _ _ _ _ name c.in_ok-page.page
          c.play_lines.new.page c.in_ok-end.ensures c.print_end.new.sink c.put.new.sink c.print_end.new.page
          c.in_ok-page.ensures
          c.in_ok-print_end.ensures c.in_ok-put.ensures text e
          ∙ ap (with_text (g.K.Sink.took c.args.sink.now))
          (whole_report rule setup built start [] text refl c.in_ok-host.ensures.setup c.in_ok-host.ensures.speaker),
    ))
    c.in_ok-end.ensures.quiet_shelf
    (written_calm rule g.H.Host.built_from g.H.Host.speaker host g.S.Shelf.held g.S.Shelf.faults g.K.Sink.took
    g.K.Sink.faults c.in_ok-end.end _ _ _ _ name c.in_ok-page.page
    c.play_lines.new.page c.in_ok-end.ensures c.print_end.new.sink c.put.new.sink c.print_end.new.page
    c.in_ok-page.ensures
    c.in_ok-print_end.ensures c.in_ok-put.ensures)
    c.in_ok-end.ensures.same

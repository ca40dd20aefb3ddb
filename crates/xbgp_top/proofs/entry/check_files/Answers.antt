use Rattle.xbgp_top.specs.Views.{text_view}
use Rattle.xbgp_top.proofs.TopLemmas.{explains_check}
use Rattle.xbgp_top.proofs.entry.check_files.Goals as goal

pub returns-clause-explains : goal.returns-clause-explains
returns-clause-explains g c =
    explains_check g.S.Shelf.held g.S.Shelf.faults g.K.Sink.took g.K.Sink.faults _ _ _ _ c.print_text.result
    c.args.config.now c.args.manifest.now (text_view c.check-text.result) c.check-text.ensures
    c.print_text.ensures.writes c.print_text.ensures.read

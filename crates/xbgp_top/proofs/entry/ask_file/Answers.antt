use Rattle.std.proofs.Common.{Ok, List, ℕ, sym, subst}
use Rattle.xbgp_top.specs.Answers.{input}
use Rattle.xbgp_top.specs.Inputs.{Obtains}
use Rattle.xbgp_top.specs.declared.status.File.TheVariants.{Input}
use Rattle.xbgp_top.proofs.TopLemmas.{explains_file, explains_unread}
use Rattle.xbgp_top.proofs.entry.ask_file.Goals as goal

pub returns-in-Ok-clause-explains : goal.returns-in-Ok-clause-explains
returns-in-Ok-clause-explains g c =
    let read : Obtains g.S.Shelf.held g.S.Shelf.faults c.args.shelf.now c.read_input.new.shelf
    (input Input c.args.name.now) (Ok c.deref.result.now) =
    subst (λ (s : List ℕ). Obtains g.S.Shelf.held g.S.Shelf.faults c.args.shelf.now c.read_input.new.shelf
    (input Input c.args.name.now) (Ok s)) (sym c.deref.ensures.value) c.in-Ok.ensures in
    explains_file g.S.Shelf.held g.S.Shelf.faults g.K.Sink.took g.K.Sink.faults _ _ _ _ c.print_job.result c.args.job
    c.args.name.now c.deref.result.now read c.print_job.ensures

pub returns-in-Err-clause-explains : goal.returns-in-Err-clause-explains
returns-in-Err-clause-explains g c =
    explains_unread g.S.Shelf.held g.S.Shelf.faults g.K.Sink.took g.K.Sink.faults _ _ _ _ c.refuse.result c.args.job
    c.args.name.now c.in-Err.status c.in-Err.ensures c.refuse.ensures.writes c.refuse.ensures.read

use Rattle.std.proofs.Common.{rules, ◌≡◌, ◌∷◌, ◌∙◌, ap}
use Rattle.xb_io.proofs.PageLemmas.{gathers_stopped}
use Rattle.xb_io.specs.declared.page.Halt.TheVariants.{OutOfMemory}
use Rattle.xbgp_top.specs.Answers.{heard_line, heard_lines}
use Rattle.spk_model.proofs.GatherLemmas.{stops_memory}
use Rattle.xbgp_top.proofs.OutputLemmas.{gathered_shown, stops_shown}
use Rattle.xbgp_top.proofs.hear.gather_table.Goals as goal

pub returns-in_err-write_entry : goal.returns-in_err-write_entry
returns-in_err-write_entry g c =
    gathers_stopped g.K.Sink.took g.K.Sink.faults _ _ c.args.page.now.octets c.entries.page.octets
    (heard_lines c.args.table.now) OutOfMemory _ c.from_residual-in_err-write_entry.ensures.1
    (stops_memory g.K.Sink.took g.K.Sink.faults _ _ _ _ _ c.entries.invariant)

pub returns-in_err-gather : goal.returns-in_err-gather
returns-in_err-gather g c =
    let item : c.entries.entries ≡ (c.in-Some.entry.0, c.in-Some.entry.1.now) ∷ c.next.new.self = search rules in
    gathers_stopped g.K.Sink.took g.K.Sink.faults _ _ c.args.page.now.octets c.gather.new.page.octets
    (heard_lines c.args.table.now) c.in_err-gather.field-0.0 _ c.from_residual-in_err-gather.ensures.1
    (stops_shown g.K.Sink.took g.K.Sink.faults _ _ _ _ _ c.as_slice.result.now
    (heard_line (c.in-Some.entry.0, c.in-Some.entry.1.now)) (heard_lines c.entries.entries)
    (heard_lines c.next.new.self) _
    (c.as_slice.ensures.value ∙ c.in_ok-write_entry.ensures) (ap heard_lines item) c.entries.invariant
    c.in_err-gather.ensures)

pub entries-preserved : goal.entries-preserved
entries-preserved g c =
    let item : c.entries.entries ≡ (c.in-Some.entry.0, c.in-Some.entry.1.now) ∷ c.next.new.self = search rules in
    gathered_shown g.K.Sink.took g.K.Sink.faults _ _ _ _ _ _ c.as_slice.result.now
    (heard_line (c.in-Some.entry.0, c.in-Some.entry.1.now)) (heard_lines c.entries.entries)
    (heard_lines c.next.new.self)
    (c.as_slice.ensures.value ∙ c.in_ok-write_entry.ensures) (ap heard_lines item) c.entries.invariant
    c.in_ok-gather.ensures

use Rattle.std.proofs.Common.{rules, ◌≡◌, ◌∷◌, ◌++◌, List, ℕ, Ok, sym, ◌∙◌, ap, subst}
use Rattle.xb_io.specs.Pages.{Gathered}
use Rattle.xb_io.specs.declared.page.Halt.TheVariants.{OutOfMemory}
use Rattle.xb_io.proofs.PageLemmas.{gathered_begin, gathers_stopped}
use Rattle.xbgp_top.specs.Answers.{judge_line, judge_lines}
use Rattle.bgp_attr.specs.Paths.{width_of}
use Rattle.bgp_update.specs.Views.{message_view}
use Rattle.xbgp_top.proofs.JudgeLemmas.{all_lines, lines_of}
use Rattle.spk_model.proofs.GatherLemmas.{stops_memory}
use Rattle.xbgp_top.proofs.OutputLemmas.{gathered_shown, stops_shown}
use Rattle.xbgp_top.proofs.judge.gather_verdicts.Goals as goal

pub messages-init : goal.messages-init
messages-init g c =
    subst (λ (l : List ℕ). Gathered g.K.Sink.took g.K.Sink.faults c.args.sink.now c.args.sink.now
    (c.args.page.now.octets ++ judge_lines (width_of c.args.wide) c.args.octets.now) c.args.page.now.octets l)
    (sym (all_lines (width_of c.args.wide) c.args.octets.now) ∙ ap (lines_of (width_of c.args.wide))
    (sym c.new-messages.ensures)) (gathered_begin g.K.Sink.took g.K.Sink.faults _ c.args.page.now.octets
    (judge_lines (width_of c.args.wide) c.args.octets.now))

pub returns-in_err-write_verdict : goal.returns-in_err-write_verdict
returns-in_err-write_verdict g c =
    gathers_stopped g.K.Sink.took g.K.Sink.faults _ _ c.args.page.now.octets c.messages.page.octets
    (judge_lines (width_of c.args.wide) c.args.octets.now) OutOfMemory _
    c.from_residual-in_err-write_verdict.ensures.1
    (stops_memory g.K.Sink.took g.K.Sink.faults _ _ _ _ _ c.messages.invariant)

pub returns-in_err-gather : goal.returns-in_err-gather
returns-in_err-gather g c =
    let item : c.messages.messages ≡ Ok (message_view c.in-Ok.message) ∷ c.next.new.self = search rules in
    gathers_stopped g.K.Sink.took g.K.Sink.faults _ _ c.args.page.now.octets c.gather.new.page.octets
    (judge_lines (width_of c.args.wide) c.args.octets.now) c.in_err-gather.field-0.0 _
    c.from_residual-in_err-gather.ensures.1
    (stops_shown g.K.Sink.took g.K.Sink.faults _ _ _ _ _ c.as_slice.result.now
    (judge_line (width_of c.args.wide) (message_view c.in-Ok.message))
    (lines_of (width_of c.args.wide) c.messages.messages) (lines_of (width_of c.args.wide) c.next.new.self) _
    (c.as_slice.ensures.value ∙ c.in_ok-write_verdict.ensures) (ap (lines_of (width_of c.args.wide)) item)
    c.messages.invariant c.in_err-gather.ensures)

pub messages-preserved : goal.messages-preserved
messages-preserved g c =
    let item : c.messages.messages ≡ Ok (message_view c.in-Ok.message) ∷ c.next.new.self = search rules in
    gathered_shown g.K.Sink.took g.K.Sink.faults _ _ _ _ _ _ c.as_slice.result.now
    (judge_line (width_of c.args.wide) (message_view c.in-Ok.message))
    (lines_of (width_of c.args.wide) c.messages.messages) (lines_of (width_of c.args.wide) c.next.new.self)
    (c.as_slice.ensures.value ∙ c.in_ok-write_verdict.ensures) (ap (lines_of (width_of c.args.wide)) item)
    c.messages.invariant c.in_ok-gather.ensures

use Rattle.std.proofs.Common.{[], ◌++◌, ◌∙◌, ◌<◌, Some, ap, sym, subst, flat_map, length}
use Rattle.xb_words.specs.Table.{entries_after}
use Rattle.xb_values.specs.Prefixes.{Prefix, prefix_cmp}
use Rattle.xb_io.specs.Pages.{Gathered, Stops}
use Rattle.table_print.specs.Lines.{adv_line}
use Rattle.spk_model.specs.Routing.{tables_of}
use Rattle.spk_model.specs.Reports.{adv_line_of, adv_lines_of}
use Rattle.spk_model.proofs.GatherLemmas.{gathered_line, gathers_no_line}
use Rattle.xb_values.proofs.PrefixLemmas.{prefix_total}
use Rattle.spk_model.proofs.PrintLemmas.{fewer_after, lines_after-some, shown_adv}
use Rattle.spk_model.proofs.report.print_advertised.Goals as goal

pub returns-in_err-adv-clause-lines : goal.returns-in_err-adv-clause-lines
returns-in_err-adv-clause-lines g c =
    let s = g.H.Host.speaker c.args.host.now in
    let adv = (tables_of s.routing c.args.peer).adv in
    let next = shown_adv adv c.args.peer c.prefixes.after c.in-Some.prefix c.prefixes.section c.adv_after.new.section
    c.in-Some.ensures.prefix c.in-Some.ensures.section in
    gathers_no_line g.K.Sink.took g.K.Sink.faults _ _ _ c.args.page.now (adv_lines_of s c.args.peer) _ c.adv.new.self
    (adv_line_of c.args.peer next.0)
    (flat_map (adv_line_of c.args.peer) (entries_after prefix_cmp adv c.prefixes.after))
    (flat_map (adv_line_of c.args.peer) (entries_after prefix_cmp adv (Some (next.0).0))) c.in_err-adv.field-0.0
    c.from_residual.result
    (lines_after-some prefix_cmp prefix_total (adv_line_of c.args.peer) adv c.prefixes.after next.0
    c.in-Some.ensures.rising next.1)
    c.from_residual.ensures.1 c.prefixes.invariant.lines
    (subst (λ l. Stops g.K.Sink.took g.K.Sink.faults c.prefixes.sink c.adv.new.sink (c.prefixes.page ++ l)
    c.in_err-adv.field-0.0)
    (ap (adv_line c.args.peer c.in-Some.prefix) c.as_slice.ensures.value ∙ next.3) c.in_err-adv.ensures)

pub prefixes-smaller : goal.prefixes-smaller
prefixes-smaller g c =
    let s = g.H.Host.speaker c.args.host.now in
    let adv = (tables_of s.routing c.args.peer).adv in
    let next = shown_adv adv c.args.peer c.prefixes.after c.in-Some.prefix c.prefixes.section c.adv_after.new.section
    c.in-Some.ensures.prefix c.in-Some.ensures.section in
    subst (λ (p : Prefix). length (entries_after prefix_cmp adv (Some p))
    < length (entries_after prefix_cmp adv c.prefixes.after))
    (sym next.2)
    (fewer_after prefix_cmp prefix_total (adv_line_of c.args.peer) adv c.prefixes.after next.0
    c.in-Some.ensures.rising next.1)

pub prefixes-preserved : goal.prefixes-preserved
prefixes-preserved g c =
    let s = g.H.Host.speaker c.args.host.now in
    let adv = (tables_of s.routing c.args.peer).adv in
    let next = shown_adv adv c.args.peer c.prefixes.after c.in-Some.prefix c.prefixes.section c.adv_after.new.section
    c.in-Some.ensures.prefix c.in-Some.ensures.section in
    record {
      room = next.4 ∙ c.prefixes.invariant.room;
      lines = gathered_line g.K.Sink.took g.K.Sink.faults _ _ _ _ _ _ (adv_line_of c.args.peer next.0)
          (flat_map (adv_line_of c.args.peer) (entries_after prefix_cmp adv c.prefixes.after))
          (flat_map (adv_line_of c.args.peer) (entries_after prefix_cmp adv (Some c.in-Some.prefix)))
          (lines_after-some prefix_cmp prefix_total (adv_line_of c.args.peer) adv c.prefixes.after next.0
          c.in-Some.ensures.rising next.1
          ∙ ap (λ (p : Prefix). adv_line_of c.args.peer next.0
          ++ flat_map (adv_line_of c.args.peer) (entries_after prefix_cmp adv (Some p)))
          (sym next.2))
          c.prefixes.invariant.lines
          (subst (λ l. Gathered g.K.Sink.took g.K.Sink.faults c.prefixes.sink c.adv.new.sink (c.prefixes.page ++ l)
          c.adv.new.self [])
          (ap (adv_line c.args.peer c.in-Some.prefix) c.as_slice.ensures.value ∙ next.3) c.in_ok-adv.ensures);
    }

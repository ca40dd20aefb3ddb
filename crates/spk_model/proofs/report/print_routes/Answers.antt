use Rattle.std.proofs.Common.{[], ◌++◌, ◌∙◌, ◌<◌, ◌≤◌, Some, ap, sym, subst, flat_map, length, ℕ}
use Rattle.xb_words.specs.Table.{entries_after}
use Rattle.xb_values.specs.Prefixes.{Prefix, prefix_cmp}
use Rattle.bgp_attr.specs.declared.TheConstants.{MAX_CANONICAL}
use Rattle.xb_io.specs.Pages.{Gathered, Stops}
use Rattle.table_print.specs.Lines.{route_line}
use Rattle.spk_model.specs.Reports.{route_line_of, route_lines}
use Rattle.spk_model.proofs.GatherLemmas.{gathered_line, gathers_no_line}
use Rattle.xb_values.proofs.PrefixLemmas.{prefix_total}
use Rattle.spk_model.proofs.PrintLemmas.{fewer_after, lines_after-some, shown_route}
use Rattle.spk_model.proofs.report.print_routes.Goals as goal

pub returns-in_err-route : goal.returns-in_err-route
returns-in_err-route g c =
    let s = g.H.Host.speaker c.args.host.now in
    let best = (s.routing).best in
    let next = shown_route best c.routes.after c.in-Some.best c.routes.section c.route_after.new.section
    c.in-Some.ensures.route
    c.in-Some.ensures.section in
    gathers_no_line g.K.Sink.took g.K.Sink.faults _ _ _ c.args.page.now (route_lines s) _ c.route.new.self
    (route_line_of next.0)
    (flat_map route_line_of (entries_after prefix_cmp best c.routes.after))
    (flat_map route_line_of (entries_after prefix_cmp best (Some (next.0).0))) c.in_err-route.field-0.0
    c.from_residual-in_err-route.result
    (lines_after-some prefix_cmp prefix_total route_line_of best c.routes.after next.0 c.in-Some.ensures.rising next.1)
    c.from_residual-in_err-route.ensures.1 c.routes.invariant.lines
    (subst (λ l. Stops g.K.Sink.took g.K.Sink.faults c.routes.sink c.route.new.sink (c.routes.page ++ l)
    c.in_err-route.field-0.0)
    (ap (route_line c.in-Some.best.0 c.in-Some.best.1) c.as_slice.ensures.value ∙ next.3) c.in_err-route.ensures)

pub routes-smaller : goal.routes-smaller
routes-smaller g c =
    let s = g.H.Host.speaker c.args.host.now in
    let best = (s.routing).best in
    let next = shown_route best c.routes.after c.in-Some.best c.routes.section c.route_after.new.section
    c.in-Some.ensures.route
    c.in-Some.ensures.section in
    subst (λ (p : Prefix). length (entries_after prefix_cmp best (Some p))
    < length (entries_after prefix_cmp best c.routes.after))
    (sym next.2)
    (fewer_after prefix_cmp prefix_total route_line_of best c.routes.after next.0 c.in-Some.ensures.rising next.1)

pub routes-preserved : goal.routes-preserved
routes-preserved g c =
    let s = g.H.Host.speaker c.args.host.now in
    let best = (s.routing).best in
    let next = shown_route best c.routes.after c.in-Some.best c.routes.section c.route_after.new.section
    c.in-Some.ensures.route
    c.in-Some.ensures.section in
    record {
      room = subst (λ (n : ℕ). MAX_CANONICAL ≤ n) (sym next.4) c.routes.invariant.room;
      lines = gathered_line g.K.Sink.took g.K.Sink.faults _ _ _ _ _ _ (route_line_of next.0)
          (flat_map route_line_of (entries_after prefix_cmp best c.routes.after))
          (flat_map route_line_of (entries_after prefix_cmp best (Some c.in-Some.best.0)))
          (lines_after-some prefix_cmp prefix_total route_line_of best c.routes.after next.0 c.in-Some.ensures.rising
          next.1
          ∙ ap (λ (p : Prefix). route_line_of next.0 ++ flat_map route_line_of (entries_after prefix_cmp best (Some p)))
          (sym next.2))
          c.routes.invariant.lines
          (subst (λ l. Gathered g.K.Sink.took g.K.Sink.faults c.routes.sink c.route.new.sink (c.routes.page ++ l)
          c.route.new.self [])
          (ap (route_line c.in-Some.best.0 c.in-Some.best.1) c.as_slice.ensures.value ∙ next.3) c.in_ok-route.ensures);
    }

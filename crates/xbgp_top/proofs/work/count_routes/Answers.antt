use Rattle.std.proofs.Common.{◌≡◌, ℕ, ◌+◌, ◌<◌, ◌≤◌, length, Some, sym, subst}
use Rattle.xb_words.specs.Table.{entries_after, entry_after}
use Rattle.xb_values.specs.Prefixes.{Prefix, prefix_cmp}
use Rattle.xb_values.proofs.PrefixLemmas.{prefix_total}
use Rattle.bgp_attr.specs.declared.TheConstants.{MAX_CANONICAL}
use Rattle.spk_model.specs.Reports.{route_line_of}
use Rattle.spk_model.proofs.PrintLemmas.{fewer_after, not_found, shown_route}
use Rattle.xbgp_top.specs.Summaries.{capped}
use Rattle.xbgp_top.proofs.WorkLemmas.{counted_last, counted_next, within_type}
use Rattle.xbgp_top.proofs.work.count_routes.Goals as goal

pub routes-smaller : goal.routes-smaller
routes-smaller g c =
    let best = ((g.H.Host.speaker c.args.host.now).routing).best in
    let next = shown_route best c.routes.after c.in-Some.best c.routes.section c.route_after.new.section
    c.in-Some.ensures.route c.in-Some.ensures.section in
    subst (λ (p : Prefix). length (entries_after prefix_cmp best (Some p))
    < length (entries_after prefix_cmp best c.routes.after))
    (sym next.2)
    (fewer_after prefix_cmp prefix_total route_line_of best c.routes.after next.0 c.in-Some.ensures.rising next.1)

pub routes-preserved : goal.routes-preserved
routes-preserved g c =
    let best = ((g.H.Host.speaker c.args.host.now).routing).best in
    let next = shown_route best c.routes.after c.in-Some.best c.routes.section c.route_after.new.section
    c.in-Some.ensures.route c.in-Some.ensures.section in
    record {
      room = subst (λ (n : ℕ). MAX_CANONICAL ≤ n) (sym next.4) c.routes.invariant.room;
      within = within_type (c.routes.count + 1) c.saturating_add-count.result c.saturating_add-count.ensures;
      count = subst (λ (p : Prefix). capped (c.saturating_add-count.result
          + length (entries_after prefix_cmp best (Some p))) ≡ capped (length best))
          (sym next.2)
          (counted_next prefix_cmp prefix_total best c.routes.after next.0 c.routes.count c.saturating_add-count.result
          c.in-Some.ensures.rising next.1 c.saturating_add-count.ensures c.routes.invariant.count);
    }

pub returns-clause-count : goal.returns-clause-count
returns-clause-count g c =
    let best = ((g.H.Host.speaker c.args.host.now).routing).best in
    counted_last prefix_cmp prefix_total best c.routes.after c.routes.count c.routes.invariant.within
    (not_found (λ e. (e.0, (e.1).source)) (entry_after prefix_cmp best c.routes.after)
    (sym c.in_default.ensures.route))
    c.routes.invariant.count

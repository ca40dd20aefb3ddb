use Rattle.std.proofs.Common.{◌≡◌, ℕ, ◌+◌, ◌<◌, ◌≤◌, length, Some, sym, subst}
use Rattle.xb_words.specs.Table.{entries_after, entry_after}
use Rattle.xb_values.specs.Prefixes.{Prefix, prefix_cmp}
use Rattle.xb_values.proofs.PrefixLemmas.{prefix_total}
use Rattle.bgp_attr.specs.declared.TheConstants.{MAX_CANONICAL}
use Rattle.spk_model.specs.Reports.{adv_line_of}
use Rattle.spk_model.specs.Routing.{tables_of}
use Rattle.spk_model.proofs.PrintLemmas.{fewer_after, not_found, shown_adv}
use Rattle.xbgp_top.specs.Summaries.{capped}
use Rattle.xbgp_top.proofs.WorkLemmas.{counted_last, counted_next, within_type}
use Rattle.xbgp_top.proofs.work.count_advertised.Goals as goal

pub prefixes-smaller : goal.prefixes-smaller
prefixes-smaller g c =
    let adv = (tables_of (g.H.Host.speaker c.args.host.now).routing c.args.peer).adv in
    let next = shown_adv adv c.args.peer c.prefixes.after c.in-Some.prefix c.prefixes.section c.adv_after.new.section
    c.in-Some.ensures.prefix c.in-Some.ensures.section in
    subst (λ (p : Prefix). length (entries_after prefix_cmp adv (Some p))
    < length (entries_after prefix_cmp adv c.prefixes.after))
    (sym next.2)
    (fewer_after prefix_cmp prefix_total (adv_line_of c.args.peer) adv c.prefixes.after next.0
    c.in-Some.ensures.rising next.1)

pub prefixes-preserved : goal.prefixes-preserved
prefixes-preserved g c =
    let adv = (tables_of (g.H.Host.speaker c.args.host.now).routing c.args.peer).adv in
    let next = shown_adv adv c.args.peer c.prefixes.after c.in-Some.prefix c.prefixes.section c.adv_after.new.section
    c.in-Some.ensures.prefix c.in-Some.ensures.section in
    record {
      room = subst (λ (n : ℕ). MAX_CANONICAL ≤ n) (sym next.4) c.prefixes.invariant.room;
      within = within_type (c.prefixes.count + 1) c.saturating_add-count.result c.saturating_add-count.ensures;
      count = subst (λ (p : Prefix). capped (c.saturating_add-count.result
          + length (entries_after prefix_cmp adv (Some p))) ≡ capped (length adv))
          (sym next.2)
          (counted_next prefix_cmp prefix_total adv c.prefixes.after next.0 c.prefixes.count
          c.saturating_add-count.result c.in-Some.ensures.rising next.1 c.saturating_add-count.ensures
          c.prefixes.invariant.count);
    }

pub returns-clause-count : goal.returns-clause-count
returns-clause-count g c =
    let adv = (tables_of (g.H.Host.speaker c.args.host.now).routing c.args.peer).adv in
    counted_last prefix_cmp prefix_total adv c.prefixes.after c.prefixes.count c.prefixes.invariant.within
    (not_found (λ e. e.0) (entry_after prefix_cmp adv c.prefixes.after) (sym c.in_default.ensures.prefix))
    c.prefixes.invariant.count

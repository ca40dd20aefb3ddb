use Rattle.std.proofs.Common.{◌≡◌, ◌+◌, ◌-◌, ◌^◌, ◌≤◌, length}
use Rattle.xb_words.specs.Table.{entries_after}
use Rattle.xb_values.specs.Prefixes.{prefix_cmp}
use Rattle.bgp_attr.specs.declared.TheConstants.{MAX_CANONICAL}
use Rattle.xbgp_top.specs.Summaries.{capped}
use Rattle.xbgp_top.proofs.work.count_routes.Given as goal

-- the routes so far and those after the last prefix
abbrev pub invariant-routes : goal.invariant-routes
invariant-routes g l =
    let best = ((g.H.Host.speaker l.host).routing).best in
    record {
      room : MAX_CANONICAL ≤ l.section.capacity;
      within : l.count ≤ 2 ^ 64 - 1;
      count : capped (l.count + length (entries_after prefix_cmp best l.after)) ≡ capped (length best);
    }

-- the routes after the last prefix
abbrev pub decreases-routes : goal.decreases-routes
decreases-routes g l = length (entries_after prefix_cmp ((g.H.Host.speaker l.host).routing).best l.after)

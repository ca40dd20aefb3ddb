use Rattle.std.proofs.Common.{◌≡◌, ◌+◌, ◌-◌, ◌^◌, ◌≤◌, length}
use Rattle.xb_words.specs.Table.{entries_after}
use Rattle.xb_values.specs.Prefixes.{prefix_cmp}
use Rattle.bgp_attr.specs.declared.TheConstants.{MAX_CANONICAL}
use Rattle.spk_model.specs.Routing.{tables_of}
use Rattle.xbgp_top.specs.Summaries.{capped}
use Rattle.xbgp_top.proofs.work.count_advertised.Given as goal

-- the prefixes so far and those after the last one
abbrev pub invariant-prefixes : goal.invariant-prefixes
invariant-prefixes g l =
    let adv = (tables_of (g.H.Host.speaker l.host).routing l.peer).adv in
    record {
      room : MAX_CANONICAL ≤ l.section.capacity;
      within : l.count ≤ 2 ^ 64 - 1;
      count : capped (l.count + length (entries_after prefix_cmp adv l.after)) ≡ capped (length adv);
    }

-- the prefixes after the last one
abbrev pub decreases-prefixes : goal.decreases-prefixes
decreases-prefixes g l =
    length (entries_after prefix_cmp (tables_of (g.H.Host.speaker l.host).routing l.peer).adv l.after)

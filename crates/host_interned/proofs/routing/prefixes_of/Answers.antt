use Rattle.std.proofs.Common.{Some}
use Rattle.std.specs.Map.{keys_of}
use Rattle.xb_words.specs.Table.{entries_after}
use Rattle.xb_values.specs.Prefixes.{prefix_cmp}
use Rattle.host_interned.proofs.WalkLemmas.{walked, walked_less, walked_all, key_then, keys_all}
use Rattle.host_interned.proofs.routing.prefixes_of.Goals as goal

pub prefixes-smaller : goal.prefixes-smaller
prefixes-smaller c =
    walked_less c.args.rib.now.best c.in-Some.ensures.rising c.prefixes.after c.in-Some.prefix c.in-Some.ensures.prefix

pub prefixes-preserved : goal.prefixes-preserved
prefixes-preserved c =
    key_then c.prefixes.prefixes.items c.push.new.self.items
    (keys_of (entries_after prefix_cmp c.args.rib.now.best c.prefixes.after))
    (keys_of (entries_after prefix_cmp c.args.rib.now.best (Some c.in-Some.prefix)))
    (keys_of c.args.rib.now.best) c.in-Some.prefix
    (walked c.args.rib.now.best c.in-Some.ensures.rising c.prefixes.after c.in-Some.prefix c.in-Some.ensures.prefix)
    c.in_ok-push.ensures.items c.prefixes.invariant

pub returns : goal.returns
returns c =
    keys_all c.prefixes.prefixes.items (keys_of (entries_after prefix_cmp c.args.rib.now.best c.prefixes.after))
    (keys_of c.args.rib.now.best)
    (walked_all c.args.rib.now.best c.in_default.ensures.rising c.prefixes.after c.in_default.ensures.prefix)
    c.prefixes.invariant

use Rattle.std.proofs.Common.{Some}
use Rattle.std.specs.Map.{keys_of}
use Rattle.xb_words.specs.Table.{entries_after, with_keys}
use Rattle.xb_values.specs.Prefixes.{prefix_cmp}
use Rattle.host_interned.proofs.WalkLemmas.{walked, walked_less, one_key}
use Rattle.host_interned.proofs.tables.add_told.Goals as goal

pub prefixes-smaller : goal.prefixes-smaller
prefixes-smaller c =
    walked_less c.args.out.now.adv c.in-Some.ensures.rising c.prefixes.after c.in-Some.prefix c.in-Some.ensures.prefix

pub prefixes-preserved : goal.prefixes-preserved
prefixes-preserved c =
    one_key c.prefixes.set c.add.new.self (keys_of (entries_after prefix_cmp c.args.out.now.adv c.prefixes.after))
    (keys_of (entries_after prefix_cmp c.args.out.now.adv (Some c.in-Some.prefix)))
    (with_keys prefix_cmp c.args.set.now (keys_of c.args.out.now.adv)) c.in-Some.prefix
    (walked c.args.out.now.adv c.in-Some.ensures.rising c.prefixes.after c.in-Some.prefix c.in-Some.ensures.prefix)
    c.in_ok-add.ensures.ok c.prefixes.invariant

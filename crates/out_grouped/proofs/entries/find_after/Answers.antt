use Rattle.std.proofs.Common.{rules, tests, is_some}
use Rattle.std.specs.BTreeMap.Range.{entries_between}
use Rattle.std.specs.declared.ops.Bound.TheVariants.{Excluded, Unbounded}
use Rattle.std.proofs.lemmas.Iterator.Consumers.{YieldsList-from_rest}
use Rattle.std.proofs.lemmas.Iterator.Search.{find_from_yields_List}
use Rattle.xb_values.specs.Prefixes.{prefix_cmp}
use Rattle.out_grouped.proofs.entries.find_after.Goals as goal

pub returns : goal.returns
returns c =
    find_from_yields_List (λ e. is_some e.1.adv) _ _ c.find.result c.find.ensures.ran
    (YieldsList-from_rest (entries_between prefix_cmp (Excluded c.args.prefix) Unbounded c.args.entries.now.entries)
    (c.range.ensures.between tt))
    (λ x b q k. search (rules, tests))

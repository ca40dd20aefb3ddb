use Rattle.std.proofs.Common.{rules, tests}
use Rattle.std.specs.BTreeMap.Range.{entries_between}
use Rattle.std.specs.declared.ops.Bound.TheVariants.{Included, Unbounded}
use Rattle.std.proofs.lemmas.Iterator.Consumers.{YieldsList-from_rest}
use Rattle.std.proofs.lemmas.Iterator.Search.{find_from_yields_List}
use Rattle.xb_values.specs.Prefixes.{prefix_cmp}
use Rattle.out_grouped.specs.Slots.{is_fresh}
use Rattle.out_grouped.proofs.entries.find_fresh.Goals as goal

pub returns : goal.returns
returns c =
    find_from_yields_List (λ e. is_fresh e.1) _ _ c.find.result c.find.ensures.ran
    (YieldsList-from_rest (entries_between prefix_cmp (Included c.args.from) Unbounded c.args.entries.now.entries)
    (c.range.ensures.between tt))
    (λ x b q k. search (rules, tests))

use Rattle.std.proofs.Common.{rules, tests, is_some}
use Rattle.std.proofs.lemmas.Iterator.Consumers.{YieldsList-from_rest}
use Rattle.std.proofs.lemmas.Iterator.Search.{find_from_yields_List}
use Rattle.out_grouped.proofs.entries.find_advertised.Goals as goal

pub returns : goal.returns
returns c =
    find_from_yields_List (λ e. is_some e.1.adv) _ _ c.find.result c.find.ensures.ran
    (YieldsList-from_rest c.args.entries.now.entries c.iter.ensures.rest)
    (λ x b q k. search (rules, tests))

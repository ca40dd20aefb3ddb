use Rattle.out_grouped.proofs.SlotLemmas.{adv_found}
use Rattle.out_grouped.proofs.entries.first_of.Goals as goal

pub returns : goal.returns
returns c =
    adv_found c.find_advertised.result c.args.entries.now.entries _ c.section_of_found.ensures c.find_advertised.ensures

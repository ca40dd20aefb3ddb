use Rattle.out_grouped.proofs.SlotLemmas.{adv_found_after}
use Rattle.out_grouped.proofs.entries.first_after.Goals as goal

pub returns : goal.returns
returns c =
    adv_found_after c.find_after.result c.args.entries.now.entries c.args.prefix _ c.section_of_found.ensures
    c.find_after.ensures

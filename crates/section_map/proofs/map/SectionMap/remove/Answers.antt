use Rattle.std.proofs.Common.{refl}
use Rattle.section_map.proofs.MapLemmas.{ChangesAt-removed}
use Rattle.section_map.proofs.map.SectionMap.remove.Goals as goal

pub returns : goal.returns
returns g c =
    ChangesAt-removed c.args.self.now _ c.remove_first.new.self c.args.section.now c.remove_first.ensures.rest
    c.remove_first.ensures.none c.remove_first.ensures.others refl c.remove.ensures.updates

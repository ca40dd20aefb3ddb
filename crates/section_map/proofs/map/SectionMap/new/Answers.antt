use Rattle.section_map.proofs.MapLemmas.{at_section-empty}
use Rattle.section_map.proofs.map.SectionMap.new.Goals as goal

pub returns : goal.returns
returns g c = at_section-empty _ c.new.ensures.empty c.new-2.ensures.empty

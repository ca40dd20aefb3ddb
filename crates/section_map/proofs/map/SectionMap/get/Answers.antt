use Rattle.std.proofs.Common.{is_some, sym, ap, ◌∙◌}
use Rattle.section_map.proofs.MapLemmas.{at_section-first, at_section-rest}
use Rattle.section_map.proofs.map.SectionMap.get.Goals as goal

pub returns-in-Some : goal.returns-in-Some
returns-in-Some g c =
    c.in-Some.ensures.value ∙ sym (at_section-rest c.args.self.now c.args.section.now (ap is_some (sym c.in-Some.ensures.value)))

pub returns : goal.returns
returns g c =
    c.first_value.ensures
    ∙ sym (at_section-first c.args.self.now c.args.section.now c.sum_of.result c.sum_of.ensures
    (sym c.in_default.ensures.value))

use Rattle.std.proofs.Common.{sym, ◌∙◌, ap}
use Rattle.std.specs.Option.{option_and_then}
use Rattle.out_sorted.specs.Slots.{Slot}
use Rattle.out_sorted.proofs.SlotLemmas.{section_of-none, section_of-slot}
use Rattle.out_sorted.proofs.entries.section_at.Goals as goal

pub returns-in-Some : goal.returns-in-Some
returns-in-Some c =
    c.section.ensures
    ∙ sym (section_of-slot c.args.entries.now.entries c.args.prefix c.in-Some.entry.now c.requires
    (sym c.in-Some.ensures.value))

pub returns-in-None : goal.returns-in-None
returns-in-None c =
    sym (section_of-none c.args.entries.now.entries c.args.prefix c.requires
    (ap (option_and_then (λ (s : Slot). s.adv)) (sym c.in-None.ensures.value)))

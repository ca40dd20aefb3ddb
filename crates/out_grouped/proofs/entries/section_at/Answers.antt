use Rattle.std.proofs.Common.{sym, ◌∙◌, ap}
use Rattle.out_grouped.specs.Slots.{Slot}
use Rattle.std.specs.Option.{option_and_then}
use Rattle.out_grouped.proofs.SlotLemmas.{section_of-some, section_of-none}
use Rattle.out_grouped.proofs.entries.section_at.Goals as goal

pub returns-in_default : goal.returns-in_default
returns-in_default c =
    sym (section_of-none c.args.entries.now.entries c.args.prefix c.requires
    (ap (option_and_then (λ (s : Slot). s.adv)) (sym c.in_default.ensures.value)))

pub returns-in-Some-adv : goal.returns-in-Some-adv
returns-in-Some-adv c =
    sym (section_of-some c.args.entries.now.entries c.args.prefix c.in-Some.entry.now c.in-Some-adv.section.now
    c.requires (sym c.in-Some.ensures.value) (sym c.in-Some-adv.ensures))

pub returns-in-None : goal.returns-in-None
returns-in-None c =
    sym (section_of-none c.args.entries.now.entries c.args.prefix c.requires
    (ap (option_and_then (λ (s : Slot). s.adv)) (sym c.in-Some.ensures.value) ∙ sym c.in-None.ensures))

use Rattle.std.proofs.Common.{Some, ◌∙◌, ap}
use Rattle.xb_words.specs.Table.{value_at, with_value}
use Rattle.xb_values.specs.Prefixes.{prefix_cmp}
use Rattle.out_sorted.specs.Told.{Told}
use Rattle.out_sorted.specs.Slots.{advertised, told_of}
use Rattle.out_sorted.proofs.ChangeLemmas.{advertised_is_slot, kept-with_slot, told_of-advertised}
use Rattle.out_sorted.proofs.table.SortedOut.set.Goals as goal

pub invariant_of-self-2 : goal.invariant_of-self-2
invariant_of-self-2 c =
    let es = c.self.inside.entries.entries in
    let old = value_at prefix_cmp es c.args.prefix in
    kept-with_slot c.self.inside.gone c.self.inside.fresh c.note.new.gone c.note.new.fresh es
    c.put.new.entries.entries c.args.prefix (Some (advertised old c.args.section.now)) c.in_ok-change.change
    (advertised_is_slot old c.args.section.now c.requires) c.self.invariant c.in_ok-change.ensures.change
    c.note.ensures.gone c.note.ensures.fresh c.in_ok-change.ensures.ok

pub returns-clause-ok : goal.returns-clause-ok
returns-clause-ok c =
    ap told_of c.in_ok-change.ensures.ok
    ∙ told_of-advertised c.self.inside.entries.entries c.args.prefix c.args.section.now c.self.invariant.sound.rising
    ∙ ap (λ (t : Told). record t { adv = with_value prefix_cmp t.adv c.args.prefix c.args.section.now }) c.self.view_is

use Rattle.std.proofs.Common.{◌∙◌, ap}
use Rattle.xb_words.specs.Table.{value_at, without}
use Rattle.xb_values.specs.Prefixes.{prefix_cmp}
use Rattle.out_sorted.specs.Told.{Told}
use Rattle.out_sorted.specs.Slots.{retracted, told_of}
use Rattle.out_sorted.proofs.ChangeLemmas.{kept-with_slot, retracted_is_slot, told_of-retracted}
use Rattle.out_sorted.proofs.table.SortedOut.unset.Goals as goal

pub invariant_of-self : goal.invariant_of-self
invariant_of-self c =
    let es = c.self.inside.entries.entries in
    let old = value_at prefix_cmp es c.args.prefix in
    let taken = c.take_back-change in
    kept-with_slot c.self.inside.gone c.self.inside.fresh c.note.new.gone c.note.new.fresh es taken.new.entries.entries
    c.args.prefix (retracted old) taken.result (retracted_is_slot old) c.self.invariant taken.ensures.change
    c.note.ensures.gone c.note.ensures.fresh taken.ensures.after

pub returns : goal.returns
returns c =
    ap told_of c.take_back-change.ensures.after
    ∙ told_of-retracted c.self.inside.entries.entries c.args.prefix c.self.invariant.sound.rising
    ∙ ap (λ (t : Told). record t { adv = without prefix_cmp t.adv c.args.prefix }) c.self.view_is

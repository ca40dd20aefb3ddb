use Rattle.std.proofs.Common.{refl, ap, ◌∙◌}
use Rattle.xb_words.specs.Table.{value_at, without}
use Rattle.xb_values.specs.Prefixes.{prefix_cmp}
use Rattle.out_grouped.specs.Told.{Told}
use Rattle.out_grouped.specs.Slots.{told_of}
use Rattle.out_grouped.proofs.ChangeLemmas.{kept-taken_back, told_of-taken_back}
use Rattle.out_grouped.proofs.table.GroupedOut.unset.Goals as goal

pub invariant_of-self : goal.invariant_of-self
invariant_of-self c =
    let w = c.withdraw_later-turn in
    kept-taken_back c.self.inside.gone c.self.inside.fresh c.follow.new.gone c.follow.new.fresh c.self.inside.groups
    w.new.groups c.self.inside.entries.entries w.new.entries.entries c.args.prefix w.result c.self.invariant
    w.ensures.after w.ensures.before w.ensures.due c.follow.ensures.gone c.follow.ensures.fresh w.ensures.groups

pub returns : goal.returns
returns c =
    let es = c.self.inside.entries.entries in
    ap told_of c.withdraw_later-turn.ensures.after
    ∙ told_of-taken_back es c.args.prefix (value_at prefix_cmp es c.args.prefix) c.self.invariant.sound.rising refl
    ∙ ap (λ (t : Told). record t { adv = without prefix_cmp t.adv c.args.prefix }) c.self.view_is

use Rattle.std.proofs.Common.{ap, ◌∙◌}
use Rattle.xb_words.specs.Table.{with_value}
use Rattle.xb_values.specs.Prefixes.{prefix_cmp}
use Rattle.out_grouped.specs.Told.{Told}
use Rattle.out_grouped.specs.Slots.{told_of}
use Rattle.out_grouped.proofs.ChangeLemmas.{kept-advertised, told_of-advertised}
use Rattle.out_grouped.proofs.table.GroupedOut.set.Goals as goal

pub invariant_of-self-2 : goal.invariant_of-self-2
invariant_of-self-2 c =
    let w = c.in_ok-turn.ensures in
    kept-advertised c.self.inside.gone c.self.inside.fresh c.follow.new.gone c.follow.new.fresh c.self.inside.groups
    c.advertise.new.groups c.self.inside.entries.entries c.advertise.new.entries.entries c.args.prefix
    c.args.section.now c.in_ok-turn.turn c.requires c.self.invariant w.ok w.before w.after c.follow.ensures.gone
    c.follow.ensures.fresh w.groups

pub returns-clause-ok : goal.returns-clause-ok
returns-clause-ok c =
    let p = c.args.prefix in
    let x = c.args.section.now in
    ap told_of c.in_ok-turn.ensures.ok
    ∙ told_of-advertised c.self.inside.entries.entries p x c.self.invariant.sound.rising
    ∙ ap (λ (t : Told). record t { adv = with_value prefix_cmp t.adv p x }) c.self.view_is

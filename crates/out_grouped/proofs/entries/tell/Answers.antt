use Rattle.std.proofs.Common.{◌≡◌, Some, sym, ◌∙◌, ap}
use Rattle.xb_words.specs.Table.{value_at, with_value}
use Rattle.xb_values.specs.Prefixes.{prefix_cmp}
use Rattle.out_grouped.specs.Slots.{retold}
use Rattle.out_grouped.proofs.SlotLemmas.{set_value-with_value}
use Rattle.out_grouped.proofs.entries.tell.Goals as goal

pub returns-in-Some : goal.returns-in-Some
returns-in-Some c =
    let es = c.args.entries.now.entries in
    let p = c.args.prefix in
    let there : value_at prefix_cmp es p ≡ Some c.in-Some.entry.now = sym c.in-Some.ensures.value in
    (c.get_mut.follows.holds c.tell.new.self).0
    ∙ set_value-with_value es p c.in-Some.entry.now c.tell.new.self c.get_mut.ensures.ordered there
    ∙ ap (with_value prefix_cmp es p) c.tell.ensures ∙ ap (retold es p) (sym there)

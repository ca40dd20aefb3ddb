use Rattle.std.proofs.Common.{sym, ◌∙◌}
use Rattle.xb_values.specs.Prefixes.{prefix_cmp}
use Rattle.rib_tree.proofs.PageLemmas as page
use Rattle.rib_tree.proofs.page.take_out.Goals as goal

pub remove_at-requires : goal.remove_at-requires
remove_at-requires g c =
    page.there_within prefix_cmp c.args.key c.args.entries.now.items c.place-at.result
    (sym (rw c.deref-2.ensures.value at c.is_at.ensures) ∙ c.if-is_at.true)

pub returns-then-is_at-clause-value : goal.returns-then-is_at-clause-value
returns-then-is_at-clause-value g c =
    page.there_value c.args.key c.args.entries.now.items c.place-at.result
    (rw c.deref.ensures.value at c.place-at.ensures.place) c.remove_at.result c.requires
    (sym (rw c.deref-2.ensures.value at c.is_at.ensures) ∙ c.if-is_at.true) c.remove_at.ensures.value

pub returns-then-is_at-clause-after : goal.returns-then-is_at-clause-after
returns-then-is_at-clause-after g c =
    c.remove_at.ensures.after ∙ page.there_without c.args.key c.args.entries.now.items c.place-at.result
    (rw c.deref.ensures.value at c.place-at.ensures.place)
    (sym (rw c.deref-2.ensures.value at c.is_at.ensures) ∙ c.if-is_at.true)

pub returns-else-is_at-clause-value : goal.returns-else-is_at-clause-value
returns-else-is_at-clause-value g c =
    sym (page.absent_value c.args.key c.args.entries.now.items c.place-at.result
    (rw c.deref.ensures.value at c.place-at.ensures.place) c.requires
    (sym (rw c.deref-2.ensures.value at c.is_at.ensures) ∙ c.if-is_at.false))

pub returns-else-is_at-clause-after : goal.returns-else-is_at-clause-after
returns-else-is_at-clause-after g c =
    page.absent_without c.args.key c.args.entries.now.items c.place-at.result
    (rw c.deref.ensures.value at c.place-at.ensures.place) c.requires
    (sym (rw c.deref-2.ensures.value at c.is_at.ensures) ∙ c.if-is_at.false)

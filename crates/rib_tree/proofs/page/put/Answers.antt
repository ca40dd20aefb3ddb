use Rattle.std.proofs.Common.{sym, ◌∙◌}
use Rattle.xb_values.specs.Prefixes.{prefix_cmp}
use Rattle.rib_tree.proofs.PageLemmas as page
use Rattle.rib_tree.proofs.page.put.Goals as goal

pub replace-requires : goal.replace-requires
replace-requires g c =
    page.there_within prefix_cmp c.args.key c.args.entries.now.items c.place-at.result
    (sym (rw c.deref-2.ensures.value at c.is_at.ensures) ∙ c.if-is_at.true)

pub returns-then-is_at-clause-ok : goal.returns-then-is_at-clause-ok
returns-then-is_at-clause-ok g c =
    c.replace.ensures.after ∙ page.there_with c.args.key c.args.entries.now.items c.place-at.result
    (rw c.deref.ensures.value at c.place-at.ensures.place) c.args.value
    (sym (rw c.deref-2.ensures.value at c.is_at.ensures) ∙ c.if-is_at.true)

pub returns-then-is_at-clause-old : goal.returns-then-is_at-clause-old
returns-then-is_at-clause-old g c =
    page.there_value c.args.key c.args.entries.now.items c.place-at.result
    (rw c.deref.ensures.value at c.place-at.ensures.place) c.replace.result c.requires
    (sym (rw c.deref-2.ensures.value at c.is_at.ensures) ∙ c.if-is_at.true) c.replace.ensures.value

pub returns-in-Ok-clause-ok : goal.returns-in-Ok-clause-ok
returns-in-Ok-clause-ok g c =
    c.in-Ok.ensures.ok ∙ page.absent_with c.args.key c.args.entries.now.items c.place-at.result
    (rw c.deref.ensures.value at c.place-at.ensures.place) c.args.value
    (sym (rw c.deref-2.ensures.value at c.is_at.ensures) ∙ c.if-is_at.false)

pub returns-in-Ok-clause-old : goal.returns-in-Ok-clause-old
returns-in-Ok-clause-old g c =
    sym (page.absent_value c.args.key c.args.entries.now.items c.place-at.result
    (rw c.deref.ensures.value at c.place-at.ensures.place) c.requires
    (sym (rw c.deref-2.ensures.value at c.is_at.ensures) ∙ c.if-is_at.false))

pub returns-in-Err-clause-absent : goal.returns-in-Err-clause-absent
returns-in-Err-clause-absent g c =
    page.absent_value c.args.key c.args.entries.now.items c.place-at.result
    (rw c.deref.ensures.value at c.place-at.ensures.place) c.requires
    (sym (rw c.deref-2.ensures.value at c.is_at.ensures) ∙ c.if-is_at.false)

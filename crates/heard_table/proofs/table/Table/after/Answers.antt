use Rattle.std.proofs.Common.{◌≡◌, ◌∙◌, ap, drop, refl, rules, subst}
use Rattle.std.specs.Ordering.{is_le}
use Rattle.std.proofs.lemmas.List.Sorted.{IsPartitionPoint-from_clause}
use Rattle.xb_words.specs.Table.{IsRising, entries_after, first_of}
use Rattle.xb_values.specs.Prefixes.{Sections, prefix_cmp}
use Rattle.heard_table.specs.Changes.{settled}
use Rattle.heard_table.proofs.SettledLemmas.{IsPartitionedBy-prefix, IsRising-settled, entries_after-settled}
use Rattle.heard_table.proofs.SettledLemmas.{first_of-next}
use Rattle.heard_table.proofs.table.Table.after.Goals.{in-None, in-Some}
use Rattle.heard_table.proofs.table.Table.after.Goals as goal

pub returns-clause-rising : goal.returns-clause-rising
returns-clause-rising c =
    subst (λ (t : Sections). IsRising prefix_cmp t) c.self.view_is
    (IsRising-settled c.self.inside.parts.items c.self.inside.changes.items c.self.invariant)

pub returns-clause-entry : goal.returns-clause-entry
returns-clause-entry c =
    let parts = c.self.inside.parts.items in
    let changes = c.self.inside.changes.items in
    let left : settled parts (drop c.match-after.first changes)
    ≡ entries_after prefix_cmp (settled parts changes) c.args.after = elim c.match-after.branch [
      | in-None w ↦ rw (w.first-is, w.in-None.is) refl
      | in-Some w ↦ rw (w.first-is, w.in-Some.is) (
          entries_after-settled parts w.in-Some.prefix changes w.partition_point-first.result
          (IsPartitionPoint-from_clause (λ d. is_le (prefix_cmp d.prefix w.in-Some.prefix)) changes
          w.partition_point-first.result (rw w.deref.ensures.value at w.partition_point-first.ensures.partitioned)
          (IsPartitionedBy-prefix w.in-Some.prefix changes c.self.invariant) (λ a r q k. search rules))
          )
    ] in
    first_of-next (λ e. (e.0, e.1.now)) _ _ c.next.result c.next.ensures.entry c.next.ensures.end
    ∙ ap first_of
    (rw (c.split_at.ensures.back, c.as_slice-2.ensures.value, c.as_slice.ensures.value, ← c.self.view_is) left)

use Rattle.std.proofs.Common.{◌∙◌, length}
use Rattle.heard_table.proofs.SettledLemmas.{settled-sorted}
use Rattle.heard_table.proofs.table.Table.settle.Goals as goal

pub returns : goal.returns
returns c =
    settled-sorted c.changes.inside.parts.items (length c.changes.inside.parts.items) c.changes.inside.list.items
    c.sort_unstable.new.self.items c.changes.invariant c.sort_unstable.ensures.permutation
    c.sort_unstable.ensures.sorted
    ∙ c.changes.view_is

use Rattle.std.proofs.Common.{subst}
use Rattle.xb_words.specs.Table.{IsRising}
use Rattle.xb_values.specs.Prefixes.{Sections, prefix_cmp}
use Rattle.heard_table.proofs.SettledLemmas.{IsRising-settled}
use Rattle.heard_table.proofs.table.Table.entries.Goals as goal

pub returns-clause-rising : goal.returns-clause-rising
returns-clause-rising c =
    subst (λ (t : Sections). IsRising prefix_cmp t) c.self.view_is
    (IsRising-settled c.self.inside.parts.items c.self.inside.changes.items c.self.invariant)

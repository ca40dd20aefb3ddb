use Rattle.std.proofs.Common.{sym, ap, ◌∙◌, length, subst}
use Rattle.slab.proofs.SlabLemmas.{length-entries}
use Rattle.attr_intern.specs.Pools.{ArePooled}
use Rattle.attr_intern.proofs.KeptLemmas.{ArePooled-entries}
use Rattle.attr_intern.proofs.pool.Pool.live.Goals as goal

pub returns-clause-count : goal.returns-clause-count
returns-clause-count c = c.len.ensures ∙ sym (length-entries c.self.inside.shared) ∙ ap length c.self.view_is

pub returns-clause-pooled : goal.returns-clause-pooled
returns-clause-pooled c =
    subst ArePooled c.self.view_is (ArePooled-entries c.self.inside.shared c.self.inside.ids c.self.invariant.0)

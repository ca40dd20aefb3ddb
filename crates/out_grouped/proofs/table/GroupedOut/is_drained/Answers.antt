use Rattle.std.proofs.Common.{◌≡◌, [], ◌↔◌, IsTrue, subst}
use Rattle.bgp_write.specs.Pending.{pending}
use Rattle.out_grouped.specs.Told.{Told}
use Rattle.out_grouped.proofs.PendingLemmas.{pending-searched, pending-found}
use Rattle.out_grouped.proofs.table.GroupedOut.is_drained.Goals as goal

pub returns-then-is_none : goal.returns-then-is_none
returns-then-is_none c =
    subst (λ (t : Told). IsTrue c.is_none-then-is_none.result ↔ (pending t.adv t.told ≡ [])) c.self.view_is
    (pending-searched c.self.inside.entries.entries c.first_gone.result c.first_fresh.result
    c.is_none-then-is_none.result c.self.invariant.sound c.if-is_none.ensures c.first_gone.ensures
    c.first_fresh.ensures c.is_none-then-is_none.ensures)

pub returns-else-is_none : goal.returns-else-is_none
returns-else-is_none c =
    subst (λ (t : Told). IsTrue c.is_none.result ↔ (pending t.adv t.told ≡ [])) c.self.view_is
    (pending-found c.self.inside.entries.entries c.first_gone.result c.is_none.result c.self.invariant.sound
    c.if-is_none.ensures c.first_gone.ensures c.if-is_none.false)

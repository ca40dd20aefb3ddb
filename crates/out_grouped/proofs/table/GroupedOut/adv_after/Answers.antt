use Rattle.std.proofs.Common.{Some, None, subst}
use Rattle.xb_words.specs.Table.{IsRising}
use Rattle.xb_values.specs.Prefixes.{prefix_cmp}
use Rattle.out_grouped.specs.Told.{Told}
use Rattle.out_grouped.proofs.NextLemmas.{lent-short}
use Rattle.out_grouped.proofs.SlotLemmas.{IsRising-part}
use Rattle.out_grouped.proofs.table.GroupedOut.adv_after.Goals as goal

pub returns-in-None-clause-rising : goal.returns-in-None-clause-rising
returns-in-None-clause-rising c =
    subst (λ (t : Told). IsRising prefix_cmp t.adv) c.self.view_is
    (IsRising-part (λ s. s.adv) c.self.inside.entries.entries c.self.invariant.sound.rising)

pub returns-in-Some-clause-rising : goal.returns-in-Some-clause-rising
returns-in-Some-clause-rising c =
    subst (λ (t : Told). IsRising prefix_cmp t.adv) c.self.view_is
    (IsRising-part (λ s. s.adv) c.self.inside.entries.entries c.self.invariant.sound.rising)

pub returns-in-None-clause-short : goal.returns-in-None-clause-short
returns-in-None-clause-short c =
    lent-short (λ s. s.now) c.self.inside.entries.entries None _ c.self.invariant.sound c.first_of.ensures

pub returns-in-Some-clause-short : goal.returns-in-Some-clause-short
returns-in-Some-clause-short c =
    lent-short (λ s. s.now) c.self.inside.entries.entries (Some c.in-Some.prefix) _ c.self.invariant.sound
    c.first_after.ensures

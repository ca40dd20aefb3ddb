use Rattle.std.proofs.Common.{[], List, Some, None, refl, is_some, sym, ◌∙◌, ap, subst}
use Rattle.xb_values.specs.Prefixes.{Prefix}
use Rattle.bgp_write.specs.Pending.{section_of}
use Rattle.bgp_write.specs.Written.{Replaces}
use Rattle.out_grouped.specs.Told.{Told, written_after}
use Rattle.out_grouped.specs.Slots.{adv_in, told_in}
use Rattle.out_grouped.specs.Waits.{Has}
use Rattle.out_grouped.specs.Sending.{announcement_from, withdrawal_from}
use Rattle.out_grouped.proofs.PendingLemmas.{form-gone, form-fresh, form-none}
use Rattle.out_grouped.proofs.NextLemmas.{fewer-pending, form-seen, pending-formed, pending-drained}
use Rattle.out_grouped.proofs.NextLemmas.{told_of-formed}
use Rattle.out_grouped.proofs.SendingLemmas.{fresh-kept, with-kept}
use Rattle.out_grouped.proofs.table.GroupedOut.next_message.Goals as goal

pub invariant_of-self : goal.invariant_of-self
invariant_of-self c =
    let es = c.self.inside.entries.entries in
    let new = c.withdraw.new.entries.entries in
    let w = c.withdraw.ensures in
    record {
      sound = w.keeps.sound;
      gone = w.waits;
      fresh = subst (λ (ps : List Prefix). Has c.self.inside.fresh ps) (sym (fresh-kept es new w.keeps))
          c.self.invariant.fresh;
      groups = λ s. c.self.invariant.groups s ∙ sym (with-kept s es new w.keeps);
    }

pub returns-in-Some : goal.returns-in-Some
returns-in-Some c =
    let es = c.self.inside.entries.entries in
    let t = c.args.self.now in
    let p = c.in-Some.prefix in
    let first = sym c.in-Some.ensures.first in
    let f = withdrawal_from [] es in
    let formed = form-seen es t (Some f) c.self.view_is (form-gone es p c.self.invariant.sound first) in
    let w = c.withdraw in
    record {
      formed = sym (ap is_some formed);
      none = pending-formed es t f c.self.invariant.sound c.self.view_is formed;
      told = told_of-formed w.new.entries.entries t (Some f) f.told
          (w.ensures.keeps.adv ∙ ap (λ (u : Told). u.adv) c.self.view_is) w.ensures.told refl formed;
      written = subst (λ o. Replaces c.args.out.now w.new.out (written_after o c.args.out.now.octets)) (sym formed)
          w.ensures.written;
      less = fewer-pending es w.new.entries.entries t f c.self.invariant.sound c.self.view_is formed
          (w.ensures.keeps.adv ∙ ap (λ (u : Told). u.adv) c.self.view_is) w.ensures.told;
      message = w.ensures.message;
    }

pub returns-in_default-next_fresh : goal.returns-in_default-next_fresh
returns-in_default-next_fresh c =
    let es = c.self.inside.entries.entries in
    let t = c.args.self.now in
    let gone = sym c.in_default.ensures.first in
    let fresh = sym c.in_default-next_fresh.ensures.first in
    let formed = form-seen es t None c.self.view_is (form-none es c.self.invariant.sound gone fresh) in
    record {
      formed = sym (ap is_some formed);
      none = pending-drained es t c.self.invariant.sound c.self.view_is gone fresh;
      told = told_of-formed es t None (told_in es) (ap (λ (u : Told). u.adv) c.self.view_is) refl
          (ap (λ (u : Told). u.told) c.self.view_is) formed;
      written = subst (λ o. Replaces c.args.out.now c.args.out.now (written_after o c.args.out.now.octets)) (sym formed)
          refl;
      less = tt;
      message = tt;
    }

pub invariant_of-self-2 : goal.invariant_of-self-2
invariant_of-self-2 c =
    let w = c.announce.ensures in
    record {
      sound = w.sound;
      gone = subst (λ (ps : List Prefix). Has c.next_gone.new.gone ps) (sym w.gone)
          c.in_default.ensures.waits;
      fresh = w.waits;
      groups = w.groups;
    }

pub returns : goal.returns
returns c =
    let es = c.self.inside.entries.entries in
    let t = c.args.self.now in
    let p = c.in-Some-next_fresh.prefix in
    let gone = sym c.in_default.ensures.first in
    let first = sym c.in-Some-next_fresh.ensures.first in
    let f = announcement_from (section_of (adv_in es) p) [] es in
    let formed = form-seen es t (Some f) c.self.view_is (form-fresh es p c.self.invariant.sound gone first) in
    let w = c.announce in
    record {
      formed = sym (ap is_some formed);
      none = pending-formed es t f c.self.invariant.sound c.self.view_is formed;
      told = told_of-formed w.new.entries.entries t (Some f) f.told
          (w.ensures.adv ∙ ap (λ (u : Told). u.adv) c.self.view_is) w.ensures.told refl formed;
      written = subst (λ o. Replaces c.args.out.now w.new.out (written_after o c.args.out.now.octets)) (sym formed)
          w.ensures.written;
      less = fewer-pending es w.new.entries.entries t f c.self.invariant.sound c.self.view_is formed
          (w.ensures.adv ∙ ap (λ (u : Told). u.adv) c.self.view_is) w.ensures.told;
      message = w.ensures.message;
    }

use Rattle.std.proofs.Common.{sym, ◌∙◌, ap}
use Rattle.std.specs.Str.{bytes_eq}
use Rattle.std.proofs.lemmas.Bool.{false≢true}
use Rattle.bgp_write.specs.Packers.{packed_so_far}
use Rattle.bgp_write.specs.Packings.{Packed}
use Rattle.bgp_write.specs.Pending.{section_of}
use Rattle.out_sorted.specs.Slots.{adv_in}
use Rattle.out_sorted.specs.Sending.{formed_by}
use Rattle.out_sorted.proofs.SendingLemmas.{keeps-retold, has-retold, fewer-retold, fresh_is_advertised}
use Rattle.out_sorted.proofs.SendingLemmas.{more_announced}
use Rattle.out_sorted.proofs.SendingLemmas.{shape-announcing, announcement_from-all, announcement_from-full}
use Rattle.out_sorted.proofs.SendingLemmas.{announcement_from-other}
use Rattle.out_sorted.proofs.entries.pack_announcement.Goals as goal

pub returns-clause-formed : goal.returns-clause-formed
returns-clause-formed c =
    let i = c.prefixes.invariant in
    let s = section_of (adv_in c.args.entries.now.entries) c.args.first in
    sym (announcement_from-all c.prefixes.entries.entries s (packed_so_far c.prefixes.packer) i.shape
    (sym c.in_default.ensures.first)) ∙ i.whole

pub returns-then-not-is_with-clause-formed : goal.returns-then-not-is_with-clause-formed
returns-then-not-is_with-clause-formed c =
    let i = c.prefixes.invariant in
    let es = c.prefixes.entries.entries in
    let first = c.args.first in
    let s = section_of (adv_in c.args.entries.now.entries) first in
    let left = c.in-Some.left in
    let other = ap (λ a. bytes_eq (section_of (adv_in es) left) (section_of a first)) (sym i.keeps.adv)
    ∙ sym c.is_with.ensures ∙ c.if-not-is_with.true in
    sym (announcement_from-other es left s (packed_so_far c.prefixes.packer) i.shape i.keeps.sound.rising
    (sym c.in-Some.ensures.first) other) ∙ i.whole

pub returns-then-not-push-clause-formed : goal.returns-then-not-push-clause-formed
returns-then-not-push-clause-formed c =
    let i = c.prefixes.invariant in
    let es = c.prefixes.entries.entries in
    let s = section_of (adv_in c.args.entries.now.entries) c.args.first in
    ap (λ (x : Packed). formed_by x es) c.if-not-push.ensures.after
    ∙ sym (announcement_from-full es c.in-Some.left s (packed_so_far c.prefixes.packer) i.shape
    (sym c.in-Some.ensures.first)
    (λ short. false≢true (sym c.if-not-push.true ∙ c.push.ensures.fits.1 short)))
    ∙ i.whole

pub tell-requires : goal.tell-requires
tell-requires c =
    fresh_is_advertised c.prefixes.entries.entries c.in-Some.left c.prefixes.invariant.keeps.sound.rising
    (sym c.in-Some.ensures.first)

pub prefixes-smaller : goal.prefixes-smaller
prefixes-smaller c =
    fewer-retold c.prefixes.entries.entries c.tell.new.entries.entries c.in-Some.left
    c.prefixes.invariant.keeps.sound.rising (sym c.in-Some.ensures.first) c.tell.ensures

pub prefixes-preserved : goal.prefixes-preserved
prefixes-preserved c =
    let i = c.prefixes.invariant in
    let old = c.args.entries.now.entries in
    let es = c.prefixes.entries.entries in
    let new = c.tell.new.entries.entries in
    let first = c.args.first in
    let s = section_of (adv_in old) first in
    let left = c.in-Some.left in
    let is = sym c.in-Some.ensures.first in
    let packed = packed_so_far c.prefixes.packer in
    let after = packed_so_far c.push.new.self in
    let goes = ap (λ a. bytes_eq (section_of (adv_in es) left) (section_of a first)) (sym i.keeps.adv)
    ∙ sym c.is_with.ensures ∙ c.if-not-is_with.false in
    record {
      keeps = keeps-retold old es new left i.keeps is c.tell.ensures;
      waits = has-retold c.next_fresh.new.fresh c.remove_first.new.self es new left i.keeps.sound.rising is
          c.in-Some.ensures.waits c.remove_first.ensures c.tell.ensures;
      shape = shape-announcing packed after s left i.shape c.if-not-push.ensures.after;
      whole = more_announced es new left s packed after _ i.keeps.sound.rising is i.shape i.whole goes
          (c.push.ensures.fits.0 c.if-not-push.false) c.if-not-push.ensures.after c.tell.ensures;
      same_reference = c.push.ensures.same_reference ∙ i.same_reference;
      capacity = c.push.ensures.capacity ∙ i.capacity;
    }

use Rattle.std.proofs.Common.{◌≡◌, ◌≤◌, List, ℕ, None, Some, sym, ◌∙◌, ap, subst, length, is_some, IfSome, IsTrue, rules}
use Rattle.xb_words.specs.Table.{value_at, with_value}
use Rattle.xb_values.specs.Prefixes.{prefix_cmp}
use Rattle.xb_wire.specs.declared.numbers.TheConstants.{MAX_SECTION}
use Rattle.bgp_write.specs.Packers.{packed_so_far}
use Rattle.bgp_write.specs.Packings.{announcing, packed_message}
use Rattle.bgp_write.specs.Pending.{Formed}
use Rattle.out_sorted.specs.Slots.{Slot, Slots, is_gone, retold}
use Rattle.out_sorted.proofs.SlotLemmas.{section_of-slot, set_value-with_value}
use Rattle.out_sorted.proofs.SendingLemmas.{begun, first-fresh, fresh_is_advertised, has-retold, keeps-then}
use Rattle.out_sorted.proofs.SendingLemmas.{section-short}
use Rattle.out_sorted.proofs.entries.announce.Goals as goal

pub returns-in_default : goal.returns-in_default
returns-in_default c =
    let f = first-fresh c.args.entries.now.entries c.args.first c.requires.sound.rising (sym c.requires.first) in
    let never : None ≡ Some f.0 = c.in_default.ensures.value ∙ f.2 in
    absurd (cc never)

pub announce-packer-requires-clause-section : goal.announce-packer-requires-clause-section
announce-packer-requires-clause-section c =
    let es = c.args.entries.now.entries in
    let p = c.args.first in
    subst (λ (s : List ℕ). length s ≤ MAX_SECTION)
    (section_of-slot es p c.in-Some.entry.now c.requires.sound.rising (sym c.in-Some.ensures.value)
    ∙ sym c.section.ensures)
    (section-short es p c.requires.sound (sym c.requires.first))

pub tell-requires : goal.tell-requires
tell-requires c =
    subst (λ o. IfSome o (λ (s : Slot). IsTrue (is_some s.adv))) (sym c.in-Some.ensures.value)
    (fresh_is_advertised c.args.entries.now.entries c.args.first c.requires.sound.rising (sym c.requires.first))

pub pack_announcement-requires : goal.pack_announcement-requires
pack_announcement-requires c =
    let es = c.args.entries.now.entries in
    let p = c.args.first in
    let there : value_at prefix_cmp es p ≡ Some c.in-Some.entry.now = sym c.in-Some.ensures.value in
    let is = sym c.requires.first in
    let new : Slots = (c.get_mut.follows.lender c.tell.new.self).entries in
    let done : new ≡ retold es p (value_at prefix_cmp es p) = (c.get_mut.follows.holds c.tell.new.self).0
    ∙ set_value-with_value es p c.in-Some.entry.now c.tell.new.self c.get_mut.ensures.ordered there
    ∙ ap (with_value prefix_cmp es p) c.tell.ensures ∙ ap (retold es p) (sym there) in
    let empty = c.announce-packer.ensures.empty ∙ ap announcing (c.section.ensures
    ∙ sym (section_of-slot es p c.in-Some.entry.now c.requires.sound.rising there)) in
    let first = begun es new p (packed_so_far c.announce-packer.result) (packed_so_far c.push.new.self) c.push.result
    c.requires.sound is empty c.push.ensures.fits.1 c.push.ensures.after done in
    record {
      sound = first.keeps.sound;
      waits = has-retold c.args.fresh.now c.remove_first.new.self es new p c.requires.sound.rising is c.requires.waits
          c.remove_first.ensures done;
      packer = first.shape;
    }

pub returns : goal.returns
returns c =
    let es = c.args.entries.now.entries in
    let p = c.args.first in
    let there : value_at prefix_cmp es p ≡ Some c.in-Some.entry.now = sym c.in-Some.ensures.value in
    let new : Slots = (c.get_mut.follows.lender c.tell.new.self).entries in
    let done : new ≡ retold es p (value_at prefix_cmp es p) = (c.get_mut.follows.holds c.tell.new.self).0
    ∙ set_value-with_value es p c.in-Some.entry.now c.tell.new.self c.get_mut.ensures.ordered there
    ∙ ap (with_value prefix_cmp es p) c.tell.ensures ∙ ap (retold es p) (sym there) in
    let empty = c.announce-packer.ensures.empty ∙ ap announcing (c.section.ensures
    ∙ sym (section_of-slot es p c.in-Some.entry.now c.requires.sound.rising there)) in
    let first = begun es new p (packed_so_far c.announce-packer.result) (packed_so_far c.push.new.self) c.push.result
    c.requires.sound (sym c.requires.first) empty c.push.ensures.fits.1 c.push.ensures.after done in
    let last = c.pack_announcement.new in
    let formed = c.pack_announcement.ensures.formed ∙ first.whole in
    record {
      keeps = keeps-then is_gone es new last.entries.entries first.keeps c.pack_announcement.ensures.keeps;
      waits = c.pack_announcement.ensures.waits;
      told = ap (λ (f : Formed). f.told) formed;
      written = ◌∙◌ {b = record c.args.out.now { octets = packed_message (packed_so_far last.packer) }} (search rules)
          (ap (λ (f : Formed). record c.args.out.now { octets = f.message }) formed);
      message = search rules;
    }

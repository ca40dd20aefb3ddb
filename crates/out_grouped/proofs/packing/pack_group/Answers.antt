use Rattle.std.proofs.Common.{◌≡◌, ◌<◌, List, ◌∷◌, Option, Some, None, refl, sym, ◌∙◌, ap, subst, length, arith}
use Rattle.std.specs.Option.{IfSome, IsSome}
use Rattle.std.proofs.lemmas.Bool.{false≢true}
use Rattle.xb_words.specs.Table.{first_of}
use Rattle.xb_values.specs.Prefixes.{Prefix}
use Rattle.bgp_write.specs.Packers.{packed_so_far}
use Rattle.bgp_write.specs.Packings.{Packed, announcing}
use Rattle.out_grouped.specs.Slots.{is_fresh, keys_where, waits_with}
use Rattle.out_grouped.specs.Waits.{Has}
use Rattle.out_grouped.specs.Sending.{announcement_from, formed_by}
use Rattle.out_grouped.proofs.PendingLemmas.{no_first}
use Rattle.out_grouped.proofs.SendingLemmas.{announcement_from-all, announcement_from-full, fresh-retold, keeps-itself}
use Rattle.out_grouped.proofs.SendingLemmas.{keeps-retold, keys-retold, more_announced, shape-announcing}
use Rattle.out_grouped.proofs.SendingLemmas.{with_is_advertised}
use Rattle.out_grouped.proofs.packing.pack_group.Goals as goal

-- a group without its first prefix
popped : (first : Option Prefix) (ks new rest : List Prefix) (p : Prefix) → (0 < length ks → IsSome first)
    → IfSome first (λ k. ks ≡ k ∷ new) → ks ≡ p ∷ rest → new ≡ rest
popped None ks new rest p some removal is = absurd (false≢true (some (omega (arith, ap length is))))
popped (Some k) ks new rest p some removal is = cc (removal, is)

pub prefixes-init : goal.prefixes-init
prefixes-init c =
    let es = c.args.entries.now.entries in
    let s = (packed_so_far c.args.packer.now).section in
    record {
      keeps = keeps-itself (waits_with s) es c.requires.sound;
      waits = c.requires.waits;
      group = c.requires.group;
      shape = c.requires.packer
          ∙ ap (λ l. record (announcing s) { prefixes = l }) (sym (ap (λ (x : Packed). x.prefixes) c.requires.packer));
      whole = ap (λ (x : Packed). announcement_from s x.prefixes es) c.requires.packer;
      same_reference = refl;
      capacity = refl;
    }

pub tell-requires : goal.tell-requires
tell-requires c =
    let i = c.prefixes.invariant in
    let s = (packed_so_far c.args.packer.now).section in
    let first = ap (λ (l : List Prefix). first_of l) (sym i.group) ∙ sym c.in-Some.ensures in
    with_is_advertised s c.prefixes.entries.entries c.in-Some.prefix i.keeps.sound.rising first

pub returns-then-not-push : goal.returns-then-not-push
returns-then-not-push c =
    let i = c.prefixes.invariant in
    let es = c.prefixes.entries.entries in
    let s = (packed_so_far c.args.packer.now).section in
    let first = ap (λ (l : List Prefix). first_of l) (sym i.group) ∙ sym c.in-Some.ensures in
    let packed = packed_so_far c.prefixes.packer in
    record {
      keeps = i.keeps;
      waits = i.waits;
      group = i.group;
      formed =
          ap (λ (x : Packed). formed_by x es) c.if-not-push.ensures.after
          ∙ sym (announcement_from-full es c.in-Some.prefix s packed i.shape first
          (λ short. false≢true (sym c.if-not-push.true ∙ c.push.ensures.fits.1 short)))
          ∙ i.whole;
      same_reference = c.push.ensures.same_reference ∙ i.same_reference;
      capacity = c.push.ensures.capacity ∙ i.capacity;
    }

pub prefixes-smaller : goal.prefixes-smaller
prefixes-smaller c =
    let i = c.prefixes.invariant in
    let es = c.prefixes.entries.entries in
    let new = c.tell.new.entries.entries in
    let s = (packed_so_far c.args.packer.now).section in
    let p = c.in-Some.prefix in
    let first = ap (λ (l : List Prefix). first_of l) (sym i.group) ∙ sym c.in-Some.ensures in
    let keys = i.group ∙ keys-retold s es new p i.keeps.sound.rising first c.tell.ensures in
    let before = ap length keys in
    let after = ap length (popped c.pop_first.result c.prefixes.group.keys c.pop_first.new.self.keys _ p
    c.pop_first.ensures.variant.1 c.pop_first.ensures.removal keys) in
    omega (arith, before, after)

pub prefixes-preserved : goal.prefixes-preserved
prefixes-preserved c =
    let i = c.prefixes.invariant in
    let old = c.args.entries.now.entries in
    let es = c.prefixes.entries.entries in
    let new = c.tell.new.entries.entries in
    let s = (packed_so_far c.args.packer.now).section in
    let p = c.in-Some.prefix in
    let first = ap (λ (l : List Prefix). first_of l) (sym i.group) ∙ sym c.in-Some.ensures in
    let packed = packed_so_far c.prefixes.packer in
    let after = packed_so_far c.push.new.self in
    record {
      keeps = keeps-retold s old es new p i.keeps first c.tell.ensures;
      waits = subst (λ (ps : List Prefix). Has c.set.new.self ps)
          (sym (fresh-retold s es new p i.keeps.sound.rising first c.tell.ensures))
          (c.set.ensures (keys_where is_fresh es) i.waits);
      group = popped c.pop_first.result c.prefixes.group.keys c.pop_first.new.self.keys _ p
          c.pop_first.ensures.variant.1 c.pop_first.ensures.removal
          (i.group ∙ keys-retold s es new p i.keeps.sound.rising first c.tell.ensures);
      shape = shape-announcing packed after s p i.shape c.if-not-push.ensures.after;
      whole = more_announced old es new p s packed after i.keeps first i.shape i.whole
          (c.push.ensures.fits.0 c.if-not-push.false) c.if-not-push.ensures.after c.tell.ensures;
      same_reference = c.push.ensures.same_reference ∙ i.same_reference;
      capacity = c.push.ensures.capacity ∙ i.capacity;
    }

pub returns : goal.returns
returns c =
    let i = c.prefixes.invariant in
    let es = c.prefixes.entries.entries in
    let s = (packed_so_far c.args.packer.now).section in
    let packed = packed_so_far c.prefixes.packer in
    let none = sym i.group ∙ no_first c.prefixes.group.keys (sym c.in_default.ensures) in
    record {
      keeps = i.keeps;
      waits = i.waits;
      group = i.group;
      formed = sym (announcement_from-all es s packed i.shape none) ∙ i.whole;
      same_reference = i.same_reference;
      capacity = i.capacity;
    }

use Rattle.std.proofs.Common.{◌≡◌, Option, Some, None, sym, ◌∙◌, ap}
use Rattle.xb_words.specs.Table.{value_at, with_value, without}
use Rattle.xb_words.proofs.TableLemmas.{without-absent}
use Rattle.xb_values.specs.Prefixes.{prefix_cmp}
use Rattle.out_sorted.specs.Slots.{Slot, change_of, retracted, waits_of, with_slot}
use Rattle.out_sorted.specs.declared.waiting.Waits.{Waits}
use Rattle.out_sorted.proofs.SlotLemmas.{set_value-same, set_value-with_value, told_alone-none, told_alone-told}
use Rattle.out_sorted.proofs.entries.take_back.Goals as goal

change_by : (before after : Waits) (old new : Option Slot) → before ≡ waits_of old → after ≡ waits_of new
    → record { before = before; after = after } ≡ change_of old new
change_by before after old new was is =
    ap (λ (w : Waits). record { before = w; after = after }) was
    ∙ ap (λ (w : Waits). record { before = waits_of old; after = w }) is

pub returns-in_default-clause-after : goal.returns-in_default-clause-after
returns-in_default-clause-after c =
    let es = c.args.entries.now.entries in
    let p = c.args.prefix in
    let there : None ≡ value_at prefix_cmp es p = c.in_default.ensures.value in
    rw c.get_mut.follows.holds-at-none
    (sym (without-absent prefix_cmp es p (sym there)) ∙ ap (λ o. with_slot es p (retracted o)) there)

pub returns-then-is_told : goal.returns-then-is_told
returns-then-is_told c =
    let es = c.args.entries.now.entries in
    let p = c.args.prefix in
    let slot : Slot = c.in-Some.entry.now in
    let there : Some slot ≡ value_at prefix_cmp es p = c.in-Some.ensures.value in
    let left = told_alone-told slot.told (sym c.is_told.ensures ∙ c.if-is_told.true) in
    record {
      after = (c.get_mut.follows.holds c.unset.new.self).0
          ∙ set_value-with_value es p slot c.unset.new.self c.get_mut.ensures.ordered (sym there)
          ∙ ap (with_value prefix_cmp es p) c.unset.ensures
          ∙ ap (with_slot es p) (left ∙ ap retracted there);
      change = change_by _ _ _ _ (c.waits-before.ensures ∙ ap waits_of there)
          (c.to_withdraw.ensures ∙ ap waits_of (left ∙ ap retracted there));
    }

pub returns : goal.returns
returns c =
    let es = c.args.entries.now.entries in
    let p = c.args.prefix in
    let slot : Slot = c.in-Some.entry.now in
    let there : Some slot ≡ value_at prefix_cmp es p = c.in-Some.ensures.value in
    let left = told_alone-none slot.told (sym c.is_told.ensures ∙ c.if-is_told.false) in
    record {
      after = c.forget.ensures
          ∙ ap (λ l. without prefix_cmp l p)
          ((c.get_mut.follows.holds slot).0 ∙ set_value-same es p slot c.get_mut.ensures.ordered (sym there))
          ∙ ap (with_slot es p) (left ∙ ap retracted there);
      change = change_by _ _ _ _ (c.waits-before.ensures ∙ ap waits_of there)
          (c.none-2.ensures ∙ ap waits_of (left ∙ ap retracted there));
    }

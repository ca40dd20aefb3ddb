-- What a change of what is advertised does to the slots.
use Rattle.std.proofs.Common.{◌≡◌, ◌≤◌, Bool, List, ℕ, Option, Some, None, refl, sym, ◌∙◌, ap, subst, length, IfSome}
use Rattle.std.specs.Option.{option_and_then}
use Rattle.xb_words.specs.Table.{value_at, with_value, without, IsRising}
use Rattle.xb_words.proofs.TableLemmas.{AllByRecursion-with_value, AllByRecursion-without, IsRising-with_value}
use Rattle.xb_words.proofs.TableLemmas.{IsRising-without}
use Rattle.xb_values.specs.Prefixes.{Prefix, prefix_cmp}
use Rattle.xb_values.proofs.PrefixLemmas.{prefix_total}
use Rattle.xb_wire.specs.declared.numbers.TheConstants.{MAX_SECTION}
use Rattle.out_sorted.specs.Told.{Told}
use Rattle.out_sorted.specs.Slots.{Slot, Slots, IsSlot, IsSound, IsKept, adv_in, told_of, advertised, keys_where}
use Rattle.out_sorted.specs.Slots.{change_of, is_gone, is_fresh, passes, retracted, told_alone, with_slot}
use Rattle.out_sorted.specs.Waits.{Has, with_change}
use Rattle.out_sorted.specs.declared.waiting.Change.{Change}
use Rattle.out_sorted.specs.declared.waiting.Waiting.{Waiting}
use Rattle.out_sorted.proofs.SlotLemmas.{part-with_slot, part-with_slot-same, written, keys_where-with_slot}

pub told_by : (a b : Told) → a.adv ≡ b.adv → a.told ≡ b.told → a ≡ b
told_by a b adv told = ap (λ x. record { adv = x; told = a.told }) adv ∙ ap (λ x. record { adv = b.adv; told = x }) told

-- another section is advertised, or none, and the same is told
told_of-with_slot : (es : Slots) (p : Prefix) (o : Option Slot) (a : Option (List ℕ)) → IsRising prefix_cmp es
    → option_and_then (λ (s : Slot). s.adv) o ≡ a
    → option_and_then (λ (s : Slot). s.told) (value_at prefix_cmp es p) ≡ option_and_then (λ (s : Slot). s.told) o
    → told_of (with_slot es p o) ≡ record (told_of es) { adv = written (adv_in es) p a }
told_of-with_slot es p o a rising adv told =
    told_by _ _ (part-with_slot (λ s. s.adv) es p o rising ∙ ap (written (adv_in es) p) adv)
    (part-with_slot-same (λ s. s.told) es p o rising told)

-- a section is advertised
adv-advertised : (o : Option Slot) (x : List ℕ) → (advertised o x).adv ≡ Some x
adv-advertised None x = refl
adv-advertised (Some s) x = refl

told-advertised : (o : Option Slot) (x : List ℕ) → option_and_then (λ (s : Slot). s.told) o ≡ (advertised o x).told
told-advertised None x = refl
told-advertised (Some s) x = refl

pub told_of-advertised : (es : Slots) (p : Prefix) (x : List ℕ) → IsRising prefix_cmp es
    → told_of (with_slot es p (Some (advertised (value_at prefix_cmp es p) x)))
    ≡ record (told_of es) { adv = with_value prefix_cmp (adv_in es) p x }
told_of-advertised es p x rising =
    let old = value_at prefix_cmp es p in
    told_of-with_slot es p (Some (advertised old x)) (Some x) rising (adv-advertised old x) (told-advertised old x)

pub advertised_is_slot : (o : Option Slot) (x : List ℕ) → length x ≤ MAX_SECTION
    → (q : Prefix) → IsSlot (q, advertised o x)
advertised_is_slot None x short q = record { some = refl; short = short }
advertised_is_slot (Some s) x short q = record { some = refl; short = short }

-- a prefix is advertised no longer
adv-told_alone : (t : Option (List ℕ)) → option_and_then (λ (s : Slot). s.adv) (told_alone t) ≡ None
adv-told_alone None = refl
adv-told_alone (Some t) = refl

told-told_alone : (t : Option (List ℕ)) → t ≡ option_and_then (λ (s : Slot). s.told) (told_alone t)
told-told_alone None = refl
told-told_alone (Some t) = refl

adv-retracted : (o : Option Slot) → option_and_then (λ (s : Slot). s.adv) (retracted o) ≡ None
adv-retracted None = refl
adv-retracted (Some s) = adv-told_alone s.told

told-retracted : (o : Option Slot)
    → option_and_then (λ (s : Slot). s.told) o ≡ option_and_then (λ (s : Slot). s.told) (retracted o)
told-retracted None = refl
told-retracted (Some s) = told-told_alone s.told

pub told_of-retracted : (es : Slots) (p : Prefix) → IsRising prefix_cmp es
    → told_of (with_slot es p (retracted (value_at prefix_cmp es p)))
    ≡ record (told_of es) { adv = without prefix_cmp (adv_in es) p }
told_of-retracted es p rising =
    let old = value_at prefix_cmp es p in
    told_of-with_slot es p (retracted old) None rising (adv-retracted old) (told-retracted old)

told_alone_is_slot : (t : Option (List ℕ)) → IfSome (told_alone t) (λ s. (q : Prefix) → IsSlot (q, s))
told_alone_is_slot None = tt
told_alone_is_slot (Some t) = λ q. record { some = refl; short = tt }

pub retracted_is_slot : (o : Option Slot) → IfSome (retracted o) (λ s. (q : Prefix) → IsSlot (q, s))
retracted_is_slot None = tt
retracted_is_slot (Some s) = told_alone_is_slot s.told

-- the slots stay sound
pub written_is_sound : (es : Slots) (p : Prefix) (s : Slot) → IsSound es → ((q : Prefix) → IsSlot (q, s))
    → IsSound (with_value prefix_cmp es p s)
written_is_sound es p s sound new = record {
  rising = IsRising-with_value prefix_cmp prefix_total es p s sound.rising;
  slots = AllByRecursion-with_value prefix_cmp IsSlot es p s (new p) (λ e _ _. new e.0) sound.slots;
}

pub without_is_sound : (es : Slots) (p : Prefix) → IsSound es → IsSound (without prefix_cmp es p)
without_is_sound es p sound = record {
  rising = IsRising-without prefix_cmp prefix_total es p sound.rising;
  slots = AllByRecursion-without prefix_cmp IsSlot es p sound.slots;
}

with_slot_is_sound : (es : Slots) (p : Prefix) (o : Option Slot) → IsSound es
    → IfSome o (λ s. (q : Prefix) → IsSlot (q, s)) → IsSound (with_slot es p o)
with_slot_is_sound es p None sound new = without_is_sound es p sound
with_slot_is_sound es p (Some s) sound new = written_is_sound es p s sound new

-- and the prefixes that wait are kept
pub kept-with_slot : (gone fresh gone_after fresh_after : Waiting) (es new : Slots) (p : Prefix) (o : Option Slot)
    (change : Change) → IfSome o (λ s. (q : Prefix) → IsSlot (q, s)) → IsKept gone fresh es
    → change ≡ change_of (value_at prefix_cmp es p) o
    → ((ps : List Prefix) → Has gone ps → Has gone_after (with_change ps p change.before.gone change.after.gone))
    → ((ps : List Prefix) → Has fresh ps → Has fresh_after (with_change ps p change.before.fresh change.after.fresh))
    → new ≡ with_slot es p o → IsKept gone_after fresh_after new
kept-with_slot gone fresh gone_after fresh_after es new p o change slot kept said on_gone on_fresh is =
    let keys : (test : Slot → Bool) → keys_where test (with_slot es p o)
    ≡ with_change (keys_where test es) p (passes test (value_at prefix_cmp es p)) (passes test o) =
    λ test. keys_where-with_slot test es p o _ _ kept.sound.rising refl refl in
    let all : IsKept gone_after fresh_after (with_slot es p o) = record {
      sound = with_slot_is_sound es p o kept.sound slot;
      gone = subst (Has gone_after)
          (ap (λ (c : Change). with_change (keys_where is_gone es) p c.before.gone c.after.gone) said
          ∙ sym (keys is_gone))
          (on_gone (keys_where is_gone es) kept.gone);
      fresh = subst (Has fresh_after)
          (ap (λ (c : Change). with_change (keys_where is_fresh es) p c.before.fresh c.after.fresh) said
          ∙ sym (keys is_fresh))
          (on_fresh (keys_where is_fresh es) kept.fresh);
    } in
    subst (λ (l : Slots). IsKept gone_after fresh_after l) (sym is) all

-- What is pending, and the message that is formed of it, by the slots.
use Rattle.std.proofs.Common.{◌≡◌, ℕ, ◌-◌, Bool, true, false, inl, inr, List, [], ◌∷◌, ◌++◌, Option, Some, None, refl}
use Rattle.std.proofs.Common.{sym, ◌∙◌, ap, filter, fold, is_some, is_none, not, ◌||◌, length, arith, flat_map}
use Rattle.std.proofs.Common.{take_while, ◌↔◌}
use Rattle.std.specs.List.{AllByRecursion}
use Rattle.std.specs.Map.{keys_of}
use Rattle.std.specs.Option.{option_and_then}
use Rattle.std.specs.Ordering.{ordering_reverse}
use Rattle.std.specs.declared.cmp.Ordering.TheVariants.{Less, Greater}
use Rattle.std.proofs.lemmas.Bool.{cases_Bool}
use Rattle.std.proofs.lemmas.Cmp.{tied_itself}
use Rattle.xb_words.specs.Table.{value_at, with_value, with_key, with_keys, set_of, first_of, IsRising}
use Rattle.xb_words.proofs.TableSplitLemmas.{IsRising-head, IsRising-tail}
use Rattle.xb_values.specs.Prefixes.{Prefix, Sections, prefix_cmp, prefix_octets}
use Rattle.xb_values.proofs.PrefixLemmas.{prefix_total}
use Rattle.xb_domain.specs.declared.output.Packing.TheVariants.{Sorted}
use Rattle.xb_wire.specs.Messages.{update_message}
use Rattle.xb_wire.specs.declared.numbers.TheConstants.{EMPTY_UPDATE, MAX_MESSAGE}
use Rattle.bgp_write.specs.Pending.{Formed, form, pending, same_section, announced, announcement, withdrawal}
use Rattle.bgp_write.specs.Pending.{withdrawn_first, section_of, fitting, has_section}
use Rattle.bgp_write.proofs.PendingLemmas.{differs}
use Rattle.out_sorted.specs.Slots.{Slot, Slots, IsSlot, IsSound, adv_in, told_in, with_front, keys_where, is_gone}
use Rattle.out_sorted.specs.Slots.{is_fresh}
use Rattle.out_sorted.specs.Sending.{announcement_from, withdrawal_from}
use Rattle.out_sorted.proofs.SlotLemmas.{Above, value_at-part, above_part, IsRising-part}

less_back : (p q : Prefix) → prefix_cmp p q ≡ Less → prefix_cmp q p ≡ Greater
less_back p q less = prefix_total.antisymm q p ∙ ap ordering_reverse less

-- sets of prefixes that are built of rising ones
abbrev AllAfter : Prefix → List Prefix → Type 0
AllAfter p qs = AllByRecursion (λ q. prefix_cmp p q ≡ Less) qs

with_keys-front : (p : Prefix) (set qs : List Prefix) → AllAfter p qs
    → with_keys prefix_cmp (p ∷ set) qs ≡ p ∷ with_keys prefix_cmp set qs
with_keys-front p set [] after = refl
with_keys-front p set (q ∷ qs) after =
    rw (less_back p q after.0) (with_keys-front p (with_key prefix_cmp set q) qs after.1)

with_key-first : (p : Prefix) (set : List Prefix) → AllAfter p set → with_key prefix_cmp set p ≡ p ∷ set
with_key-first p [] after = refl
with_key-first p (q ∷ set) after = rw after.0 refl

with_keys-append : (set ps qs : List Prefix)
    → with_keys prefix_cmp set (ps ++ qs) ≡ with_keys prefix_cmp (with_keys prefix_cmp set ps) qs
with_keys-append set [] qs = refl
with_keys-append set (p ∷ ps) qs = with_keys-append (with_key prefix_cmp set p) ps qs

keys_after : {X : Type 0} (p : Prefix) (es : List (Prefix × X)) → Above p es → AllAfter p (keys_of es)
keys_after p [] above = tt
keys_after p (e ∷ es) above = (above.0, keys_after p es above.1)

set_of-keys : {X : Type 0} (es : List (Prefix × X)) → IsRising prefix_cmp es
    → set_of prefix_cmp (keys_of es) ≡ keys_of es
set_of-keys [] rising = refl
set_of-keys (e ∷ es) rising =
    with_keys-front e.0 [] (keys_of es) (keys_after e.0 es (IsRising-head prefix_cmp prefix_total e es rising))
    ∙ ap (λ (l : List Prefix). e.0 ∷ l) (set_of-keys es (IsRising-tail prefix_cmp prefix_total e es rising))

-- the keys of two parts, if each slot is in one of them
merged_front : (p : Prefix) (a b : Sections) (keys : List Prefix) (o u : Option (List ℕ)) → Above p a → Above p b
    → (is_some o || is_some u) ≡ true → with_keys prefix_cmp (keys_of a) (keys_of b) ≡ keys
    → with_keys prefix_cmp (keys_of (with_front p o a)) (keys_of (with_front p u b)) ≡ p ∷ keys
merged_front p a b keys None None above_a above_b some is = absurd (cc some)
merged_front p a b keys None (Some t) above_a above_b some is =
    ap (λ (l : List Prefix). with_keys prefix_cmp l (keys_of b)) (with_key-first p (keys_of a) (keys_after p a above_a))
    ∙ with_keys-front p (keys_of a) (keys_of b) (keys_after p b above_b) ∙ ap (λ (l : List Prefix). p ∷ l) is
merged_front p a b keys (Some s) None above_a above_b some is =
    with_keys-front p (keys_of a) (keys_of b) (keys_after p b above_b) ∙ ap (λ (l : List Prefix). p ∷ l) is
merged_front p a b keys (Some s) (Some t) above_a above_b some is =
    let here : with_key prefix_cmp (p ∷ keys_of a) p ≡ p ∷ keys_of a = rw (tied_itself prefix_total p) refl in
    ap (λ (l : List Prefix). with_keys prefix_cmp l (keys_of b)) here
    ∙ with_keys-front p (keys_of a) (keys_of b) (keys_after p b above_b) ∙ ap (λ (l : List Prefix). p ∷ l) is

merged : (es : Slots) → IsRising prefix_cmp es → AllByRecursion IsSlot es
    → with_keys prefix_cmp (keys_of (adv_in es)) (keys_of (told_in es)) ≡ keys_of es
merged [] rising slots = refl
merged (e ∷ es) rising slots =
    let above = IsRising-head prefix_cmp prefix_total e es rising in
    merged_front e.0 (adv_in es) (told_in es) (keys_of es) e.1.adv e.1.told
    (above_part (λ s. s.adv) e.0 es above) (above_part (λ s. s.told) e.0 es above) slots.0.some
    (merged es (IsRising-tail prefix_cmp prefix_total e es rising) slots.1)

-- each slot is found
later : (e : Prefix × Slot) (es fs : Slots) → Above e.0 fs
    → AllByRecursion (λ f. value_at prefix_cmp es f.0 ≡ Some f.1) fs
    → AllByRecursion (λ f. value_at prefix_cmp (e ∷ es) f.0 ≡ Some f.1) fs
later e es [] above all = tt
later e es (f ∷ fs) above all = (rw (less_back e.0 f.0 above.0) all.0, later e es fs above.1 all.1)

found : (es : Slots) → IsRising prefix_cmp es → AllByRecursion (λ e. value_at prefix_cmp es e.0 ≡ Some e.1) es
found [] rising = tt
found (e ∷ es) rising = (
  rw (tied_itself prefix_total e.0) refl,
  later e es es (IsRising-head prefix_cmp prefix_total e es rising)
      (found es (IsRising-tail prefix_cmp prefix_total e es rising)),
)

-- whether a prefix waits, to be withdrawn or to be announced
abbrev waits : Slot → Bool
waits s = not (same_section s.adv s.told)

filter-keys : (es fs : Slots) → IsRising prefix_cmp es
    → AllByRecursion (λ f. value_at prefix_cmp es f.0 ≡ Some f.1) fs
    → filter (differs (adv_in es) (told_in es)) (keys_of fs) ≡ keys_where waits fs
filter-keys es [] rising all = refl
filter-keys es (f ∷ fs) rising all =
    let adv : value_at prefix_cmp (adv_in es) f.0 ≡ f.1.adv =
    value_at-part (λ s. s.adv) es f.0 rising ∙ ap (option_and_then (λ (s : Slot). s.adv)) all.0 in
    let told : value_at prefix_cmp (told_in es) f.0 ≡ f.1.told =
    value_at-part (λ s. s.told) es f.0 rising ∙ ap (option_and_then (λ (s : Slot). s.told)) all.0 in
    let same : differs (adv_in es) (told_in es) f.0 ≡ waits f.1 =
    ap (λ o. not (same_section o (value_at prefix_cmp (told_in es) f.0))) adv
    ∙ ap (λ o. not (same_section f.1.adv o)) told in
    elim (cases_Bool (waits f.1)) [
      | inl wait ↦ rw (same, wait) (ap (λ (l : List Prefix). f.0 ∷ l) (filter-keys es fs rising all.1))
      | inr calm ↦ rw (same, calm) (filter-keys es fs rising all.1)
    ]

-- the pending prefixes are those whose slots wait
pending-slots : (es : Slots) → IsSound es → pending (adv_in es) (told_in es) ≡ keys_where waits es
unfolding pending
pending-slots es sound =
    let keys : set_of prefix_cmp (keys_of (adv_in es) ++ keys_of (told_in es)) ≡ keys_of es =
    with_keys-append [] (keys_of (adv_in es)) (keys_of (told_in es))
    ∙ ap (λ (l : List Prefix). with_keys prefix_cmp l (keys_of (told_in es)))
    (set_of-keys (adv_in es) (IsRising-part (λ s. s.adv) es sound.rising))
    ∙ merged es sound.rising sound.slots in
    ap (filter (differs (adv_in es) (told_in es))) keys ∙ filter-keys es es sound.rising (found es sound.rising)

gone_waits : (e : Prefix × Slot) → IsSlot e → is_gone e.1 ≡ true → waits e.1 ≡ true
gone_waits e is gone = go e.1.adv e.1.told is.some gone
  where
    go : (a t : Option (List ℕ)) → (is_some a || is_some t) ≡ true → is_none a ≡ true → not (same_section a t) ≡ true
    go None None some gone = absurd (cc some)
    go None (Some t) some gone = refl
    go (Some s) t some gone = absurd (cc gone)

-- those that are not advertised are to be withdrawn
filter-gone : (es fs : Slots) → IsRising prefix_cmp es → AllByRecursion IsSlot fs
    → AllByRecursion (λ f. value_at prefix_cmp es f.0 ≡ Some f.1) fs
    → filter (λ p. is_none (value_at prefix_cmp (adv_in es) p)) (keys_where waits fs) ≡ keys_where is_gone fs
filter-gone es [] rising slots all = refl
filter-gone es (f ∷ fs) rising slots all =
    let rest = filter-gone es fs rising slots.1 all.1 in
    let adv : is_none (value_at prefix_cmp (adv_in es) f.0) ≡ is_gone f.1 =
    ap is_none (value_at-part (λ s. s.adv) es f.0 rising ∙ ap (option_and_then (λ (s : Slot). s.adv)) all.0) in
    elim (cases_Bool (is_gone f.1)) [
      | inl gone ↦ rw (gone_waits f slots.0 gone, adv, gone) (ap (λ (l : List Prefix). f.0 ∷ l) rest)
      | inr here ↦ elim (cases_Bool (waits f.1)) [
        | inl wait ↦ rw (wait, adv, here) rest
        | inr calm ↦ rw (calm, here) rest
      ]
    ]

-- if none is to be withdrawn, the others are to be announced
waits-fresh : (es : Slots) → keys_where is_gone es ≡ [] → keys_where waits es ≡ keys_where is_fresh es
waits-fresh [] none = refl
waits-fresh (e ∷ es) none = elim (cases_Bool (is_gone e.1)) [
  | inl gone ↦ absurd (cc (rw gone at none))
  | inr here ↦
      let rest = waits-fresh es (rw here at none) in
      let some : is_some e.1.adv ≡ true = not_none e.1.adv here in
      elim (cases_Bool (waits e.1)) [
        | inl wait ↦ rw (wait, some) (ap (λ (l : List Prefix). e.0 ∷ l) rest)
        | inr calm ↦ rw (calm, some) rest
      ]
]
  where
    not_none : (o : Option (List ℕ)) → is_none o ≡ false → is_some o ≡ true
    not_none None here = absurd (cc here)
    not_none (Some s) here = refl

form-slots : (es : Slots) → IsSound es
    → form Sorted (adv_in es) (told_in es)
    ≡ withdrawn_first Sorted (adv_in es) (told_in es) (keys_where waits es) (keys_where is_gone es)
unfolding form
form-slots es sound =
    ap (λ (l : List Prefix). withdrawn_first Sorted (adv_in es) (told_in es) l
    (filter (λ p. is_none (value_at prefix_cmp (adv_in es) p)) l)) (pending-slots es sound)
    ∙ ap (withdrawn_first Sorted (adv_in es) (told_in es) (keys_where waits es))
    (filter-gone es es sound.rising sound.slots (found es sound.rising))

pub some_first : (ps : List Prefix) (p : Prefix) → first_of ps ≡ Some p → (qs : List Prefix) × (ps ≡ p ∷ qs)
some_first [] p is = absurd (cc is)
some_first (q ∷ qs) p is = let same : q ≡ p = cc is in (qs, ap (λ x. x ∷ qs) same)

pub no_first : (ps : List Prefix) → first_of ps ≡ None → ps ≡ []
no_first [] is = refl
no_first (q ∷ qs) is = absurd (cc is)

-- the next message withdraws, if any prefix waits for it
pub form-gone : (es : Slots) (p : Prefix) → IsSound es → first_of (keys_where is_gone es) ≡ Some p
    → form Sorted (adv_in es) (told_in es) ≡ Some (withdrawal_from [] es)
form-gone es p sound is =
    let split = some_first (keys_where is_gone es) p is in
    form-slots es sound
    ∙ ap (withdrawn_first Sorted (adv_in es) (told_in es) (keys_where waits es)) split.1
    ∙ ap (λ (l : List Prefix). Some (withdrawal (told_in es) l)) (sym split.1)

room_left : (n : ℕ) → n - 0 ≡ n
room_left n = omega arith

abbrev announced_in : ℕ → Slots → List ℕ → Formed
announced_in room es s =
    let ps = fitting room (take_while (has_section (adv_in es) s) (keys_where is_fresh es)) in
    record {
      message = update_message (record { withdrawn = []; section = s; nlri = flat_map prefix_octets ps });
      told = fold (λ t q. with_value prefix_cmp t q s) (told_in es) ps;
    }

-- and else announces, if any waits for that
pub form-fresh : (es : Slots) (p : Prefix) → IsSound es → first_of (keys_where is_gone es) ≡ None
    → first_of (keys_where is_fresh es) ≡ Some p
    → form Sorted (adv_in es) (told_in es) ≡ Some (announcement_from (section_of (adv_in es) p) [] es)
form-fresh es p sound none is =
    let gone = no_first (keys_where is_gone es) none in
    let split = some_first (keys_where is_fresh es) p is in
    let s = section_of (adv_in es) p in
    form-slots es sound
    ∙ ap (withdrawn_first Sorted (adv_in es) (told_in es) (keys_where waits es)) gone
    ∙ ap (announced Sorted (adv_in es) (told_in es)) (waits-fresh es gone ∙ split.1)
    ∙ ap (λ (l : List Prefix). Some (announcement (told_in es) s (take_while (has_section (adv_in es) s) l)))
    (sym split.1)
    ∙ ap (λ (n : ℕ). Some (announced_in n es s)) (sym (room_left (MAX_MESSAGE - EMPTY_UPDATE - length s)))

-- there is none if none waits
pub form-none : (es : Slots) → IsSound es → first_of (keys_where is_gone es) ≡ None
    → first_of (keys_where is_fresh es) ≡ None → form Sorted (adv_in es) (told_in es) ≡ None
form-none es sound none last =
    let gone = no_first (keys_where is_gone es) none in
    form-slots es sound
    ∙ ap (withdrawn_first Sorted (adv_in es) (told_in es) (keys_where waits es)) gone
    ∙ ap (announced Sorted (adv_in es) (told_in es)) (waits-fresh es gone ∙ no_first (keys_where is_fresh es) last)

-- and then nothing is pending
pub pending-none : (es : Slots) → IsSound es → first_of (keys_where is_gone es) ≡ None
    → first_of (keys_where is_fresh es) ≡ None → pending (adv_in es) (told_in es) ≡ []
pending-none es sound none last =
    pending-slots es sound ∙ waits-fresh es (no_first (keys_where is_gone es) none)
    ∙ no_first (keys_where is_fresh es) last

-- but if nothing is pending, none waits
pub none-pending : (es : Slots) → IsSound es → pending (adv_in es) (told_in es) ≡ []
    → (first_of (keys_where is_gone es) ≡ None) × (first_of (keys_where is_fresh es) ≡ None)
none-pending es sound drained =
    let waiting = sym (pending-slots es sound) ∙ drained in
    let gone : keys_where is_gone es ≡ [] =
    sym (filter-gone es es sound.rising sound.slots (found es sound.rising))
    ∙ ap (filter (λ p. is_none (value_at prefix_cmp (adv_in es) p))) waiting in
    (ap first_of gone, ap first_of (sym (waits-fresh es gone) ∙ waiting))

-- that none waits, as two searches say it
not_some : (o : Option Prefix) → is_some o ≡ false → o ≡ None
not_some None is = refl
not_some (Some p) is = absurd (cc is)

pub pending-searched : (es : Slots) (first next : Option Prefix) (b : Bool) → IsSound es → is_some first ≡ false
    → first ≡ first_of (keys_where is_gone es) → next ≡ first_of (keys_where is_fresh es)
    → is_some next ≡ not b → (b ≡ true) ↔ (pending (adv_in es) (told_in es) ≡ [])
pending-searched es first next true sound none is_first is_next said = (
  λ _. pending-none es sound (sym is_first ∙ not_some first none) (sym is_next ∙ not_some next said),
  λ _. refl,
)
pending-searched es first next false sound none is_first is_next said = (
  λ t. absurd (cc t),
  λ drained. absurd (cc (said, ap is_some (is_next ∙ (none-pending es sound drained).1))),
)

-- and that some waits, as one does
pub pending-found : (es : Slots) (first : Option Prefix) (b : Bool) → IsSound es → is_some first ≡ true
    → first ≡ first_of (keys_where is_gone es)
    → b ≡ false → (b ≡ true) ↔ (pending (adv_in es) (told_in es) ≡ [])
pending-found es first b sound some is_first said = (
  λ t. absurd (cc (said, t)),
  λ drained. absurd (cc (some, ap is_some (is_first ∙ (none-pending es sound drained).0))),
)

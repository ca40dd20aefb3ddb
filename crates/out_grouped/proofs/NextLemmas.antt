-- What a table says of its next message, and of the sections that it lends.
use Rattle.std.proofs.Common.{◌≡◌, ◌<◌, ◌≤◌, true, false, inl, inr, ℕ, Bool, List, [], ◌∷◌, Option, Some, None, ◌↔◌}
use Rattle.std.proofs.Common.{refl, sym, ◌∙◌, ap, subst, length, filter}
use Rattle.std.specs.List.{AllByRecursion}
use Rattle.std.specs.Option.{IfSome, option_map}
use Rattle.std.specs.Ordering.{is_lt}
use Rattle.std.proofs.lemmas.Bool.{cases_Bool}
use Rattle.xb_words.specs.Table.{entry_after, first_of, IsRising}
use Rattle.xb_values.specs.Prefixes.{Prefix, Sections, prefix_cmp}
use Rattle.xb_wire.specs.declared.numbers.TheConstants.{MAX_SECTION}
use Rattle.xb_domain.specs.declared.output.Packing.TheVariants.{Grouped}
use Rattle.bgp_write.specs.Pending.{Formed, form, pending}
use Rattle.bgp_write.proofs.PendingLemmas.{length-pending-formed}
use Rattle.out_grouped.specs.Told.{Told, told_after}
use Rattle.out_grouped.specs.Slots.{Slots, IsSlot, IsSound, adv_in, told_in, told_of, keys_where, is_gone, is_fresh}
use Rattle.out_grouped.specs.Slots.{with_front}
use Rattle.out_grouped.proofs.ChangeLemmas.{told_by}
use Rattle.out_grouped.proofs.PendingLemmas.{form-none, none-pending, pending-none}
use Rattle.out_grouped.proofs.SlotLemmas.{IsRising-part}

-- the message by what contracts see
pub form-seen : (es : Slots) (t : Told) (o : Option Formed) → told_of es ≡ t → form Grouped (adv_in es) (told_in es) ≡ o
    → form Grouped t.adv t.told ≡ o
form-seen es t o seen is = subst (λ (u : Told). form Grouped u.adv u.told ≡ o) seen is

-- if there is one, some prefix is pending
pub pending-formed : (es : Slots) (t : Told) (f : Formed) → IsSound es → told_of es ≡ t
    → form Grouped t.adv t.told ≡ Some f → (true ≡ false) ↔ (pending t.adv t.told ≡ [])
pending-formed es t f sound seen is = (
  λ never. absurd (cc never),
  λ drained.
      let calm = none-pending es sound (subst (λ (u : Told). pending u.adv u.told ≡ []) (sym seen) drained) in
      let none = form-seen es t None seen (form-none es sound calm.0 calm.1) in
      absurd (cc (is, none)),
)

pub pending-drained : (es : Slots) (t : Told) → IsSound es → told_of es ≡ t → first_of (keys_where is_gone es) ≡ None
    → first_of (keys_where is_fresh es) ≡ None → (false ≡ false) ↔ (pending t.adv t.told ≡ [])
pending-drained es t sound seen none last =
    (λ _. subst (λ (u : Told). pending u.adv u.told ≡ []) seen (pending-none es sound none last), λ _. refl)

-- what was told after it
pub told_of-formed : (new : Slots) (t : Told) (o : Option Formed) (told : Sections) → adv_in new ≡ t.adv
    → told_in new ≡ told → told ≡ told_after o t.told → form Grouped t.adv t.told ≡ o
    → told_of new ≡ record t { told = told_after (form Grouped t.adv t.told) t.told }
told_of-formed new t o told adv is after formed =
    told_by _ _ adv (is ∙ after ∙ ap (λ u. told_after u t.told) (sym formed))

-- advertised sections are short
adv-short : (es : Slots) → AllByRecursion IsSlot es → AllByRecursion (λ e. length e.1 ≤ MAX_SECTION) (adv_in es)
adv-short [] slots = tt
adv-short (e ∷ es) slots = go e.1.adv slots.0.short (adv-short es slots.1)
  where
    go : (o : Option (List ℕ)) → IfSome o (λ s. length s ≤ MAX_SECTION)
        → AllByRecursion (λ e. length e.1 ≤ MAX_SECTION) (adv_in es)
        → AllByRecursion (λ e. length e.1 ≤ MAX_SECTION) (with_front e.0 o (adv_in es))
    go None short rest = rest
    go (Some s) short rest = (short, rest)

first_of-filter : {A : Type 0} (P : A → Type 0) (test : A → Bool) (xs : List A) → AllByRecursion P xs
    → IfSome (first_of (filter test xs)) P
first_of-filter P test [] all = tt
first_of-filter P test (x ∷ xs) all = elim (cases_Bool (test x)) [
  | inl passes ↦ rw passes all.0
  | inr fails ↦ rw fails (first_of-filter P test xs all.1)
]

IfSome-first : {A : Type 0} (P : A → Type 0) (xs : List A) → AllByRecursion P xs → IfSome (first_of xs) P
IfSome-first P [] all = tt
IfSome-first P (x ∷ xs) all = all.0

IfSome-entry_after : (P : Prefix × List ℕ → Type 0) (t : Sections) (after : Option Prefix) → AllByRecursion P t
    → IfSome (entry_after prefix_cmp t after) P
IfSome-entry_after P t None all = IfSome-first P t all
IfSome-entry_after P t (Some p) all = first_of-filter P (λ e. is_lt (prefix_cmp p e.0)) t all

pub lent-short : {B : Type 0} (now : B → List ℕ) (es : Slots) (after : Option Prefix) (lent : Option (Prefix × B))
    → IsSound es
    → option_map (λ e. (e.0, now e.1)) lent ≡ entry_after prefix_cmp (adv_in es) after
    → IfSome lent (λ e. length (now e.1) ≤ MAX_SECTION)
lent-short now es after None sound is = tt
lent-short now es after (Some e) sound is =
    subst (λ o. IfSome o (λ f. length f.1 ≤ MAX_SECTION)) (sym is)
    (IfSome-entry_after (λ f. length f.1 ≤ MAX_SECTION) (adv_in es) after (adv-short es sound.slots))

-- fewer prefixes are pending after a message
pub fewer-pending : (es new : Slots) (t : Told) (f : Formed) → IsSound es → told_of es ≡ t
    → form Grouped t.adv t.told ≡ Some f → adv_in new ≡ t.adv → told_in new ≡ f.told
    → length (pending (adv_in new) (told_in new)) < length (pending t.adv t.told)
fewer-pending es new t f sound seen formed adv told =
    let rising = subst (λ (u : Told). IsRising prefix_cmp u.told) seen (IsRising-part (λ s. s.told) es sound.rising) in
    let short = subst (λ (u : Told). AllByRecursion (λ e. length e.1 ≤ MAX_SECTION) u.adv) seen
    (adv-short es sound.slots) in
    subst (λ (a : Sections). length (pending a (told_in new)) < length (pending t.adv t.told)) (sym adv)
    (subst (λ (u : Sections). length (pending t.adv u) < length (pending t.adv t.told)) (sym told)
    (length-pending-formed Grouped t.adv t.told f rising short formed))

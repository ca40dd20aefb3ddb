-- (for the private fields of `SortedOut`) The advertised and the told section of each prefix in one map.
use Rattle.std.specs.Prelude.{◌≡◌, ℕ, ◌≤◌, Bool, true, false, List, [], ◌∷◌, length, filter, Option, Some, None}
use Rattle.std.specs.Prelude.{is_none, is_some, IfSome, not, ◌&&◌, ◌||◌}
use Rattle.std.specs.List.{AllByRecursion}
use Rattle.std.specs.Map.{keys_of}
use Rattle.std.specs.Str.{bytes_eq}
use Rattle.xb_words.specs.Table.{with_value, without, IsRising}
use Rattle.xb_values.specs.Prefixes.{Prefix, Sections, prefix_cmp}
use Rattle.xb_wire.specs.declared.numbers.TheConstants.{MAX_SECTION}
use Rattle.bgp_write.specs.Pending.{same_section}
use Rattle.out_sorted.specs.Told.{Told}
use Rattle.out_sorted.specs.Waits.{Has}
use Rattle.out_sorted.specs.declared.entry.State.{State}
use Rattle.out_sorted.specs.declared.entry.State.TheVariants.{Known, Fresh, Changed, Gone}
use Rattle.out_sorted.specs.declared.waiting.Change.{Change}
use Rattle.out_sorted.specs.declared.waiting.Waiting.{Waiting}
use Rattle.out_sorted.specs.declared.waiting.Waits.{Waits}

-- the sections of one prefix, each of which may be absent
pub record Slot : Type 0 where
  pub adv : Option (List ℕ)
  pub told : Option (List ℕ)

-- the slot of an entry, by its section and its state
abbrev pub slot_of : List ℕ → State → Slot
slot_of s Known = record { adv = Some s; told = Some s }
slot_of s Fresh = record { adv = Some s; told = None }
slot_of s (Changed t) = record { adv = Some s; told = Some t.items }
slot_of s Gone = record { adv = None; told = Some s }

-- two sections are kept only if they differ
abbrev pub IsApart : List ℕ → State → Type 0
IsApart s Known = Unit {0}
IsApart s Fresh = Unit {0}
IsApart s (Changed t) = bytes_eq s t.items ≡ false
IsApart s Gone = Unit {0}

-- slots by rising prefix
abbrev pub Slots : Type 0
Slots = List (Prefix × Slot)

-- a section that may be absent, before the entries of other prefixes
abbrev pub with_front : Prefix → Option (List ℕ) → Sections → Sections
with_front p None rest = rest
with_front p (Some s) rest = (p, s) ∷ rest

-- the sections of one part of the slots
abbrev pub part : (Slot → Option (List ℕ)) → Slots → Sections
part f [] = []
part f (e ∷ es) = with_front e.0 (f e.1) (part f es)

abbrev pub adv_in : Slots → Sections
adv_in es = part (λ s. s.adv) es

abbrev pub told_in : Slots → Sections
told_in es = part (λ s. s.told) es

abbrev pub told_of : Slots → Told
told_of es = record { adv = adv_in es; told = told_in es }

-- a prefix waits to be withdrawn, or to be announced
abbrev pub is_gone : Slot → Bool
is_gone s = is_none s.adv

abbrev pub is_fresh : Slot → Bool
is_fresh s = is_some s.adv && not (same_section s.adv s.told)

-- whether the slot of a prefix passes a test, if it has one
abbrev pub passes : (Slot → Bool) → Option Slot → Bool
passes test None = false
passes test (Some s) = test s

-- how a prefix waits, by its slot
abbrev pub waits_of : Option Slot → Waits
waits_of o = record { gone = passes is_gone o; fresh = passes is_fresh o }

-- how it waits before and after a change of its slot
abbrev pub change_of : Option Slot → Option Slot → Change
change_of old new = record { before = waits_of old; after = waits_of new }

-- the prefixes whose slots pass a test, by rising order
abbrev pub keys_where : (Slot → Bool) → Slots → List Prefix
keys_where test es = keys_of (filter (λ e. test e.1) es)

-- each prefix has a section, and an advertised one is short
pub record IsSlot (e : Prefix × Slot) : Type 0 where
  pub some : is_some e.1.adv || is_some e.1.told ≡ true
  pub short : IfSome e.1.adv (λ s. length s ≤ MAX_SECTION)

-- slots as the map of a table has them
pub record IsSound (es : Slots) : Type 0 where
  pub rising : IsRising prefix_cmp es
  pub slots : AllByRecursion IsSlot es

-- what the private fields keep
pub record IsKept (to_withdraw to_announce : Waiting) (es : Slots) : Type 0 where
  pub sound : IsSound es
  pub gone : Has to_withdraw (keys_where is_gone es)
  pub fresh : Has to_announce (keys_where is_fresh es)

-- what a message leaves, beside the prefixes that it is about; others wait for another message
pub record Keeps (waits : Slot → Bool) (old new : Slots) : Type 0 where
  pub sound : IsSound new
  pub adv : adv_in new ≡ adv_in old
  pub others : keys_where waits new ≡ keys_where waits old

-- the slot of a prefix that is advertised with a section, in place of its slot before
abbrev pub advertised : Option Slot → List ℕ → Slot
advertised None s = record { adv = Some s; told = None }
advertised (Some old) s = record old { adv = Some s }

-- the slot of a prefix that is not advertised, by what was told of it
abbrev pub told_alone : Option (List ℕ) → Option Slot
told_alone None = None
told_alone (Some t) = Some (record { adv = None; told = Some t })

-- the slot of a prefix that is advertised no longer, in place of its slot before
abbrev pub retracted : Option Slot → Option Slot
retracted None = None
retracted (Some old) = told_alone old.told

-- the slots when a prefix has another slot, or none
abbrev pub with_slot : Slots → Prefix → Option Slot → Slots
with_slot es p None = without prefix_cmp es p
with_slot es p (Some s) = with_value prefix_cmp es p s

-- the slots when a prefix, whose slot is given, is told as it is advertised
abbrev pub retold : Slots → Prefix → Option Slot → Slots
retold es p None = es
retold es p (Some s) = with_value prefix_cmp es p (record s { told = s.adv })

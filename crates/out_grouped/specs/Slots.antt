-- (for the private fields of `GroupedOut`) The advertised and the told section of each prefix in one map.
use Rattle.std.specs.Prelude.{◌≡◌, ℕ, ◌≤◌, Bool, true, false, List, [], ◌∷◌, length, filter, Option, Some, None}
use Rattle.std.specs.Prelude.{is_none, is_some, IfSome, not, ◌&&◌, ◌||◌, if◌then◌else◌}
use Rattle.std.specs.List.{AllByRecursion}
use Rattle.std.specs.Map.{keys_of}
use Rattle.std.specs.Str.{bytes_eq}
use Rattle.xb_words.specs.Table.{with_value, without, IsRising}
use Rattle.xb_values.specs.Prefixes.{Prefix, Sections, prefix_cmp}
use Rattle.xb_wire.specs.declared.numbers.TheConstants.{MAX_SECTION}
use Rattle.bgp_write.specs.Pending.{same_section}
use Rattle.out_grouped.specs.Told.{Told}
use Rattle.out_grouped.specs.declared.waiting.Due.{Due}
use Rattle.out_grouped.specs.declared.entry.State.{State}
use Rattle.out_grouped.specs.declared.entry.State.TheVariants.{Known, Fresh, Changed, Gone}

-- the sections of one prefix, each of which may be absent
pub record Slot : Type 0 where
  pub adv : Option (List ℕ)
  pub told : Option (List ℕ)

-- the slot of an entry, by its section and its state
abbrev pub slot_of : List ℕ → State → Slot
slot_of s Known = record { adv = Some s; told = Some s }
slot_of s Fresh = record { adv = Some s; told = None }
slot_of s (Changed t) = record { adv = Some s; told = Some t.items }
slot_of s Gone = record { adv = None; told = Some s }

-- two sections are kept only if they differ
abbrev pub IsApart : List ℕ → State → Type 0
IsApart s Known = Unit {0}
IsApart s Fresh = Unit {0}
IsApart s (Changed t) = bytes_eq s t.items ≡ false
IsApart s Gone = Unit {0}

-- slots by rising prefix
abbrev pub Slots : Type 0
Slots = List (Prefix × Slot)

-- a section that may be absent, before the entries of other prefixes
abbrev pub with_front : Prefix → Option (List ℕ) → Sections → Sections
with_front p None rest = rest
with_front p (Some s) rest = (p, s) ∷ rest

-- the sections of one part of the slots
abbrev pub part : (Slot → Option (List ℕ)) → Slots → Sections
part f [] = []
part f (e ∷ es) = with_front e.0 (f e.1) (part f es)

abbrev pub adv_in : Slots → Sections
adv_in es = part (λ s. s.adv) es

abbrev pub told_in : Slots → Sections
told_in es = part (λ s. s.told) es

abbrev pub told_of : Slots → Told
told_of es = record { adv = adv_in es; told = told_in es }

-- a prefix waits to be withdrawn, or to be announced
abbrev pub is_gone : Slot → Bool
is_gone s = is_none s.adv

abbrev pub is_fresh : Slot → Bool
is_fresh s = is_some s.adv && not (same_section s.adv s.told)

-- the section with which a prefix waits to be announced, if it does
abbrev pub waiting : Slot → Option (List ℕ)
waiting s = if is_fresh s then s.adv else None

-- whether a prefix waits to be announced with a section
abbrev pub waits_with : List ℕ → Slot → Bool
waits_with s slot = same_section (waiting slot) (Some s)

-- the prefixes whose slots pass a test, by rising order
abbrev pub keys_where : (Slot → Bool) → Slots → List Prefix
keys_where test es = keys_of (filter (λ e. test e.1) es)

-- each prefix has a section, and an advertised one is short
pub record IsSlot (e : Prefix × Slot) : Type 0 where
  pub some : is_some e.1.adv || is_some e.1.told ≡ true
  pub short : IfSome e.1.adv (λ s. length s ≤ MAX_SECTION)

-- slots as the map of a table has them
pub record IsSound (es : Slots) : Type 0 where
  pub rising : IsRising prefix_cmp es
  pub slots : AllByRecursion IsSlot es

-- tests that no slot passes which waits for a message, nor passes when it has been told as it is advertised
pub record IsOther (waits test : Slot → Bool) : Type 0 where
  pub apart : (s : Slot) → waits s ≡ true → test s ≡ false
  pub told : (x : List ℕ) → test (record { adv = Some x; told = Some x }) ≡ false

-- what a message leaves that is about prefixes which wait for it
pub record Keeps (waits : Slot → Bool) (old new : Slots) : Type 0 where
  pub sound : IsSound new
  pub adv : adv_in new ≡ adv_in old
  pub others : (test : Slot → Bool) → IsOther waits test → keys_where test new ≡ keys_where test old

-- the slot of a prefix that is advertised with a section, in place of its slot before
abbrev pub advertised : Option Slot → List ℕ → Slot
advertised None s = record { adv = Some s; told = None }
advertised (Some old) s = record old { adv = Some s }

-- the section with which a prefix waits, by its slot
abbrev pub waited : Option Slot → Option (List ℕ)
waited None = None
waited (Some s) = waiting s

-- whether a prefix has a slot that passes a test
abbrev pub passes : (Slot → Bool) → Option Slot → Bool
passes test None = false
passes test (Some s) = test s

-- which message is due for a prefix, by its slot
abbrev pub due_of : Option Slot → Due
due_of o = record { fresh = passes is_fresh o; gone = passes is_gone o }

-- whether anything was told of a prefix
abbrev pub was_told : Option Slot → Bool
was_told None = false
was_told (Some s) = is_some s.told

-- a slot that is advertised no longer: it stays if anything was told of it
abbrev pub without_adv : Slots → Prefix → Option (List ℕ) → Slots
without_adv es p None = without prefix_cmp es p
without_adv es p (Some t) = with_value prefix_cmp es p (record { adv = None; told = Some t })

-- the slots when a prefix, whose slot is given, is advertised no longer
abbrev pub taken_back : Slots → Prefix → Option Slot → Slots
taken_back es p None = es
taken_back es p (Some s) = without_adv es p s.told

-- the slots when a prefix, whose slot is given, is told as it is advertised
abbrev pub retold : Slots → Prefix → Option Slot → Slots
retold es p None = es
retold es p (Some s) = with_value prefix_cmp es p (record s { told = s.adv })

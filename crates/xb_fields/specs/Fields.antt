-- Fields of a TOML document, with the first fault: each step gives a value, or a fault with its kind and its location
-- (this project's own).
use Rattle.std.specs.Prelude.{ℕ, ◌+◌, Bool, List, [], ◌∷◌, ◌++◌, length, Option, Some, None, Result, Ok, Err, ok_or, ℤ}
use Rattle.std.specs.Prelude.{pos, negsuc, nat_le, ◌&&◌, if◌then◌else◌}
use Rattle.std.specs.List.{list_any, list_all}
use Rattle.std.specs.Str.{bytes_eq, is_utf8}
use Rattle.toml.specs.Parse.{parse_document}
use Rattle.toml.specs.Data.{Data, Items, no_items, item, Members, no_members, member, get_member, as_str, as_integer}
use Rattle.toml.specs.Data.{as_array, as_table}
use Rattle.xb_domain.specs.declared.bad.BadKind.{BadKind}
use Rattle.xb_domain.specs.declared.bad.BadKind.TheVariants.{Text, Shape, Key, Missing, Range, Count}
use Rattle.xb_domain.specs.declared.bad.Part.{Part}
use Rattle.xb_domain.specs.declared.bad.Part.TheVariants.{Top}
use Rattle.xb_fields.specs.declared.fault.FieldFault.{FieldFault}
use Rattle.xb_fields.specs.declared.fault.Location.{Location}

-- what is judged of fields: a value, or the first fault
abbrev pub Judged : Type 0 → Type 0
Judged A = Result A FieldFault

-- a step, and what follows if it gives a value
infixl 10 ◌>>=◌
abbrev pub ◌>>=◌ : {A B F : Type 0} → Result A F → (A → Result B F) → Result B F
(Ok x) >>= f = f x
(Err bad) >>= f = Err bad

-- a part of a document, and the position of an entry from 1, or 0
abbrev pub location : Part → ℕ → Location
location part index = record { part = part; index = index }

-- a fault in a location
abbrev pub fault_at : Location → BadKind → FieldFault
fault_at at kind = record { kind = kind; part = at.part; index = at.index }

-- a value that must be there
abbrev pub present : {A : Type 0} → Location → BadKind → Option A → Judged A
present at kind o = ok_or o (fault_at at kind)

-- a test that must be passed
abbrev pub must : Location → BadKind → Bool → Judged (Unit {0})
must at kind test = if test then Ok tt else Err (fault_at at kind)

-- the table that a text is (TOML 1.1)
unfoldable pub document : List ℕ → Judged Members
document octets = present (location Top 0) Text (if is_utf8 octets then parse_document octets else None)

-- the values of an array, in order
abbrev pub data_of : Items → List Data
data_of no_items = []
data_of (item d others) = d ∷ data_of others

-- the keys of a table
abbrev pub keys_of : Members → List (List ℕ)
keys_of no_members = []
keys_of (member key d others) = key ∷ keys_of others

-- one of some keys
abbrev pub is_listed : List (List ℕ) → List ℕ → Bool
is_listed listed key = list_any (bytes_eq key) listed

-- listed keys alone
unfoldable pub keys_listed : List (List ℕ) → Members → Bool
keys_listed listed ms = list_all (is_listed listed) (keys_of ms)

-- the keys and values of a table with listed keys
unfoldable pub table_with : Location → List (List ℕ) → Data → Judged Members
table_with at listed d = do
  ms ← present at Shape (as_table d)
  _ ← must at Key (keys_listed listed ms)
  Ok ms

-- from `least` to `most`
abbrev pub is_between : ℕ → ℕ → ℕ → Bool
is_between least most n = nat_le least n && nat_le n most

-- a whole number in its range
abbrev pub number_between : ℕ → ℕ → ℤ → Option ℕ
number_between least most (pos n) = if is_between least most n then Some n else None
number_between least most (negsuc n) = None

-- the number that a value is
unfoldable pub number : Location → ℕ → ℕ → Data → Judged ℕ
number at least most d = do
  z ← present at Shape (as_integer d)
  present at Range (number_between least most z)

-- the text that a value is
unfoldable pub string_in : Location → Data → Judged (List ℕ)
string_in at d = present at Shape (as_str d)

-- what a reader takes from a text
abbrev pub text : {A : Type 0} → Location → (List ℕ → Option A) → Data → Judged A
text at read d = do
  written ← string_in at d
  present at Range (read written)

-- a list of at most `most` values
unfoldable pub list_of : Location → ℕ → Data → Judged (List Data)
list_of at most d = do
  items ← present at Shape (as_array d)
  _ ← must at Count (nat_le (length (data_of items)) most)
  Ok (data_of items)

-- what the value at a key gives; the key must be there
unfoldable pub required : {A : Type 0} → Location → List ℕ → (Data → Judged A) → Members → Judged A
required at key read ms = do
  d ← present at Missing (get_member key ms)
  read d

-- what the value at a key gives, or a default if the key is absent
unfoldable pub optional : {A : Type 0} → List ℕ → A → (Data → Judged A) → Members → Judged A
optional key default read ms = elim (get_member key ms) [ None ↦ Ok default | Some d ↦ read d ]

-- the entries that values give, in order, each judged by its position and the entries before it
abbrev pub judged_from : {A F : Type 0} → (ℕ → List A → Data → Result A F) → ℕ → List A → List Data → Result (List A) F
judged_from judge position earlier [] = Ok earlier
judged_from judge position earlier (d ∷ ds) = do
  x ← judge position earlier d
  judged_from judge (position + 1) (earlier ++ x ∷ []) ds

-- all entries; positions are counted from 1
unfoldable pub judged_entries : {A F : Type 0} → (ℕ → List A → Data → Result A F) → List Data → Result (List A) F
judged_entries judge ds = judged_from judge 1 [] ds

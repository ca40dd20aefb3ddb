-- Maps of programs (this project's own): finite maps from keys to values of fixed widths, with limits on their entries
-- and on the writes of a run.
use Rattle.std.specs.Prelude.{◌≡◌, ℕ, ◌+◌, ◌*◌, ◌≤◌, nat_le, ◌&&◌, not, IsTrue, if◌then◌else◌}
use Rattle.std.specs.Prelude.{Bool, List, [], length, map, sum_by, Option, Some, None, is_some, option_map}
use Rattle.std.specs.declared.cmp.Ordering.{Ordering}
use Rattle.std.specs.Ordering.{nat_cmp}
use Rattle.std.specs.Cmp.Lexicographic.{slice_cmp}
use Rattle.std.specs.Option.{option_and_then}
use Rattle.std.specs.List.{slice_get, slice_set, AllByRecursion}
use Rattle.xb_words.specs.Table.{value_at, with_value, without, entry_after, IsRising}
use Rattle.xbgp_maps.specs.declared.limits.TheConstants.{MAX_MAPS, MAX_KEY, MAX_VALUE, MAX_ENTRIES, MAX_ROOM, BUDGET}
use Rattle.xbgp_maps.specs.declared.shape.MapShape.{MapShape}
use Rattle.xbgp_maps.specs.declared.shape.Put.{Put}
use Rattle.xbgp_maps.specs.declared.shape.Put.TheVariants as puts
use Rattle.xbgp_maps.specs.declared.shape.Remove.{Remove}
use Rattle.xbgp_maps.specs.declared.shape.Remove.TheVariants as removes

-- the octets of one entry
abbrev pub entry_size : MapShape → ℕ
entry_size shape = shape.key + shape.value

-- a number from 1 to the most
abbrev pub is_from_1_to : ℕ → ℕ → Bool
is_from_1_to most n = nat_le 1 n && nat_le n most

-- the widths and the most entries of a map
abbrev pub IsShape : MapShape → Type 0
IsShape s =
    IsTrue (is_from_1_to MAX_KEY s.key)
    × IsTrue (is_from_1_to MAX_VALUE s.value)
    × IsTrue (is_from_1_to MAX_ENTRIES s.entries)

-- the limits of maps: their number, the widths and the most entries of each, and the octets of all entries together
pub record AreWithinLimits (shapes : List MapShape) : Type 0 where
  pub number : length shapes ≤ MAX_MAPS
  pub ranges : AllByRecursion IsShape shapes
  pub room : sum_by (λ s. s.entries * entry_size s) shapes ≤ MAX_ROOM

-- one map: its shape, and its entries by rising key
pub record Mapping : Type 0 where
  pub shape : MapShape
  pub entries : List (List ℕ × List ℕ)

-- keys by the order of octets
abbrev pub key_cmp : List ℕ → List ℕ → Ordering
key_cmp = slice_cmp nat_cmp

-- an entry whose key and value have the widths of a shape
abbrev pub HasWidths : MapShape → List ℕ × List ℕ → Type 0
HasWidths shape e = (length e.0 ≡ shape.key) × (length e.1 ≡ shape.value)

-- what every map keeps: its keys rise, it has no more entries than it may, and keys and values have their widths
pub record IsMapping (m : Mapping) : Type 0 where
  pub rising : IsRising key_cmp m.entries
  pub room : length m.entries ≤ m.shape.entries
  pub widths : AllByRecursion (HasWidths m.shape) m.entries

-- the map of a number
abbrev pub mapping_at : List Mapping → ℕ → Option Mapping
mapping_at maps n = slice_get maps n

-- maps of these shapes, without entries
abbrev pub empty_maps : List MapShape → List Mapping
empty_maps shapes = map (λ s. record { shape = s; entries = [] }) shapes

-- the shapes of maps, which no call changes
abbrev pub shapes_of : List Mapping → List MapShape
shapes_of maps = map (λ m. m.shape) maps

-- the value at a key of one map
abbrev pub value_in : Mapping → List ℕ → Option (List ℕ)
value_in m key = value_at key_cmp m.entries key

-- a map with a value at a key
abbrev pub put_in : Mapping → List ℕ → List ℕ → Mapping
put_in m key value = record m { entries = with_value key_cmp m.entries key value }

-- a map without a key
abbrev pub taken_from : Mapping → List ℕ → Mapping
taken_from m key = record m { entries = without key_cmp m.entries key }

-- the maps after a write to the map n, which is m: it has a value at a key
abbrev pub with_entry : List Mapping → ℕ → Mapping → List ℕ → List ℕ → List Mapping
with_entry maps n m key value = slice_set maps n (put_in m key value)

-- the maps after a removal from the map n, which is m: it is without a key
abbrev pub without_entry : List Mapping → ℕ → Mapping → List ℕ → List Mapping
without_entry maps n m key = slice_set maps n (taken_from m key)

-- the key is new, and the map has all its entries
abbrev pub is_full : Mapping → List ℕ → Bool
is_full m key = not (is_some (value_in m key)) && nat_le m.shape.entries (length m.entries)

-- what a write returns after a number of writes; Budget is decided first
abbrev pub put_answer : ℕ → Mapping → List ℕ → Put
put_answer writes m key = if nat_le BUDGET writes then puts.Budget else if is_full m key then puts.Full else puts.Done

-- what a removal returns after a number of writes; Budget is decided first
abbrev pub remove_answer : ℕ → Mapping → List ℕ → Remove
remove_answer writes m key =
    if nat_le BUDGET writes then removes.Budget else if is_some (value_in m key) then removes.Done else removes.Absent

-- maps, and while a run is open the maps as at its begin and the number of its writes
pub record Journalled : Type 0 where
  pub maps : List Mapping
  pub began : Option (List Mapping)
  pub writes : ℕ

-- no run is open
abbrev pub closed : List Mapping → Journalled
closed maps = record { maps = maps; began = None; writes = 0 }

-- a run is open, in which nothing was written
abbrev pub opened : List Mapping → Journalled
opened maps = record { maps = maps; began = Some maps; writes = 0 }

-- one write more, after which the maps are these
abbrev pub written : Journalled → List Mapping → Journalled
written j maps = record { maps = maps; began = j.began; writes = j.writes + 1 }

-- what a write leaves: nothing changes unless it returns Done
abbrev pub after_put : Journalled → ℕ → Mapping → List ℕ → List ℕ → Put → Journalled
after_put j n m key value puts.Done = written j (with_entry j.maps n m key value)
after_put j n m key value puts.Full = j
after_put j n m key value puts.Budget = j

-- what a removal leaves: nothing changes unless it returns Done
abbrev pub after_remove : Journalled → ℕ → Mapping → List ℕ → Remove → Journalled
after_remove j n m key removes.Done = written j (without_entry j.maps n m key)
after_remove j n m key removes.Absent = j
after_remove j n m key removes.Budget = j

-- the value at a key of the map n, or None if there is no such map
abbrev pub map_value : List Mapping → ℕ → List ℕ → Option (List ℕ)
map_value maps n key = option_and_then (λ m. value_in m key) (mapping_at maps n)

-- the first entry of the map n after a key, or of all; None also if there is no such map
abbrev pub entry_after_in : List Mapping → ℕ → Option (List ℕ) → Option (List ℕ × List ℕ)
entry_after_in maps n after = option_and_then (λ m. entry_after key_cmp m.entries after) (mapping_at maps n)

-- its key
abbrev pub key_after_in : List Mapping → ℕ → Option (List ℕ) → Option (List ℕ)
key_after_in maps n after = option_map (λ e. e.0) (entry_after_in maps n after)

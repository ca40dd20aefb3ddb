-- A journal of writes: taking them back from the last to the first gives the maps as before the first.
-- Contracts of `Maps` cite `Mappings` alone: these words are for its private functions and its invariant.
use Rattle.std.specs.Prelude.{◌≡◌, ℕ, ◌<◌, ◌≤◌, Bool, true, false, List, [], ◌∷◌, length, if◌then◌else◌}
use Rattle.std.specs.Prelude.{Option, Some, None, MatchOption, IsSomeAnd}
use Rattle.std.specs.List.{slice_set, AllByRecursion}
use Rattle.xbgp_maps.specs.declared.shape.Put.{Put}
use Rattle.xbgp_maps.specs.declared.shape.Put.TheVariants as puts
use Rattle.xbgp_maps.specs.declared.shape.Remove.{Remove}
use Rattle.xbgp_maps.specs.declared.shape.Remove.TheVariants as removes
use Rattle.xbgp_maps.specs.Mappings.{Mapping, Journalled, mapping_at, value_in, put_in, taken_from}
use Rattle.xbgp_maps.specs.declared.limits.TheConstants.{MAX_KEY, MAX_VALUE, BUDGET}

-- a write: the map, the key, and the value before it, if there was one
pub record Write : Type 0 where
  pub map : ℕ
  pub key : List ℕ
  pub old : Option (List ℕ)

-- the write of a key to the map n, which is m
abbrev pub write_of : ℕ → Mapping → List ℕ → Write
write_of n m key = record { map = n; key = key; old = value_in m key }

-- a map with the old value again, or without the key
abbrev pub restored : Mapping → List ℕ → Option (List ℕ) → Mapping
restored m key None = taken_from m key
restored m key (Some value) = put_in m key value

-- the maps as before a write
abbrev pub taken_back : Write → List Mapping → List Mapping
taken_back w maps =
    elim (mapping_at maps w.map) [
      | None ↦ maps
      | Some m ↦ slice_set maps w.map (restored m w.key w.old)
    ]

-- the maps as before the first of some writes
abbrev pub all_taken_back : List Write → List Mapping → List Mapping
all_taken_back [] maps = maps
all_taken_back (w ∷ ws) maps = taken_back w (all_taken_back ws maps)

-- the key and the old value of a write have the widths of its map, and there is room for the key
abbrev pub FitsBack : Write → Mapping → Type 0
FitsBack w m =
    (length w.key ≡ m.shape.key)
    × MatchOption w.old (Unit {0}) (λ value.
    (length value ≡ m.shape.value) × (value_in m w.key ≡ None → length m.entries < m.shape.entries))

-- a write that can be taken back: its map is there, and it fits
pub record CanTakeBack (w : Write) (maps : List Mapping) : Type 0 where
  pub exists : w.map < length maps
  pub fits : IsSomeAnd (mapping_at maps w.map) (FitsBack w)

-- each of some writes can be taken back, once those after it are
abbrev pub CanTakeAllBack : List Write → List Mapping → Type 0
CanTakeAllBack [] maps = Unit {0}
CanTakeAllBack (w ∷ ws) maps = CanTakeAllBack ws maps × CanTakeBack w (all_taken_back ws maps)

-- no map has wider keys and values than a journal has room for
pub record IsNarrow (m : Mapping) : Type 0 where
  pub key : m.shape.key ≤ MAX_KEY
  pub value : m.shape.value ≤ MAX_VALUE

-- what contracts see of maps with a journal, while a run is open and while none is
abbrev pub journal_view : Bool → List Write → List Mapping → Journalled
journal_view is_open ws maps = record {
  maps = maps;
  began = if is_open then Some (all_taken_back ws maps) else None;
  writes = if is_open then length ws else 0;
}

-- what maps with a journal keep
pub record IsUndoable (ws : List Write) (maps : List Mapping) : Type 0 where
  pub back : CanTakeAllBack ws maps
  pub narrow : AllByRecursion IsNarrow maps
  pub budget : length ws ≤ BUDGET

-- a value after a write: another one if the write was done, or the one before
abbrev pub when_done : {A : Type 0} → Bool → A → A → A
when_done done after before = if done then after else before

-- what a write returns if it was done
abbrev pub was_put : Put → Bool
was_put puts.Done = true
was_put puts.Full = false
was_put puts.Budget = false

-- what a removal returns if it was done
abbrev pub was_removed : Remove → Bool
was_removed removes.Done = true
was_removed removes.Absent = false
was_removed removes.Budget = false

-- Finite maps from sections to values.
use Rattle.std.specs.Prelude.{◌≡◌, ◌≢◌, ℕ, List, Option, Some, None, if◌then◌else◌}
use Rattle.std.specs.BTreeMap.{get, get_by}
use Rattle.std.specs.Cmp.Lexicographic.{slice_cmp}
use Rattle.std.specs.Ordering.{nat_cmp}
use Rattle.std.specs.Str.{bytes_eq}
use Rattle.section_map.specs.Sums.{sum_of}
use Rattle.section_map.specs.declared.map.First.{First}
use Rattle.section_map.specs.declared.map.SectionMap.{SectionMap}

module _ {V : Type 0} where
  -- the value of the first section of a sum, if it is this section
  abbrev pub value_if : Option (First V) → List ℕ → Option V
  value_if None section = None
  value_if (Some first) section = if bytes_eq first.section.items section then Some first.value else None

  -- a value, or else another
  abbrev pub value_or : Option V → Option V → Option V
  value_or None other = other
  value_or (Some value) other = Some value

  -- the value of a section
  unfoldable pub at_section : SectionMap V → List ℕ → Option V
  at_section map section =
      value_or (get_by (λ k. slice_cmp nat_cmp section k.items) map.rest)
      (value_if (get nat_cmp map.firsts (sum_of section)) section)

  -- a section has another value or none, and each other section what it had
  pub record ChangesAt (old new : SectionMap V) (section : List ℕ) (value : Option V) : Type 0 where
    pub changed : at_section new section ≡ value
    pub others : (other : List ℕ) → other ≢ section → at_section new other ≡ at_section old other

  -- each section has what it had
  abbrev pub SameSections : SectionMap V → SectionMap V → Type 0
  SameSections old new = (section : List ℕ) → at_section new section ≡ at_section old section

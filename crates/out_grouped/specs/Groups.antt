-- (for the private fields of `GroupedOut`) The prefixes that wait to be announced, by the section that they wait with.
use Rattle.std.specs.Prelude.{◌≡◌, ℕ, List, [], Option, Some, None, if◌then◌else◌}
use Rattle.std.specs.BTreeMap.{is_at}
use Rattle.std.specs.BTreeSet.{BTreeSet, insert_key}
use Rattle.std.specs.Set.{remove_key}
use Rattle.xb_values.specs.Prefixes.{Prefix, prefix_cmp}
use Rattle.section_map.specs.Sections.{at_section}
use Rattle.section_map.specs.declared.map.SectionMap.{SectionMap}
use Rattle.bgp_write.specs.Pending.{same_section}
use Rattle.out_grouped.specs.Slots.{Slots, IsSound, waits_with, keys_where, is_gone, is_fresh}
use Rattle.out_grouped.specs.Waits.{Has}
use Rattle.out_grouped.specs.declared.waiting.Waiting.{Waiting}

-- a set of prefixes for each section
abbrev pub Grouping : Type 0
Grouping = SectionMap (BTreeSet Prefix)

-- the prefixes of a set that may be absent
abbrev pub members : Option (BTreeSet Prefix) → List Prefix
members None = []
members (Some group) = group.keys

-- the prefixes that wait with a section
abbrev pub group_at : Grouping → List ℕ → List Prefix
group_at groups s = members (at_section groups s)

-- groups have the same prefixes; an empty one may be gone
abbrev pub AreSame : Grouping → Grouping → Type 0
AreSame old new = (s : List ℕ) → group_at new s ≡ group_at old s

-- a prefix joins the group of a section, if one is given
abbrev pub Joins : Grouping → Grouping → Option (List ℕ) → Prefix → Type 0
Joins old new section p =
    (s : List ℕ) → group_at new s
    ≡ (if same_section section (Some s) then insert_key prefix_cmp (group_at old s) p else group_at old s)

-- or leaves it
abbrev pub Leaves : Grouping → Grouping → Option (List ℕ) → Prefix → Type 0
Leaves old new section p =
    (s : List ℕ) → group_at new s
    ≡ (if same_section section (Some s) then remove_key (is_at (prefix_cmp p)) (group_at old s) else group_at old s)

-- the groups have the prefixes that wait to be announced
abbrev pub IsGrouped : Grouping → Slots → Type 0
IsGrouped groups es = (s : List ℕ) → group_at groups s ≡ keys_where (waits_with s) es

-- what the private fields keep
pub record IsKept (of_gone of_fresh : Waiting) (of_sections : Grouping) (es : Slots) : Type 0 where
  pub sound : IsSound es
  pub gone : Has of_gone (keys_where is_gone es)
  pub fresh : Has of_fresh (keys_where is_fresh es)
  pub groups : IsGrouped of_sections es

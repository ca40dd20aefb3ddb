-- Changes of a table: a prefix with the place of the part of an UPDATE that names it, and the table that changes leave
-- (this project's own).
use Rattle.std.specs.Prelude.{ℕ, ◌<◌, ◌==◌, ◌&&◌, Bool, false, if◌then◌else◌, List, [], ◌∷◌, ◌++◌, Option, Some}
use Rattle.std.specs.Prelude.{None, Result, Ok, Err, fold, slice_index_or}
use Rattle.std.specs.declared.cmp.Ordering.{Ordering}
use Rattle.std.specs.List.{All}
use Rattle.std.specs.List.Sorted.{IsNonDecreasingBy}
use Rattle.std.specs.Ordering.{nat_cmp, ordering_then}
use Rattle.xb_values.specs.Prefixes.{Prefix, Sections, prefix_cmp}
use Rattle.heard_table.specs.Steps.{change}
use Rattle.heard_table.specs.declared.change.Change.{Change}

-- by prefix, and those of one prefix by their parts
abbrev pub change_cmp : Change → Change → Ordering
change_cmp a b = ordering_then (prefix_cmp a.prefix b.prefix) (nat_cmp a.part b.part)

-- the parts come one after another, and all are among the first n
pub record IsInTurn (n : ℕ) (cs : List Change) : Type 0 where
  pub in_turn : IsNonDecreasingBy (λ c. c.part) cs
  pub below : All (λ c. c.part < n) cs

-- the changes of the prefixes of these steps, with that part, after others; None if a step is an error
abbrev pub listed : ℕ → List (Result Prefix (Unit {0})) → List Change → Option (List Change)
listed part [] cs = Some cs
listed part (Err bad ∷ ps) cs = None
listed part (Ok p ∷ ps) cs = listed part ps (cs ++ record { prefix = p; part = part } ∷ [])

-- what becomes of the prefixes of a part
abbrev pub part_at : List (Option (List ℕ)) → ℕ → Option (List ℕ)
part_at parts i = slice_index_or parts i None

-- a table after changes in turn
abbrev pub played : List (Option (List ℕ)) → List Change → Sections → Sections
played parts cs table = fold (λ t c. change (part_at parts c.part) t c.prefix) table cs

-- whether the first of these changes is one of that prefix
abbrev pub begins_with : Prefix → List Change → Bool
begins_with p [] = false
begins_with p (c ∷ cs) = (c.prefix.addr == p.addr) && (c.prefix.len == p.len)

-- entries with one before them, if there is a section for it
abbrev pub with_first : Prefix → Option (List ℕ) → Sections → Sections
with_first p None entries = entries
with_first p (Some section) entries = (p, section) ∷ entries

-- the table that sorted changes leave: the last of each prefix counts
abbrev pub settled : List (Option (List ℕ)) → List Change → Sections
settled parts [] = []
settled parts (c ∷ cs) =
    if begins_with c.prefix cs then settled parts cs
    else with_first c.prefix (part_at parts c.part) (settled parts cs)

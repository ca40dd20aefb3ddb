-- How a list of entries by rising prefix is cut (for the private functions of page.rt).
use Rattle.std.specs.Prelude.{ℕ, ◌<◌, ◌≤◌, List, Option, Some, None, if◌then◌else◌, nat_lt}
use Rattle.std.specs.List.{prefix_len, AllByRecursion}
use Rattle.std.specs.declared.cmp.Ordering.{Ordering}
use Rattle.std.specs.Ordering.{is_lt, is_eq}
use Rattle.xb_values.specs.Prefixes.{Prefix}

module _ {K X : Type 0} (cmp : K → K → Ordering) where
  -- how many entries from the front are before a key
  abbrev pub place_of : K → List (K × X) → ℕ
  place_of key es = prefix_len (λ e. is_lt (cmp e.0 key)) es

  -- the value of an entry, if it is one of the key
  abbrev pub value_if : K → Option (K × X) → Option X
  value_if key None = None
  value_if key (Some e) = if is_eq (cmp key e.0) then Some e.1 else None

module _ {V : Type 0} where
  -- how many entries from the front have addresses below this one
  abbrev pub place_at : ℕ → List (Prefix × V) → ℕ
  place_at addr es = prefix_len (λ e. nat_lt e.0.addr addr) es

  -- all entries have addresses below this one
  abbrev pub AllBelow : ℕ → List (Prefix × V) → Type 0
  AllBelow addr es = AllByRecursion (λ e. e.0.addr < addr) es

  -- no entry has
  abbrev pub AllFrom : ℕ → List (Prefix × V) → Type 0
  AllFrom addr es = AllByRecursion (λ e. addr ≤ e.0.addr) es

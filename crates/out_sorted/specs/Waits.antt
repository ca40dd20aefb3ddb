-- (for the private fields of `SortedOut`) What is kept of the prefixes that wait for a message.
use Rattle.std.specs.Prelude.{◌≡◌, Bool, true, false, List, [], Option, Some, None}
use Rattle.std.specs.BTreeMap.{is_at}
use Rattle.std.specs.BTreeMap.Range.{IsLeBy}
use Rattle.std.specs.BTreeSet.{insert_key}
use Rattle.std.specs.List.{AllByRecursion}
use Rattle.std.specs.Set.{remove_key}
use Rattle.xb_values.specs.Prefixes.{Prefix, prefix_cmp}
use Rattle.out_sorted.specs.declared.waiting.Waiting.{Waiting}

-- a set has the prefixes that wait, or there is a prefix before which none waits
abbrev pub HasBy : Option Prefix → List Prefix → List Prefix → Type 0
HasBy None known ps = known ≡ ps
HasBy (Some from) known ps = (known ≡ []) × AllByRecursion (IsLeBy prefix_cmp from) ps

-- these are the prefixes that wait
abbrev pub Has : Waiting → List Prefix → Type 0
Has w ps = HasBy w.from w.known.keys ps

-- those that wait, when it is said of one prefix whether it waited and whether it waits from now on
abbrev pub with_change : List Prefix → Prefix → Bool → Bool → List Prefix
with_change ps p true true = ps
with_change ps p true false = remove_key (is_at (prefix_cmp p)) ps
with_change ps p false true = insert_key prefix_cmp ps p
with_change ps p false false = ps

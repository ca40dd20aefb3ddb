-- The octets of a value (for private functions).
use Rattle.std.specs.Prelude.{◌≤◌, ℕ, List, take}
use Rattle.rib_table.specs.declared.value.Octets.{Octets}
use Rattle.rib_table.specs.declared.value.Octets.TheVariants.{Short, Long}
use Rattle.rib_table.specs.declared.value.TheConstants.{IN_PLACE}

-- the octets that count
abbrev pub octets_of : Octets → List ℕ
octets_of (Short len octets) = take len octets
octets_of (Long octets) = octets.items

-- no more octets count than there are in place
abbrev pub IsInPlace : Octets → Type 0
IsInPlace (Short len octets) = len ≤ IN_PLACE
IsInPlace (Long octets) = Unit {0}

-- Attribute records that several owners share (this project's own), each a neutral route with a count of its owners.
use Rattle.std.specs.Prelude.{◌≡◌, ℕ, ◌+◌, ◌-◌, ◌≤◌, ◌==◌, ◌^◌, List, Option, Some, None, min, if◌then◌else◌}
use Rattle.std.specs.Option.{option_map}
use Rattle.std.specs.Ordering.{nat_cmp}
use Rattle.xb_words.specs.Table.{value_at, with_value, without, IsRising}
use Rattle.bgp_attr.specs.Routes.{Route, IsRoute}

-- a record: the route that it means, and how many owners it has
pub record Owned : Type 0 where
  pub route : Route
  pub owners : ℕ

-- the living records by id: a finite map, as its entries by rising id
abbrev pub Records : Type 0
Records = List (ℕ × Owned)

-- the record of an id, if the id lives
abbrev pub record_at : Records → ℕ → Option Owned
record_at records id = value_at nat_cmp records id

-- the route that an id means, if it lives
abbrev pub route_at : Records → ℕ → Option Route
route_at records id = option_map (λ o. o.route) (record_at records id)

-- the owners of a record, if there is one
abbrev pub owners_of : Option Owned → ℕ
owners_of None = 0
owners_of (Some o) = o.owners

-- the owners of an id: none if it doesn't live
abbrev pub owners_at : Records → ℕ → ℕ
owners_at records id = owners_of (record_at records id)

-- the greatest number of owners: a record that has reached it keeps it
abbrev pub most_owners : ℕ
most_owners = 2 ^ 64 - 1

-- one owner more
abbrev pub one_more : ℕ → ℕ
one_more owners = min (owners + 1) most_owners

-- what is left of a record that an owner gives up: nothing if that was its last owner
abbrev pub one_fewer : Option Owned → Option Owned
one_fewer None = None
one_fewer (Some o) =
    if o.owners == most_owners then Some o
    else if o.owners == 1 then None
    else Some (record o { owners = o.owners - 1 })

-- the records after an id got one more owner, and means a route
abbrev pub interned : Records → ℕ → Route → Records
interned records id route =
    with_value nat_cmp records id (record { route = route; owners = one_more (owners_at records id) })

-- the records with this at an id
abbrev pub with_record : Records → ℕ → Option Owned → Records
with_record records id None = without nat_cmp records id
with_record records id (Some o) = with_value nat_cmp records id o

-- the records after an owner gave an id up
abbrev pub released : Records → ℕ → Records
released records id = with_record records id (one_fewer (record_at records id))

-- What holds of the records of every pool: each has an owner, and no two mean one route.
pub record ArePooled (records : Records) : Type 0 where
  pub rising : IsRising nat_cmp records
  pub routes : (id : ℕ) (o : Owned) → record_at records id ≡ Some o → IsRoute o.route
  pub owned : (id : ℕ) (o : Owned) → record_at records id ≡ Some o → 1 ≤ o.owners
  pub counted : (id : ℕ) (o : Owned) → record_at records id ≡ Some o → o.owners ≤ most_owners
  pub distinct : (a b : ℕ) (route : Route) → route_at records a ≡ Some route → route_at records b ≡ Some route → a ≡ b

-- Prefixes (RFC 4271, section 4.3: a length in bits, and the fewest octets that hold it).
use Rattle.std.specs.Prelude.{◌≡◌, ℕ, ◌+◌, ◌-◌, ◌*◌, ◌/◌, ◌^◌, ◌<◌, ◌≤◌, Bool, List, [], ◌∷◌, length, take, map}
use Rattle.std.specs.Prelude.{slice_index, Option, Some, None, nat_le, ◌==◌, ◌&&◌, if◌then◌else◌}
use Rattle.std.specs.declared.cmp.Ordering.{Ordering}
use Rattle.std.specs.Ordering.{nat_cmp, ordering_then}
use Rattle.xb_words.specs.Octets.{four_at, four_octets}
use Rattle.xb_words.specs.Cut.{cut}

-- an address and how many of its bits count
pub record Prefix : Type 0 where
  pub addr : ℕ
  pub len : ℕ

-- an address without the bits after the first len of its 32
abbrev pub cleared : ℕ → ℕ → ℕ
cleared addr len = addr / 2 ^ (32 - len) * 2 ^ (32 - len)

-- the prefix of an address and a length
abbrev pub prefix_of : ℕ → ℕ → Prefix
prefix_of addr len = record { addr = cleared addr len; len = len }

-- what a prefix is: at most 32 bits of an address, the other bits cleared
pub record IsPrefix (p : Prefix) : Type 0 where
  pub len : p.len ≤ 32
  pub addr : p.addr < 2 ^ 32
  pub clear : cleared p.addr p.len ≡ p.addr

-- by address, then by length (this project's own order)
abbrev pub prefix_cmp : Prefix → Prefix → Ordering
prefix_cmp a b = ordering_then (nat_cmp a.addr b.addr) (nat_cmp a.len b.len)

-- the fewest octets that hold a number of bits
abbrev pub octets_for : ℕ → ℕ
octets_for bits = (bits + 7) / 8

-- how many octets the prefix at the front has; None if its length is over 32 or octets are missing
abbrev pub prefix_size : List ℕ → Option ℕ
prefix_size [] = None
prefix_size (len ∷ rest) =
    if nat_le len 32 && nat_le (octets_for len) (length rest) then Some (1 + octets_for len) else None

-- the prefix of a length and its octets; octets that are not there count as 0
abbrev pub prefix_at : List ℕ → Prefix
prefix_at octets = prefix_of (four_at octets 1) (slice_index octets 0)

-- a prefix as a length and its octets
abbrev pub prefix_octets : Prefix → List ℕ
prefix_octets p = p.len ∷ take (octets_for p.len) (four_octets p.addr)

-- the prefixes of a list of octets, in order
abbrev pub prefixes : List ℕ → List Prefix
prefixes octets = map prefix_at (cut prefix_size octets).items

-- the octets are whole prefixes to the end
abbrev pub are_prefixes : List ℕ → Bool
are_prefixes octets = length (cut prefix_size octets).rest == 0

-- sections of path attributes by prefix: a finite map, as its entries by rising prefix
abbrev pub Sections : Type 0
Sections = List (Prefix × List ℕ)

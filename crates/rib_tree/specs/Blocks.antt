-- Blocks of addresses: 2^bits addresses, from the first on (for the private functions).
use Rattle.std.specs.Prelude.{◌≡◌, ℕ, zero, suc, ◌+◌, ◌^◌, ◌<◌, ◌≤◌, ◌⊎◌}
use Rattle.xb_values.specs.Prefixes.{Prefix}

-- the address of a prefix is one of the block
pub record IsIn (first bits : ℕ) (p : Prefix) : Type 0 where
  pub least : first ≤ p.addr
  pub most : p.addr < first + 2 ^ bits

-- another block is this one, or a part of one of its halves
unfoldable pub IsPart : ℕ → ℕ → ℕ → ℕ → Type 0
IsPart first zero from size = (from ≡ first) × (size ≡ 0)
IsPart first (suc b) from size =
    ((from ≡ first) × (size ≡ suc b)) ⊎ (IsPart first b from size ⊎ IsPart (first + 2 ^ b) b from size)

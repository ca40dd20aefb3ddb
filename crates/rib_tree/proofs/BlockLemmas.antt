-- Parts of blocks of addresses.
use Rattle.std.proofs.Common.{◌≡◌, ◌<◌, ◌≤◌, ◌+◌, ◌-◌, ◌^◌, ℕ, inl, inr, zero, suc, refl, subst, arith}
use Rattle.std.proofs.Math.Nat.{two-pow-succ}
use Rattle.std.proofs.lemmas.Nat.{pow_pos}
use Rattle.xb_values.specs.Prefixes.{Prefix}
use Rattle.rib_tree.specs.Blocks.{IsIn, IsPart}

-- a block is as large as its two halves
pub two_halves : (bits : ℕ) → 0 < bits → 2 ^ bits ≡ 2 ^ (bits - 1) + 2 ^ (bits - 1)
two_halves zero some = absurd (omega arith)
two_halves (suc b) some = let b_is : suc b - 1 ≡ b = omega arith in rw b_is (two-pow-succ b)

-- the address of a prefix of a block is one of the lower half
pub IsIn-low : (first bits : ℕ) (k : Prefix) → IsIn first bits k → k.addr < first + 2 ^ (bits - 1)
    → IsIn first (bits - 1) k
IsIn-low first bits k key lower = record { least = key.least; most = lower }

-- or of the upper one
pub IsIn-high : (first bits : ℕ) (k : Prefix) → 0 < bits → IsIn first bits k → first + 2 ^ (bits - 1) ≤ k.addr
    → IsIn (first + 2 ^ (bits - 1)) (bits - 1) k
IsIn-high first bits k some key upper =
    record { least = upper; most = omega (arith, key.most, two_halves bits some) }

-- a block is a part of itself
pub IsPart-self : (first bits : ℕ) → IsPart first bits first bits
unfolding IsPart
IsPart-self first zero = (refl, refl)
IsPart-self first (suc b) = inl (refl, refl)

-- a part of the lower half is a part of the block
pub IsPart-low : (first bits from size : ℕ) → 0 < bits → IsPart first (bits - 1) from size
    → IsPart first bits from size
unfolding IsPart
IsPart-low first zero from size some part = absurd (omega arith)
IsPart-low first (suc b) from size some part =
    let b_is : suc b - 1 ≡ b = omega arith in inr (inl (rw b_is at part))

-- so is a part of the upper one
pub IsPart-high : (first bits from size : ℕ) → 0 < bits → IsPart (first + 2 ^ (bits - 1)) (bits - 1) from size
    → IsPart first bits from size
unfolding IsPart
IsPart-high first zero from size some part = absurd (omega arith)
IsPart-high first (suc b) from size some part =
    let b_is : suc b - 1 ≡ b = omega arith in inr (inr (rw b_is at part))

-- a part has no more bits
pub part_bits : (first bits from size : ℕ) → IsPart first bits from size → size ≤ bits
unfolding IsPart
part_bits first zero from size part = omega (arith, part.1)
part_bits first (suc b) from size part = elim part [
  | inl same ↦ omega (arith, same.1)
  | inr half ↦ elim half [
    | inl low ↦ omega (arith, part_bits first b from size low)
    | inr high ↦ omega (arith, part_bits (first + 2 ^ b) b from size high)
  ]
]

-- and its addresses are addresses of the block
pub part_least : (first bits from size : ℕ) → IsPart first bits from size → first ≤ from
unfolding IsPart
part_least first zero from size part = omega (arith, part.0)
part_least first (suc b) from size part = elim part [
  | inl same ↦ omega (arith, same.0)
  | inr half ↦ elim half [
    | inl low ↦ part_least first b from size low
    | inr high ↦ omega (arith, part_least (first + 2 ^ b) b from size high)
  ]
]

pub part_most : (first bits from size : ℕ) → IsPart first bits from size → from + 2 ^ size ≤ first + 2 ^ bits
unfolding IsPart
part_most first zero from size part = rw (part.0, part.1) (omega arith)
part_most first (suc b) from size part = elim part [
  | inl same ↦ rw (same.0, same.1) (omega arith)
  | inr half ↦ elim half [
    | inl low ↦ omega (arith, part_most first b from size low, two-pow-succ b)
    | inr high ↦ omega (arith, part_most (first + 2 ^ b) b from size high, two-pow-succ b)
  ]
]

-- a part of a part is a part
pub IsPart-trans : (first bits from size start count : ℕ) → IsPart first bits from size → IsPart from size start count
    → IsPart first bits start count
unfolding IsPart
IsPart-trans first zero from size start count outer inner =
    subst (λ (s : ℕ). IsPart first s start count) outer.1
    (subst (λ (f : ℕ). IsPart f size start count) outer.0 inner)
IsPart-trans first (suc b) from size start count outer inner = elim outer [
  | inl same ↦ subst (λ (s : ℕ). IsPart first s start count) same.1
      (subst (λ (f : ℕ). IsPart f size start count) same.0 inner)
  | inr half ↦ elim half [
    | inl low ↦ inr (inl (IsPart-trans first b from size start count low inner))
    | inr high ↦ inr (inr (IsPart-trans (first + 2 ^ b) b from size start count high inner))
  ]
]

same_block : (first bits from size : ℕ) (k : Prefix) → from ≡ first → size ≡ bits → IsIn first bits k → IsIn from size k
same_block first bits from size k f s key =
    record { least = omega (arith, key.least); most = rw (f, s) key.most }

-- a block with an address that a part has not has two halves
pub part_some : (first bits from size : ℕ) (k : Prefix) → IsPart first bits from size → IsIn first bits k
    → (IsIn from size k → ⊥) → 0 < bits
unfolding IsPart
part_some first zero from size k part key apart = absurd (apart (same_block first 0 from size k part.0 part.1 key))
part_some first (suc b) from size k part key apart = omega arith

-- and the part is a part of one of them
pub IsPart-in_low : (first bits from size : ℕ) (k : Prefix) → IsPart first bits from size → IsIn first bits k
    → (IsIn from size k → ⊥) → from < first + 2 ^ (bits - 1) → IsPart first (bits - 1) from size
unfolding IsPart
IsPart-in_low first zero from size k part key apart lower =
    absurd (apart (same_block first 0 from size k part.0 part.1 key))
IsPart-in_low first (suc b) from size k part key apart lower =
    let b_is : suc b - 1 ≡ b = omega arith in
    let under : from < first + 2 ^ b = rw b_is at lower in
    rw b_is (elim part [
      | inl same ↦ absurd (apart (same_block first (suc b) from size k same.0 same.1 key))
      | inr half ↦ elim half [
        | inl low ↦ low
        | inr high ↦ absurd (omega (arith, part_least (first + 2 ^ b) b from size high))
      ]
    ])

pub IsPart-in_high : (first bits from size : ℕ) (k : Prefix) → IsPart first bits from size → IsIn first bits k
    → (IsIn from size k → ⊥) → first + 2 ^ (bits - 1) ≤ from → IsPart (first + 2 ^ (bits - 1)) (bits - 1) from size
unfolding IsPart
IsPart-in_high first zero from size k part key apart upper =
    absurd (apart (same_block first 0 from size k part.0 part.1 key))
IsPart-in_high first (suc b) from size k part key apart upper =
    let b_is : suc b - 1 ≡ b = omega arith in
    let over : first + 2 ^ b ≤ from = rw b_is at upper in
    rw b_is (elim part [
      | inl same ↦ absurd (apart (same_block first (suc b) from size k same.0 same.1 key))
      | inr half ↦ elim half [
        | inl low ↦ absurd (omega (arith, over, part_most first b from size low, pow_pos size))
        | inr high ↦ high
      ]
    ])

pub ruleset halves = (part_some, IsPart-low, IsPart-high, IsPart-in_low, IsPart-in_high, IsIn-low, IsIn-high)

pub ruleset parts = (IsPart-self, halves)

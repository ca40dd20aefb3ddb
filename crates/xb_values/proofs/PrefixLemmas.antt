-- Laws of prefixes.
use Rattle.std.proofs.Common.{inl, inr, [], ◌∷◌, length, Some, None, ◌&&◌, nat_le, ◌≡◌, ℕ, ◌+◌, ◌-◌, ◌*◌, ◌/◌, ◌^◌, ◌<◌}
use Rattle.std.proofs.Common.{◌≤◌, ap, arith}
use Rattle.std.specs.Cmp.{IsTotalOrder}
use Rattle.std.specs.Ordering.{nat_cmp}
use Rattle.std.specs.declared.cmp.Ordering.TheVariants.{Equal}
use Rattle.std.proofs.lemmas.Cmp.{nat_cmp_total, on_total, then_total}
use Rattle.std.proofs.lemmas.Map.Lookups.{exact_pairs, exact_unsigned}
use Rattle.std.proofs.lemmas.Nat.{pow_pos}
use Rattle.std.proofs.Math.Nat.{mul-div_cancel, div-mul-le_self}
use Rattle.std.proofs.lemmas.Bool.{cases_Bool, and_parts, leb-true}
use Rattle.xb_words.specs.Cut.{IsSize}
use Rattle.xb_values.specs.Prefixes.{Prefix, prefix_of, prefix_cmp, IsPrefix, octets_for, prefix_size}

cleared-cleared : (a s : ℕ) → 0 < s → a / s * s / s * s ≡ a / s * s
cleared-cleared a s h = ap (λ (q : ℕ). q * s) (mul-div_cancel (a / s) h)

-- `prefix_of` gives prefixes
pub prefix_of_is_prefix : (addr len : ℕ) → addr < 2 ^ 32 → len ≤ 32 → IsPrefix (prefix_of addr len)
prefix_of_is_prefix addr len word short =
    record {
      len = short;
      addr = omega (arith, div-mul-le_self addr (2 ^ (32 - len)));
      clear = cleared-cleared addr
          (2 ^ (32 - len)) (pow_pos (32 - len));
    }

-- a prefix has at least its length, and does not pass the end
pub prefix_size_is_size : IsSize prefix_size
prefix_size_is_size [] n e = cc
prefix_size_is_size (len ∷ rest) n e =
    elim (cases_Bool (nat_le len 32 && nat_le (octets_for len) (length rest))) [
      | inl fits ↦
          let size : Some (1 + octets_for len) ≡ Some n = rw fits at e in
          let n_is : 1 + octets_for len ≡ n = cc size in
          let here : octets_for len ≤ length rest = leb-true (octets_for len) (length rest) (and_parts _ _ fits).1 in
          (omega (arith, n_is), omega (arith, n_is, here))
      | inr short ↦ let none : None ≡ Some n = rw short at e in cc none
    ]

-- the order of prefixes is total
pub prefix_total : IsTotalOrder prefix_cmp
prefix_total =
    then_total (on_total (λ (p : Prefix). p.addr) nat_cmp_total) (on_total (λ (p : Prefix). p.len) nat_cmp_total)

-- equal prefixes are one
pub prefix_exact : (a b : Prefix) → prefix_cmp a b ≡ Equal → a ≡ b
prefix_exact a b e =
    ap (λ (x : ℕ × ℕ). record { addr = x.0; len = x.1 })
    (exact_pairs nat_cmp nat_cmp exact_unsigned exact_unsigned (a.addr, a.len) (b.addr, b.len) e)

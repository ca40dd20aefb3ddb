-- Numbers and their octets, little-endian.
use Rattle.std.proofs.Common.{◌≡◌, refl, ap, ℕ, zero, suc, ◌≤◌, ◌∷◌, length, take, arith}
use Rattle.std.specs.Int.{bytes_low_first, byte_at}

-- the low octets of a number are the first of all its octets
pub take-bytes_low_first : (n i k m : ℕ) → n ≤ k → take n (bytes_low_first i k m) ≡ bytes_low_first i n m
take-bytes_low_first zero i k m h = refl
take-bytes_low_first (suc n) i zero m h = absurd (omega arith)
take-bytes_low_first (suc n) i (suc k) m h = ap (λ l. byte_at i m ∷ l) (take-bytes_low_first n (suc i) k m (omega arith))

-- the octets of a number are as many as asked for
pub length-bytes_low_first : (i n m : ℕ) → length (bytes_low_first i n m) ≡ n
length-bytes_low_first i zero m = refl
length-bytes_low_first i (suc n) m = omega (arith, length-bytes_low_first (suc i) n m)

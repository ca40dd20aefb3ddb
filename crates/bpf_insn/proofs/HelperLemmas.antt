-- Sets of helpers.
use Rattle.std.proofs.Common.{◌≡◌, refl, ℕ, zero, suc, false, get_or, replicate}

-- no number is in a set of `false`
pub get_or-replicate : (k n : ℕ) → get_or (replicate k false) n false ≡ false
get_or-replicate zero n = refl
get_or-replicate (suc k) zero = refl
get_or-replicate (suc k) (suc n) = get_or-replicate k n

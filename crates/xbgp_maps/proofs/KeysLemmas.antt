-- Keys whose first octets differ as numbers have the order of these, and others have that of the rest.
use Rattle.std.proofs.Common.{◌≡◌, ℕ, zero, suc, ◌+◌, ◌*◌, ◌<◌, ◌≤◌, List, [], ◌∷◌, length, drop, get_or, refl, ◌∙◌, ap, arith}
use Rattle.std.specs.declared.cmp.Ordering.TheVariants.{Less, Greater}
use Rattle.std.specs.Ordering.{nat_cmp, ordering_then, ordering_reverse}
use Rattle.std.proofs.lemmas.Cmp.{nat_list_cmp_total, by_ranked, ranked}
use Rattle.std.proofs.lemmas.Nat.{same_from_place}
use Rattle.xb_words.specs.Octets.{AreOctets}
use Rattle.xbgp_maps.specs.Keys.{head_of}
use Rattle.xbgp_maps.specs.Mappings.{key_cmp}

-- 256 to the n
abbrev pub weight : ℕ → ℕ
weight zero = 1
weight (suc n) = 256 * weight n

-- the number of the first n octets
abbrev pub lead : ℕ → List ℕ → ℕ
lead zero s = 0
lead (suc n) [] = 0
lead (suc n) (x ∷ s) = x * weight n + lead n s

-- numbers below 256 are octets
pub AreOctets-from_range : (s : List ℕ) → ((k : ℕ) → get_or s k 0 < 256) → AreOctets s
AreOctets-from_range [] h = tt
AreOctets-from_range (b ∷ s) h = (h 0, AreOctets-from_range s (λ k. h (suc k)))

-- a product of one more is larger by one factor at least
more_times : (x y p : ℕ) → x < y → x * p + p ≤ y * p
more_times x y p less = grind arith

weight-some : (n : ℕ) → 0 < weight n
weight-some zero = omega arith
weight-some (suc n) = omega (arith, weight-some n)

-- n octets are less than 256 to the n
pub lead-bound : (n : ℕ) (s : List ℕ) → AreOctets s → lead n s < weight n
lead-bound zero s octets = omega arith
lead-bound (suc n) [] octets = omega (arith, weight-some n)
lead-bound (suc n) (x ∷ s) octets =
    let below = lead-bound n s octets.1 in
    let here = more_times x 256 (weight n) octets.0 in
    omega (arith, below, here)

-- a lower number, a lower key
pub lead-less : (n : ℕ) (a b : List ℕ) → AreOctets a → AreOctets b → lead n a < lead n b → key_cmp a b ≡ Less
lead-less zero a b p q less = absurd (omega (arith, less))
lead-less (suc n) [] [] p q less = absurd (omega (arith, less))
lead-less (suc n) [] (y ∷ ys) p q less = refl
lead-less (suc n) (x ∷ xs) [] p q less = absurd (omega (arith, less))
lead-less (suc n) (x ∷ xs) (y ∷ ys) p q less =
    by_ranked (x < y) (x ≡ y) (y < x) (nat_cmp x y) (ranked x y (nat_cmp x y) refl)
    (λ e _. ap (λ o. ordering_then o (key_cmp xs ys)) e)
    (λ e same.
    let below : lead n xs < lead n ys = let f = ap (λ z. z * weight n) same in omega (arith, less, f) in
    ap (λ o. ordering_then o (key_cmp xs ys)) e ∙ lead-less n xs ys p.1 q.1 below)
    (λ e more. absurd (omega (arith, less, more_times y x (weight n) more, lead-bound n ys q.1)))

-- a greater number, a greater key
pub lead-greater : (n : ℕ) (a b : List ℕ) → AreOctets a → AreOctets b → lead n b < lead n a → key_cmp a b ≡ Greater
lead-greater n a b p q less = nat_list_cmp_total.antisymm a b ∙ ap ordering_reverse (lead-less n b a q p less)

-- where the numbers are the same, the rest decides
pub lead-same : (n : ℕ) (a b : List ℕ) → AreOctets a → AreOctets b → n ≤ length a → n ≤ length b → lead n a ≡ lead n b → key_cmp a b ≡ key_cmp (drop n a) (drop n b)
lead-same zero a b p q long wide same = refl
lead-same (suc n) [] b p q long wide same = absurd (omega (arith, long))
lead-same (suc n) (x ∷ xs) [] p q long wide same = absurd (omega (arith, wide))
lead-same (suc n) (x ∷ xs) (y ∷ ys) p q long wide same =
    let parts = same_from_place x (lead n xs) y (lead n ys) (weight n) (lead-bound n xs p.1) (lead-bound n ys q.1) same in
    by_ranked (x < y) (x ≡ y) (y < x) (nat_cmp x y) (ranked x y (nat_cmp x y) refl)
    (λ e less. absurd (omega (arith, less, parts.0)))
    (λ e _. ap (λ o. ordering_then o (key_cmp xs ys)) e ∙ lead-same n xs ys p.1 q.1 (omega (arith, long)) (omega (arith, wide)) parts.1)
    (λ e more. absurd (omega (arith, more, parts.0)))

-- the head of a key is the number of its first eight octets
pub lead-head_of : (s : List ℕ) → 8 ≤ length s → lead 8 s ≡ head_of s
lead-head_of [] long = absurd (omega (arith, long))
lead-head_of (a ∷ []) long = absurd (omega (arith, long))
lead-head_of (a ∷ b ∷ []) long = absurd (omega (arith, long))
lead-head_of (a ∷ b ∷ c ∷ []) long = absurd (omega (arith, long))
lead-head_of (a ∷ b ∷ c ∷ d ∷ []) long = absurd (omega (arith, long))
lead-head_of (a ∷ b ∷ c ∷ d ∷ e ∷ []) long = absurd (omega (arith, long))
lead-head_of (a ∷ b ∷ c ∷ d ∷ e ∷ f ∷ []) long = absurd (omega (arith, long))
lead-head_of (a ∷ b ∷ c ∷ d ∷ e ∷ f ∷ g ∷ []) long = absurd (omega (arith, long))
lead-head_of (a ∷ b ∷ c ∷ d ∷ e ∷ f ∷ g ∷ h ∷ s) long = omega arith

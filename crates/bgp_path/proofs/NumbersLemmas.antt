-- Lemmas on AS numbers as octets.
use Rattle.std.proofs.Common.{◌≡◌, refl, sym, ap, ◌∙◌, subst, ℕ, zero, suc, ◌+◌, ◌-◌, ◌*◌, ◌<◌, ◌≤◌, Bool, true, false}
use Rattle.std.proofs.Common.{List, [], ◌∷◌, ◌++◌, length, take, drop, flat_map, get_or, arith}
use Rattle.std.proofs.lemmas.Bool.{ne_eqb}
use Rattle.std.proofs.lemmas.List.{length-drop, take-append-drop}
use Rattle.std.proofs.lemmas.Nat.{be_bytes_2, be_bytes_4}
use Rattle.std.specs.Prelude.{◌||◌, ◌==◌}
use Rattle.std.specs.List.{list_any}
use Rattle.xb_words.specs.Octets.{AreOctets}
use Rattle.xb_words.proofs.ListLemmas.{AllByRecursion-right}
use Rattle.bgp_attr.specs.Paths.{first_number, number_octets, numbers_of}
use Rattle.bgp_attr.specs.Paths.{width_of}

-- octets without the first n are octets
pub AreOctets-drop : (n : ℕ) (s : List ℕ) → AreOctets s → AreOctets (drop n s)
AreOctets-drop n s h = let P : List ℕ → Type 0 = λ t. AreOctets t in AllByRecursion-right (λ b. b < 256) (take n s) (drop n s) (subst P (sym (take-append-drop n s)) h)

-- each of some octets is less than 256
pub get_or-AreOctets : (s : List ℕ) → AreOctets s → (i : ℕ) → get_or s i 0 < 256
get_or-AreOctets [] h i = omega arith
get_or-AreOctets (x ∷ s) h zero = h.0
get_or-AreOctets (x ∷ s) h (suc i) = get_or-AreOctets s h.1 i

-- numbers that are less than 256 are octets
pub AreOctets-from_get_or : (s : List ℕ) → ((i : ℕ) → get_or s i 0 < 256) → AreOctets s
AreOctets-from_get_or [] h = tt
AreOctets-from_get_or (x ∷ s) h = (h 0, AreOctets-from_get_or s (λ i. h (suc i)))

-- the number at the front, written again
pub number_octets-first_number : (wide : Bool) (s : List ℕ) → width_of wide ≤ length s → AreOctets s → number_octets (width_of wide) (first_number (width_of wide) s) ≡ take (width_of wide) s
number_octets-first_number false [] h o = absurd (omega (arith, h))
number_octets-first_number false (a ∷ []) h o = absurd (omega (arith, h))
number_octets-first_number false (a ∷ b ∷ t) h o = be_bytes_2 (a ∷ b ∷ []) _ refl (get_or-AreOctets (a ∷ b ∷ []) (o.0, (o.1.0, tt))) refl
number_octets-first_number true [] h o = absurd (omega (arith, h))
number_octets-first_number true (a ∷ []) h o = absurd (omega (arith, h))
number_octets-first_number true (a ∷ b ∷ []) h o = absurd (omega (arith, h))
number_octets-first_number true (a ∷ b ∷ c ∷ []) h o = absurd (omega (arith, h))
number_octets-first_number true (a ∷ b ∷ c ∷ d ∷ t) h o =
    be_bytes_4 (a ∷ b ∷ c ∷ d ∷ []) _ refl (get_or-AreOctets (a ∷ b ∷ c ∷ d ∷ []) (o.0, (o.1.0, (o.1.1.0, (o.1.1.1.0, tt))))) refl

-- as many AS numbers are read as the count says
pub length-numbers_of : (w n : ℕ) (s : List ℕ) → length (numbers_of w n s) ≡ n
length-numbers_of w zero s = refl
length-numbers_of w (suc n) s = ap suc (length-numbers_of w n (drop w s))

-- the numbers of octets, written again
pub flat_map-numbers_of : (wide : Bool) (n : ℕ) (s : List ℕ) → length s ≡ width_of wide * n → AreOctets s → flat_map (number_octets (width_of wide)) (numbers_of (width_of wide) n s) ≡ s
flat_map-numbers_of wide zero [] e o = refl
flat_map-numbers_of wide zero (b ∷ s) e o = absurd (omega (arith, e))
flat_map-numbers_of wide (suc n) s e o =
    let w = width_of wide in
    let more : length s ≡ w + w * n = e ∙ omega arith in
    let later : length (drop w s) ≡ w * n = length-drop w s ∙ omega (arith, more) in
    ap (λ t. t ++ flat_map (number_octets w) (numbers_of w n (drop w s))) (number_octets-first_number wide s (omega (arith, more)) o)
    ∙ ap (λ t. take w s ++ t) (flat_map-numbers_of wide n (drop w s) later (AreOctets-drop w s o))
    ∙ take-append-drop w s

-- the first AS number and those after it
pub numbers_of-cons : (w n : ℕ) (s : List ℕ) → 0 < n → numbers_of w n s ≡ first_number w s ∷ numbers_of w (n - 1) (drop w s)
numbers_of-cons w zero s h = absurd (omega (arith, h))
numbers_of-cons w (suc n) s h = ap (λ m. first_number w s ∷ numbers_of w m (drop w s)) (let e : n ≡ suc n - 1 = omega arith in e)

-- an AS number that is not the first is among the others or not at all
pub list_any-numbers_of-rest : (w n asn : ℕ) (s t : List ℕ) → 0 < n → (first_number w s ≡ asn → ⊥) → t ≡ drop w s
    → list_any (λ x. x == asn) (numbers_of w (n - 1) t) ≡ list_any (λ x. x == asn) (numbers_of w n s)
list_any-numbers_of-rest w n asn s t some other rest =
    ap (λ r. list_any (λ x. x == asn) (numbers_of w (n - 1) r)) rest
    ∙ ap (λ b. b || list_any (λ x. x == asn) (numbers_of w (n - 1) (drop w s))) (sym (ne_eqb (first_number w s) asn other))
    ∙ ap (list_any (λ x. x == asn)) (sym (numbers_of-cons w n s some))

-- after the first AS number, the octets of one fewer are left
pub length-numbers_rest : (w n : ℕ) (s t : List ℕ) → 0 < n → length s ≡ w * n → t ≡ drop w s → length t ≡ w * (n - 1)
length-numbers_rest w zero s t some whole rest = absurd (omega (arith, some))
length-numbers_rest w (suc n) s t some whole rest =
    let more : length s ≡ w + w * n = whole ∙ omega arith in
    let fewer : length s - w ≡ w * n = omega (arith, more) in
    ap length rest ∙ length-drop w s ∙ fewer ∙ ap (λ m. w * m) (let e : n ≡ suc n - 1 = omega arith in e)

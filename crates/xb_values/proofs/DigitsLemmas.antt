-- The digits of octets that are appended eight at a time.
use Rattle.std.proofs.Common.{◌≡◌, refl, sym, ap, ◌∙◌, ℕ, ◌+◌, ◌-◌, ◌*◌, ◌≤◌, List, [], ◌∷◌, ◌++◌, length, take, drop}
use Rattle.std.proofs.Common.{get_or, flat_map, arith, length-append}
use Rattle.std.proofs.lemmas.List.{append_assoc, take_rest, length-drop}
use Rattle.xb_values.specs.Buffers.{Buffer}
use Rattle.xb_values.specs.Texts.{hex_octet}

-- the digits of the first eight octets are appended, and those of the others are left
pub digits_of_eight : (old new : Buffer) (rest : List ℕ) → 8 ≤ length rest
    → new ≡ record old { octets = old.octets ++ flat_map hex_octet (get_or rest 0 0 ∷ get_or rest 1 0 ∷ get_or rest 2 0 ∷ get_or rest 3 0 ∷ get_or rest 4 0 ∷ get_or rest 5 0 ∷ get_or rest 6 0 ∷ get_or rest 7 0 ∷ []) }
    → (new.octets ++ flat_map hex_octet (take (length rest - 8) (drop 8 rest)) ≡ old.octets ++ flat_map hex_octet rest)
    × (new.capacity ≡ old.capacity)
    × (length new.octets + 2 * length (take (length rest - 8) (drop 8 rest)) ≡ length old.octets + 2 * length rest)
digits_of_eight old new [] eight is = absurd (omega arith)
digits_of_eight old new (a ∷ []) eight is = absurd (omega arith)
digits_of_eight old new (a ∷ b ∷ []) eight is = absurd (omega arith)
digits_of_eight old new (a ∷ b ∷ c ∷ []) eight is = absurd (omega arith)
digits_of_eight old new (a ∷ b ∷ c ∷ d ∷ []) eight is = absurd (omega arith)
digits_of_eight old new (a ∷ b ∷ c ∷ d ∷ e ∷ []) eight is = absurd (omega arith)
digits_of_eight old new (a ∷ b ∷ c ∷ d ∷ e ∷ f ∷ []) eight is = absurd (omega arith)
digits_of_eight old new (a ∷ b ∷ c ∷ d ∷ e ∷ f ∷ g ∷ []) eight is = absurd (omega arith)
digits_of_eight old new (a ∷ b ∷ c ∷ d ∷ e ∷ f ∷ g ∷ h ∷ rest) eight is =
    let first = flat_map hex_octet (a ∷ b ∷ c ∷ d ∷ e ∷ f ∷ g ∷ h ∷ []) in
    let all = a ∷ b ∷ c ∷ d ∷ e ∷ f ∷ g ∷ h ∷ rest in
    let octets : new.octets ≡ old.octets ++ first = ap (λ (n : Buffer). n.octets) is in
    let left : take (length all - 8) (drop 8 all) ≡ rest = take_rest all 8 in
    let sixteen : length first ≡ 16 = refl in (
      ap (λ (t : List ℕ). t ++ flat_map hex_octet (take (length all - 8) (drop 8 all))) octets
          ∙ ap (λ (t : List ℕ). (old.octets ++ first) ++ flat_map hex_octet t) left
          ∙ append_assoc old.octets first (flat_map hex_octet rest),
      ap (λ (n : Buffer). n.capacity) is,
      omega (arith, ap length octets, length-append old.octets first, sixteen, ap length left),
    )

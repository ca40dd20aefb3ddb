-- Quotients with signs, over half of the range h and the whole range.
use Rattle.std.proofs.Common.{◌≡◌, refl, sym, ap, ◌∙◌, ℕ, zero, suc, ◌+◌, ◌-◌, ◌/◌, ◌%◌, ◌<◌, ◌≤◌, ◌^◌, true, false}
use Rattle.std.proofs.Common.{arith, inl, inr}
use Rattle.std.specs.Prelude.{ℤ, pos, negsuc, neg_ℤ, int_div, nat_lt, nat_le, not, if◌then◌else◌}
use Rattle.std.specs.Int.{Width, cast_signed, cast_unsigned, int_wrapping_div}
use Rattle.std.proofs.lemmas.Bool.{cases_Bool, ltb-true, ltb-false}
use Rattle.std.proofs.lemmas.Bool.Decides.{nat_tests}
use Rattle.std.proofs.lemmas.Int.{of_z-to_z}
use Rattle.std.proofs.Math.Nat.{div-le_self, mod-eq_of_lt, mod-lt, mod_self}
use mir.Val.{bits, hbits}

-- a number of the range with its sign, and back
abbrev pub with_sign : ℕ → ℕ → ℕ → ℤ
with_sign h B n = if nat_lt n h then pos n else negsuc (B - suc n)

abbrev pub without_sign : ℕ → ℤ → ℕ
without_sign B (pos n) = n
without_sign B (negsuc n) = B - suc n

-- an absolute value that gets the sign
without_sign-neg : (B q : ℕ) → q < B → without_sign B (neg_ℤ (pos q)) ≡ (B - q) % B
without_sign-neg B zero h = let whole : B - 0 ≡ B = omega arith in rw (whole, mod_self B) refl
without_sign-neg B (suc q) h = sym (mod-eq_of_lt (omega arith))

-- the quotient of the absolute values, with the sign of the quotient
abbrev signed : ℕ → ℕ → ℕ → ℕ → ℕ
signed h B x y =
    let q = (if nat_le h x then B - x else x) / (if nat_le h y then B - y else y) in
    if (if nat_le h x then not (nat_le h y) else nat_le h y) then (B - q) % B else q % B

signed-in : (h B x y : ℕ) → 0 < B → signed h B x y < B
signed-in h B x y some =
    elim (if nat_le h x then not (nat_le h y) else nat_le h y) as (λ m. (let q = (if nat_le h x then B - x else x) / (if nat_le h y then B - y else y) in if m then (B - q) % B else q % B) < B) [
      | true ↦ mod-lt _ some
      | false ↦ mod-lt _ some
    ]

quotient_is : (h B x y : ℕ) → B ≡ h + h → x < B → y < B → without_sign B (int_div (with_sign h B x) (with_sign h B y)) ≡ signed h B x y
quotient_is h B x y range x_in y_in =
    elim (cases_Bool (nat_lt x h)) [
      | inl a ↦
          let p : nat_le h x ≡ false = grind (arith, nat_tests) in
          elim (cases_Bool (nat_lt y h)) [
            | inl b ↦
                let q : nat_le h y ≡ false = grind (arith, nat_tests) in
                rw (a, b, p, q) (sym (mod-eq_of_lt (omega (arith, div-le_self x y))))
            | inr b ↦
                let q : nat_le h y ≡ true = grind (arith, nat_tests) in
                let e : suc (B - suc y) ≡ B - y = omega arith in
                rw (a, b, p, q, e) (without_sign-neg B (x / (B - y)) (omega (arith, div-le_self x (B - y))))
          ]
      | inr a ↦
          let p : nat_le h x ≡ true = grind (arith, nat_tests) in
          let d : suc (B - suc x) ≡ B - x = omega arith in
          let above : h ≤ x = ltb-false x h a in
          elim (cases_Bool (nat_lt y h)) [
            | inl b ↦
                let q : nat_le h y ≡ false = grind (arith, nat_tests) in
                elim (cases_Bool (nat_lt 0 h)) [
                  | inl some ↦
                      let most : 0 < h = ltb-true 0 h some in
                      rw (a, b, p, q, d) (without_sign-neg B ((B - x) / y) (omega (arith, div-le_self (B - x) y)))
                  | inr none ↦ absurd (let empty : h ≤ 0 = ltb-false 0 h none in omega arith)
                ]
            | inr b ↦
                let q : nat_le h y ≡ true = grind (arith, nat_tests) in
                let e : suc (B - suc y) ≡ B - y = omega arith in
                let most : 0 < h = omega arith in
                rw (a, b, p, q, d, e) (sym (mod-eq_of_lt (omega (arith, div-le_self (B - x) (B - y)))))
          ]
    ]

-- the code, which divides signed numbers
pub signed-wrapping_div : (w : Width) (x y : ℕ) (p q d : ℤ) (r : ℕ) → 2 ^ bits w ≡ 2 ^ hbits w + 2 ^ hbits w → x < 2 ^ bits w → y < 2 ^ bits w
    → p ≡ cast_signed w x → q ≡ cast_signed w y
    → d ≡ int_wrapping_div w (cast_signed w (cast_unsigned w p)) (cast_signed w (cast_unsigned w q))
    → r ≡ cast_unsigned w (cast_signed w (cast_unsigned w d))
    → r ≡ signed (2 ^ hbits w) (2 ^ bits w) x y
signed-wrapping_div w x y p q d r range x_in y_in p_is q_is d_is r_is =
    let h = 2 ^ hbits w in
    let B = 2 ^ bits w in
    let first : cast_unsigned w p ≡ x = ap (cast_unsigned w) p_is ∙ of_z-to_z w x x_in in
    let second : cast_unsigned w q ≡ y = ap (cast_unsigned w) q_is ∙ of_z-to_z w y y_in in
    let n : cast_unsigned w (int_div (cast_signed w x) (cast_signed w y)) ≡ signed h B x y = quotient_is h B x y range x_in y_in in
    let inside : signed h B x y < B = signed-in h B x y (omega arith) in
    let whole : d ≡ cast_signed w (signed h B x y) = rw (first, second) at d_is ∙ ap (cast_signed w) n in
    let back : cast_unsigned w d ≡ signed h B x y = ap (cast_unsigned w) whole ∙ of_z-to_z w (signed h B x y) inside in
    r_is ∙ ap (λ m. cast_unsigned w (cast_signed w m)) back ∙ of_z-to_z w (signed h B x y) inside

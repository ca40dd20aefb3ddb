-- Texts that are read: their parts, and what their digits say.
use Rattle.std.proofs.Common.{◌≡◌, refl, sym, ap, ◌∙◌, inl, inr, ℕ, ◌+◌, ◌-◌, ◌*◌, ◌^◌, ◌<◌, ◌≤◌, Bool, true, false}
use Rattle.std.proofs.Common.{◌&&◌, ◌==◌, if◌then◌else◌, List, [], ◌∷◌, length, take, drop, map, Option, Some, None}
use Rattle.std.proofs.Common.{position, nat_le, arith, suc, get_or, drop-cons, ◌⊎◌, ◌↔◌, IsSome, IfSome}
use Rattle.std.specs.List.{list_all, position_or_len}
use Rattle.std.specs.Int.Digits.{number_from_digits_after}
use Rattle.std.proofs.lemmas.Int.Digits.{number_after_ge}
use Rattle.std.proofs.lemmas.Bool.{cases_Bool, cases_lt, and_parts, and_left, and_right, cond-false, leb-true}
use Rattle.std.proofs.lemmas.Bool.{leb-false, le-leb, lt-leb, lt-ltb, le-ltb, eqb-true, ne_eqb}
use Rattle.std.proofs.lemmas.List.{take_rest, drop_all}
use Rattle.std.specs.Option.{option_map}
use Rattle.xb_words.specs.Optional.{◌>>=◌}
use Rattle.xb_words.specs.Octets.{four_at}
use Rattle.xb_values.specs.Prefixes.{Prefix, prefix_of}
use Rattle.xb_values.specs.Readers.{split_on, with_first_octet, is_digit, is_decimal, digits_value, number_up_to}
use Rattle.xb_values.specs.Readers.{read_dotted, read_prefix}

-- the parts of a text, by the length of its first part
split_on-none : (c : ℕ) (text : List ℕ) → length text ≤ position_or_len (λ x. x == c) text → split_on c text ≡ text ∷ []
split_on-none c [] h = refl
split_on-none c (x ∷ text) h =
    elim (cases_Bool (x == c)) [
      | inl is ↦ let zero : length (x ∷ text) ≤ 0 = rw is at h in absurd (omega arith)
      | inr other ↦ let more : length (x ∷ text) ≤ 1 + position_or_len (λ x. x == c) text = rw other at h in rw other
          (ap (with_first_octet x) (split_on-none c text (omega arith)))
    ]

split_on-some : (c : ℕ) (text : List ℕ) (n : ℕ) → n ≡ position_or_len (λ x. x == c) text → n < length text
    → split_on c text ≡ take n text ∷ split_on c (drop (n + 1) text)
split_on-some c [] n e h = absurd (omega arith)
split_on-some c (x ∷ text) n e h =
    elim (cases_Bool (x == c)) [
      | inl is ↦ let zero : n ≡ 0 = rw is at e in rw zero (rw is refl)
      | inr other ↦
          let m = position_or_len (λ x. x == c) text in
          let more : n ≡ suc m = (rw other at e) ∙ omega arith in
          let next : suc m + 1 ≡ suc (m + 1) = omega arith in
          rw (more, next) (rw other (ap (with_first_octet x) (split_on-some c text m refl (omega arith))))
    ]

-- a text without the separator is its only part
pub split_on-whole : (c : ℕ) (text : List ℕ) → None ≡ position (λ x. x == c) text → split_on c text ≡ text ∷ []
split_on-whole c text e =
    elim (cases_lt (position_or_len (λ x. x == c) text) (length text)) [
      | inl lt ↦ let wrong : None ≡ Some (position_or_len (λ x. x == c) text) = rw (lt-ltb _ _ lt) at e in cc wrong
      | inr ge ↦ split_on-none c text ge
    ]

-- the first part of a text with the separator, and the parts of the rest
pub split_on-first : (c : ℕ) (text : List ℕ) (at : ℕ) → Some at ≡ position (λ x. x == c) text
    → split_on c text ≡ take at text ∷ split_on c (take (length text - (at + 1)) (drop (at + 1) text))
split_on-first c text at e =
    elim (cases_lt (position_or_len (λ x. x == c) text) (length text)) [
      | inl lt ↦
          let is : Some at ≡ Some (position_or_len (λ x. x == c) text) = rw (lt-ltb _ _ lt) at e in
          let at_is : at ≡ position_or_len (λ x. x == c) text = cc is in
          rw (take_rest text (at + 1)) (split_on-some c text at at_is (omega arith))
      | inr ge ↦ let wrong : Some at ≡ None = rw (le-ltb _ _ ge) at e in cc wrong
    ]

-- the number of digits after a value, if no step passes 64 bits (for the loop of `value_of`)
abbrev pub value_after : ℕ → List ℕ → Option ℕ
value_after value [] = Some value
value_after value (c ∷ text) =
    if is_digit c && nat_le (value * 10 + (c - 48)) (2 ^ 64 - 1) then value_after (value * 10 + (c - 48)) text else None

-- the number of a value and the digits after it, if it has at most 64 bits
abbrev value_then : ℕ → List ℕ → Option ℕ
value_then value text =
    let all = number_from_digits_after 10 value (map (λ c. c - 48) text) in
    if list_all is_digit text && nat_le all (2 ^ 64 - 1) then Some all else None

value_after-is : (value : ℕ) (text : List ℕ) → value ≤ 2 ^ 64 - 1 → value_after value text ≡ value_then value text
value_after-is value [] fits = rw (le-leb value (2 ^ 64 - 1) fits) refl
value_after-is value (c ∷ text) fits =
    elim (cases_Bool (is_digit c)) [
      | inl digit ↦
          let next = value * 10 + (c - 48) in
          elim (cases_Bool (nat_le next (2 ^ 64 - 1))) [
            | inl small ↦ rw (digit, small) (value_after-is next text (leb-true _ _ small))
            | inr big ↦
                let grows = number_after_ge 10 next (map (λ c. c - 48) text) (omega arith) in
                let passes : nat_le (number_from_digits_after 10 next (map (λ c. c - 48) text)) (2 ^ 64 - 1)
                ≡ false = lt-leb _ _ (omega (arith, leb-false _ _ big)) in
                rw (digit, big) (sym (cond-false _ _ None (and_right (list_all is_digit text) _ passes)))
          ]
      | inr none ↦ rw none refl
    ]

value_after-zero : (text : List ℕ)
    → value_after 0 text ≡ (if list_all is_digit text && nat_le (digits_value text) (2 ^ 64 - 1)
    then Some (digits_value text) else None)
value_after-zero text = value_after-is 0 text (omega arith)

-- the value at the end of the digits is their number
pub value_after-end : (value index : ℕ) (text : List ℕ) → length text ≤ index
    → value_after value (drop index text) ≡ value_after 0 text
    → Some value ≡ (if list_all is_digit text && nat_le (digits_value text) (2 ^ 64 - 1) then Some (digits_value text)
    else None)
value_after-end value index text ended e =
    let nothing : drop index text ≡ [] = drop_all index text ended in
    ap (value_after value) (sym nothing) ∙ e ∙ value_after-zero text

-- digits at which the value stops have no number of 64 bits
pub value_after-stop : (value index : ℕ) (text : List ℕ) → index < length text
    → value_after value (drop index text) ≡ value_after 0 text
    → None ≡ (if is_digit (get_or text index 0) && nat_le (value * 10 + (get_or text index 0 - 48)) (2 ^ 64 - 1)
    then Some (value * 10 + (get_or text index 0 - 48)) else None)
    → None ≡ (if list_all is_digit text && nat_le (digits_value text) (2 ^ 64 - 1) then Some (digits_value text)
    else None)
value_after-stop value index text lt e none =
    let c = get_or text index 0 in
    elim (cases_Bool (is_digit c && nat_le (value * 10 + (c - 48)) (2 ^ 64 - 1))) [
      | inl goes ↦ let wrong : None ≡ Some (value * 10 + (c - 48)) = rw goes at none in cc wrong
      | inr other ↦
          let stops : value_after value (drop index text) ≡ None = rw (drop-cons text index 0) (rw other refl) in
          sym stops ∙ e ∙ value_after-zero text
    ]

-- A text is its only part, or has two parts at least. Then it is not made of octets of a kind that the separator is not
-- of.
pub split_on-cases : (test : ℕ → Bool) (c : ℕ) (text : List ℕ) → test c ≡ false
    → (split_on c text ≡ text ∷ []) ⊎ ((p q : List ℕ) × (ps : List (List ℕ)) × (split_on c text ≡ p ∷ q ∷ ps)
    × (list_all test text ≡ false))
split_on-cases test c [] none = inl refl
split_on-cases test c (x ∷ text) none =
    elim (cases_Bool (x == c)) [
      | inl is ↦
          let here : test x ≡ false = rw (eqb-true x c is) none in
          elim (split_on-cases test c text none) [
            | inl e ↦ inr ([], text, [], rw (is, e) refl, and_left _ _ here)
            | inr (p, q, ps, e, other) ↦ inr ([], p, q ∷ ps, rw (is, e) refl, and_left _ _ here)
          ]
      | inr differs ↦
          elim (split_on-cases test c text none) [
            | inl e ↦ inl (rw (differs, e) refl)
            | inr (p, q, ps, e, other) ↦ inr (x ∷ p, q, ps, rw (differs, e) refl, and_right _ _ other)
          ]
    ]

-- a text that is not of digits has no number
pub number_up_to-none : (limit : ℕ) (text : List ℕ) → list_all is_digit text ≡ false → number_up_to limit text ≡ None
number_up_to-none limit [] e = refl
number_up_to-none limit (c ∷ []) e =
    elim (cases_Bool (is_digit c)) [
      | inl digit ↦ let wrong : true ≡ false = rw digit at e in cc wrong
      | inr other ↦ rw other refl
    ]
number_up_to-none limit (c ∷ d ∷ text) e = cond-false _ _ _ (and_left _ _ (and_right _ _ e))

-- an address of the four numbers
abbrev address_of : Option ℕ → Option ℕ → Option ℕ → Option ℕ → Option ℕ
address_of first second third fourth = do
  a ← first
  b ← second
  c ← third
  d ← fourth
  Some (four_at (a ∷ b ∷ c ∷ d ∷ []) 0)

-- an octet before others, if all are there
abbrev and_octet : Option ℕ → Option (List ℕ) → Option (List ℕ)
and_octet first others = do
  n ← first
  ns ← others
  Some (n ∷ ns)

four_octets_read : (a b c d : Option ℕ)
    → option_map (λ ns. four_at ns 0) (and_octet a (and_octet b (and_octet c (and_octet d (Some [])))))
    ≡ address_of a b c d
four_octets_read None b c d = refl
four_octets_read (Some m) None c d = refl
four_octets_read (Some m) (Some n) None d = refl
four_octets_read (Some m) (Some n) (Some o) None = refl
four_octets_read (Some m) (Some n) (Some o) (Some p) = refl

no_fourth : (a b c d : Option ℕ) → d ≡ None → None ≡ address_of a b c d
no_fourth None b c d e = refl
no_fourth (Some m) None c d e = refl
no_fourth (Some m) (Some n) None d e = refl
no_fourth (Some m) (Some n) (Some o) d e = rw e refl

-- an address by its parts, of which the last is what follows the third dot
read_dotted-parts : (text first second third fourth : List ℕ)
    → split_on 46 text ≡ first ∷ second ∷ third ∷ split_on 46 fourth
    → read_dotted text ≡ address_of (number_up_to 255 first) (number_up_to 255 second) (number_up_to 255 third)
    (number_up_to 255 fourth)
read_dotted-parts text first second third fourth e =
    elim (split_on-cases is_digit 46 fourth refl) [
      | inl one ↦ rw (e, one) (four_octets_read (number_up_to 255 first) (number_up_to 255 second)
          (number_up_to 255 third) (number_up_to 255 fourth))
      | inr (p, q, ps, more, other) ↦
          let five : (suc (suc (suc (suc (suc (length ps))))) == 4) ≡ false = ne_eqb _ _ (λ same. omega arith) in
          rw (e, more, five) (no_fourth (number_up_to 255 first) (number_up_to 255 second) (number_up_to 255 third)
          (number_up_to 255 fourth) (number_up_to-none 255 fourth other))
    ]

no_length : (address len : Option ℕ) → len ≡ None
    → let none : Option Prefix = None in none ≡ (address >>= λ a. len >>= λ l. Some (prefix_of a l))
no_length None len e = refl
no_length (Some a) len e = rw e refl

-- a prefix by its parts, of which the last is what follows the first slash
read_prefix-parts : (text address len : List ℕ) → split_on 47 text ≡ address ∷ split_on 47 len
    → read_prefix text ≡ (read_dotted address >>= λ a. number_up_to 32 len >>= λ l. Some (prefix_of a l))
read_prefix-parts text address len e =
    elim (split_on-cases is_digit 47 len refl) [
      | inl one ↦ rw (e, one) refl
      | inr (p, q, ps, more, other) ↦ rw (e, more) (no_length (read_dotted address) (number_up_to 32 len)
          (number_up_to-none 32 len other))
    ]

-- an address by what was read of its parts
pub read_dotted-by : (text first second third fourth two three : List ℕ) (a b c d : Option ℕ)
    → split_on 46 text ≡ first ∷ split_on 46 two → split_on 46 two ≡ second ∷ split_on 46 three
    → split_on 46 three ≡ third ∷ split_on 46 fourth
    → a ≡ number_up_to 255 first → b ≡ number_up_to 255 second → c ≡ number_up_to 255 third
    → d ≡ number_up_to 255 fourth → address_of a b c d ≡ read_dotted text
read_dotted-by text first second third fourth two three a b c d e f g is_a is_b is_c is_d =
    rw (is_a, is_b, is_c, is_d)
    (sym (read_dotted-parts text first second third fourth (e ∙ ap (λ p. first ∷ p) (f ∙ ap (λ p. second ∷ p) g))))

-- a prefix by what was read of its parts
pub read_prefix-by : (text address len : List ℕ) (a l : Option ℕ) → split_on 47 text ≡ address ∷ split_on 47 len
    → a ≡ read_dotted address → l ≡ number_up_to 32 len
    → (a >>= λ a. l >>= λ l. Some (prefix_of a l)) ≡ read_prefix text
read_prefix-by text address len a l e is_a is_l = rw (is_a, is_l) (sym (read_prefix-parts text address len e))

-- a number up to a limit is at most the limit
pub number_up_to-le : (limit n : ℕ) (text : List ℕ) → Some n ≡ number_up_to limit text → n ≤ limit
number_up_to-le limit n text e =
    elim (cases_Bool (is_decimal text && nat_le (digits_value text) limit)) [
      | inl fits ↦
          let same : Some n ≡ Some (digits_value text) = rw fits at e in
          let is : n ≡ digits_value text = cc same in
          omega (arith, is, leb-true (digits_value text) limit (and_parts (is_decimal text) _ fits).1)
      | inr wrong ↦ let none : Some n ≡ None = rw wrong at e in cc none
    ]

prefix_some : (made : Option Prefix) (a l : ℕ) → IsSome made ↔ (l ≤ 32) → IfSome made (λ p. p ≡ prefix_of a l) → l ≤ 32
    → made ≡ Some (prefix_of a l)
prefix_some None a l some value fits = let wrong : false ≡ true = some.1 fits in cc wrong
prefix_some (Some p) a l some value fits = ap Some value

-- a prefix of an address and a length that were read
pub read_prefix-made : (text address len : List ℕ) (a l : ℕ) (made : Option Prefix)
    → split_on 47 text ≡ address ∷ split_on 47 len → Some a ≡ read_dotted address → Some l ≡ number_up_to 32 len
    → IsSome made ↔ (l ≤ 32) → IfSome made (λ p. p ≡ prefix_of a l) → made ≡ read_prefix text
read_prefix-made text address len a l made e is_a is_l some value =
    prefix_some made a l some value (number_up_to-le 32 l len is_l)
    ∙ read_prefix-by text address len (Some a) (Some l) e is_a is_l

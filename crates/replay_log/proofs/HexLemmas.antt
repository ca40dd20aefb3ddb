-- Octets that are read from hexadecimal digits.
use Rattle.std.proofs.Common.{◌≡◌, refl, sym, ap, ◌∙◌, inl, inr, ℕ, ◌+◌, ◌-◌, ◌*◌, ◌<◌, ◌≤◌, Bool, true, false, ◌==◌}
use Rattle.std.proofs.Common.{◌&&◌, List, [], ◌∷◌, ◌++◌, length, take, drop, get_or, Option, Some, None, MatchOption}
use Rattle.std.proofs.Common.{nat_lt, nat_le, if◌then◌else◌, arith, length-append, zero, suc}
use Rattle.std.specs.Prelude.{unwrap_or}
use Rattle.std.specs.Option.{option_map}
use Rattle.std.proofs.lemmas.Bool.{cases_Bool, and_parts, eqb-true, leb-true, lt-ltb, le-ltb}
use Rattle.std.proofs.lemmas.List.{append_assoc, take_rest, length-drop}
use Rattle.xb_words.specs.Optional.{◌>>=◌}
use Rattle.xb_values.specs.Buffers.{Buffer}
use Rattle.xb_values.specs.Readers.{hex_value, read_hex}
use Rattle.replay_log.specs.declared.hex.TheConstants.{NO_DIGIT, VALUES}
use Rattle.replay_log.specs.Lines.{octet_value}

-- the values are those of the octets from c on
are_values : ℕ → List ℕ → Bool
are_values c [] = true
are_values c (v ∷ values) = v == unwrap_or (hex_value c) NO_DIGIT && are_values (suc c) values

value-at : (c n : ℕ) (values : List ℕ) → are_values c values ≡ true → n < length values → get_or values n 0 ≡ unwrap_or (hex_value (c + n)) NO_DIGIT
unfolding are_values
value-at c n [] are less = absurd (omega arith)
value-at c zero (v ∷ values) are less = let same : c + 0 ≡ c = omega arith in rw same (eqb-true v _ (and_parts _ _ are).0)
value-at c (suc n) (v ∷ values) are less =
    let up : suc c + n ≡ c + suc n = omega arith in
    value-at (suc c) n values (and_parts _ _ are).1 (omega arith) ∙ ap (λ (d : ℕ). unwrap_or (hex_value d) NO_DIGIT) up

all_values : are_values 0 VALUES ≡ true
unfolding are_values
all_values = refl

-- the table has the value of each octet
pub value-of : (c : ℕ) → c < 256 → get_or VALUES c 0 ≡ unwrap_or (hex_value c) NO_DIGIT
value-of c less = let same : 0 + c ≡ c = omega arith in value-at 0 c VALUES all_values less ∙ ap (λ (d : ℕ). unwrap_or (hex_value d) NO_DIGIT) same

abbrev IsSmall : Option ℕ → Type 0
IsSmall o = MatchOption o (Unit {0}) (λ v. v < 16)

is_small-hex_value : (c : ℕ) → IsSmall (hex_value c)
is_small-hex_value c =
    elim (cases_Bool (nat_le 48 c && nat_le c 57)) [
      | inl is ↦ let parts : (nat_le 48 c ≡ true) × (nat_le c 57 ≡ true) = and_parts _ _ is in rw is (omega (arith, leb-true c 57 parts.1))
      | inr other ↦
          elim (cases_Bool (nat_le 65 c && nat_le c 70)) [
            | inl is ↦ let parts : (nat_le 65 c ≡ true) × (nat_le c 70 ≡ true) = and_parts _ _ is in rw (other, is) (omega (arith, leb-true c 70 parts.1))
            | inr neither ↦
                elim (cases_Bool (nat_le 97 c && nat_le c 102)) [
                  | inl is ↦ let parts : (nat_le 97 c ≡ true) × (nat_le c 102 ≡ true) = and_parts _ _ is in rw (other, neither, is) (omega (arith, leb-true c 102 parts.1))
                  | inr none ↦ rw (other, neither, none) tt
                ]
          ]
    ]

small-value : (o : Option ℕ) → IsSmall o → unwrap_or o NO_DIGIT ≤ NO_DIGIT
small-value None small = omega arith
small-value (Some v) small = omega (arith, small)

pub value-small : (c : ℕ) → unwrap_or (hex_value c) NO_DIGIT ≤ NO_DIGIT
value-small c = small-value (hex_value c) (is_small-hex_value c)

-- an octet, if it is below NO_DIGIT
abbrev octet_below : ℕ → Option ℕ
octet_below n = if nat_lt n NO_DIGIT then Some n else None

octet-values : (high low : Option ℕ) → IsSmall high → IsSmall low
    → (high >>= λ h. low >>= λ l. Some (16 * h + l)) ≡ octet_below (16 * unwrap_or high NO_DIGIT + unwrap_or low NO_DIGIT)
octet-values None low small_high small_low =
    let past : nat_lt (16 * NO_DIGIT + unwrap_or low NO_DIGIT) NO_DIGIT ≡ false = le-ltb _ _ (omega arith) in
    rw past refl
octet-values (Some h) None small_high small_low =
    let past : nat_lt (16 * h + NO_DIGIT) NO_DIGIT ≡ false = le-ltb _ _ (omega arith) in
    rw past refl
octet-values (Some h) (Some l) small_high small_low =
    let below : nat_lt (16 * h + l) NO_DIGIT ≡ true = lt-ltb _ _ (omega (arith, small_high, small_low)) in
    rw below refl

-- two digits, from the values of the table
pub octet-of : (high low : ℕ) → octet_value high low ≡ octet_below (16 * unwrap_or (hex_value high) NO_DIGIT + unwrap_or (hex_value low) NO_DIGIT)
octet-of high low = octet-values (hex_value high) (hex_value low) (is_small-hex_value high) (is_small-hex_value low)

-- the octet of two digits, if the table gives one
pub octet-some : (o : Option ℕ) (n : ℕ) → o ≡ octet_below n → n < NO_DIGIT → Some n ≡ o
octet-some o n e less = sym (rw (lt-ltb n NO_DIGIT less) at e)

-- octets, if there are some, after others
abbrev pub append_some : List ℕ → Option (List ℕ) → Option (List ℕ)
append_some before others = option_map (λ octets. before ++ octets) others

pub append_some-nothing : (others : Option (List ℕ)) → append_some [] others ≡ others
append_some-nothing None = refl
append_some-nothing (Some octets) = refl

prepend_some : ℕ → Option (List ℕ) → Option (List ℕ)
prepend_some b others = do
  octets ← others
  Some (b ∷ octets)

pair-prepend_some : (high low : Option ℕ) (others : Option (List ℕ)) (b : ℕ) → Some b ≡ (high >>= λ h. low >>= λ l. Some (16 * h + l))
    → (high >>= λ h. low >>= λ l. others >>= λ octets. Some ((16 * h + l) ∷ octets)) ≡ prepend_some b others
unfolding prepend_some
pair-prepend_some None low others b e = cc e
pair-prepend_some (Some h) None others b e = cc e
pair-prepend_some (Some h) (Some l) others b e = let same : 16 * h + l ≡ b = cc e in rw same refl

append_some-prepend_some : (before : List ℕ) (b : ℕ) (others : Option (List ℕ)) → append_some (before ++ b ∷ []) others ≡ append_some before (prepend_some b others)
unfolding prepend_some
append_some-prepend_some before b None = refl
append_some-prepend_some before b (Some octets) = ap Some (append_assoc before (b ∷ []) octets)

-- the first pair of digits is one octet more
append_some-pair : (before : List ℕ) (high low : ℕ) (digits : List ℕ) (b : ℕ) → Some b ≡ octet_value high low
    → append_some (before ++ b ∷ []) (read_hex digits) ≡ append_some before (read_hex (high ∷ low ∷ digits))
append_some-pair before high low digits b e =
    append_some-prepend_some before b (read_hex digits)
    ∙ ap (append_some before) (sym (pair-prepend_some (hex_value high) (hex_value low) (read_hex digits) b e))

-- two digits of a text are those of an octet
abbrev IsOctet : ℕ → List ℕ → ℕ → Type 0
IsOctet at digits b = Some b ≡ octet_value (get_or digits at 0) (get_or digits (at + 1) 0)

-- the same for the first pair, and the first four, of a text
append_some-one : (before digits : List ℕ) (b : ℕ) → 2 ≤ length digits → IsOctet 0 digits b → append_some (before ++ b ∷ []) (read_hex (drop 2 digits)) ≡ append_some before (read_hex digits)
append_some-one before [] b two e = absurd (omega arith)
append_some-one before (high ∷ []) b two e = absurd (omega arith)
append_some-one before (high ∷ low ∷ digits) b two e = append_some-pair before high low digits b e

append_some-four : (before digits : List ℕ) (a b c d : ℕ) → 8 ≤ length digits → IsOctet 0 digits a → IsOctet 2 digits b → IsOctet 4 digits c → IsOctet 6 digits d
    → append_some (before ++ a ∷ b ∷ c ∷ d ∷ []) (read_hex (drop 8 digits)) ≡ append_some before (read_hex digits)
append_some-four before [] a b c d eight one two three four = absurd (omega arith)
append_some-four before (p ∷ []) a b c d eight one two three four = absurd (omega arith)
append_some-four before (p ∷ q ∷ []) a b c d eight one two three four = absurd (omega arith)
append_some-four before (p ∷ q ∷ r ∷ []) a b c d eight one two three four = absurd (omega arith)
append_some-four before (p ∷ q ∷ r ∷ s ∷ []) a b c d eight one two three four = absurd (omega arith)
append_some-four before (p ∷ q ∷ r ∷ s ∷ t ∷ []) a b c d eight one two three four = absurd (omega arith)
append_some-four before (p ∷ q ∷ r ∷ s ∷ t ∷ u ∷ []) a b c d eight one two three four = absurd (omega arith)
append_some-four before (p ∷ q ∷ r ∷ s ∷ t ∷ u ∷ v ∷ []) a b c d eight one two three four = absurd (omega arith)
append_some-four before (p ∷ q ∷ r ∷ s ∷ t ∷ u ∷ v ∷ w ∷ digits) a b c d eight one two three four =
    let joined : (((before ++ a ∷ []) ++ b ∷ []) ++ c ∷ []) ++ d ∷ [] ≡ before ++ a ∷ b ∷ c ∷ d ∷ [] = simp append_assoc in
    ap (λ (octets : List ℕ). append_some octets (read_hex digits)) (sym joined)
    ∙ append_some-pair (((before ++ a ∷ []) ++ b ∷ []) ++ c ∷ []) v w digits d four
    ∙ append_some-pair ((before ++ a ∷ []) ++ b ∷ []) t u (v ∷ w ∷ digits) c three
    ∙ append_some-pair (before ++ a ∷ []) r s (t ∷ u ∷ v ∷ w ∷ digits) b two
    ∙ append_some-pair before p q (r ∷ s ∷ t ∷ u ∷ v ∷ w ∷ digits) a one

-- what a buffer has after octets of the first digits are appended, and what is left
abbrev pub IsAfter : Buffer → Buffer → List ℕ → List ℕ → Type 0
IsAfter old new digits left =
    (append_some new.octets (read_hex left) ≡ append_some old.octets (read_hex digits))
    × (2 * length new.octets + length left ≡ 2 * length old.octets + length digits)
    × (new.capacity ≡ old.capacity)

module _ (old new : Buffer) (digits more : List ℕ) (is : new ≡ record old { octets = old.octets ++ more }) (fit : 2 * length more ≤ length digits) where
  after : append_some (old.octets ++ more) (read_hex (drop (2 * length more) digits)) ≡ append_some old.octets (read_hex digits)
      → IsAfter old new digits (take (length digits - 2 * length more) (drop (2 * length more) digits))
  after read =
      let octets : new.octets ≡ old.octets ++ more = ap (λ (n : Buffer). n.octets) is in
      let rest = take_rest digits (2 * length more) in
      let longer : length new.octets ≡ length old.octets + length more = ap length octets ∙ length-append old.octets more in
      let left = ap length rest ∙ length-drop (2 * length more) digits in (
        ap (λ (s : List ℕ). append_some new.octets (read_hex s)) rest
            ∙ ap (λ (o : List ℕ). append_some o (read_hex (drop (2 * length more) digits))) octets ∙ read,
        omega (arith, longer, left),
        ap (λ (n : Buffer). n.capacity) is,
      )

pub append_some-appended : (old new : Buffer) (digits : List ℕ) (b : ℕ)
    → 2 ≤ length digits → IsOctet 0 digits b → new ≡ record old { octets = old.octets ++ b ∷ [] }
    → IsAfter old new digits (take (length digits - 2) (drop 2 digits))
append_some-appended old new digits b two e is = after old new digits (b ∷ []) is two (append_some-one old.octets digits b two e)

pub append_some-four_appended : (old new : Buffer) (digits : List ℕ) (a b c d : ℕ)
    → 8 ≤ length digits → IsOctet 0 digits a → IsOctet 2 digits b → IsOctet 4 digits c → IsOctet 6 digits d
    → new ≡ record old { octets = old.octets ++ a ∷ b ∷ c ∷ d ∷ [] }
    → IsAfter old new digits (take (length digits - 8) (drop 8 digits))
append_some-four_appended old new digits a b c d eight one two three four is =
    after old new digits (a ∷ b ∷ c ∷ d ∷ []) is eight (append_some-four old.octets digits a b c d eight one two three four)

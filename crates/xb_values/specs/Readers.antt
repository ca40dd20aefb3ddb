-- The values of texts of numbers, addresses, prefixes and octets (this project's own; addresses as is usual for IPv4).
use Rattle.std.specs.Prelude.{ℕ, ◌+◌, ◌-◌, ◌*◌, ◌^◌, Bool, false, List, [], ◌∷◌, length, map, Option, Some, None}
use Rattle.std.specs.Prelude.{option_map, nat_le, ◌==◌, ◌&&◌, not, if◌then◌else◌}
use Rattle.std.specs.List.{list_all}
use Rattle.std.specs.Int.Digits.{number_from_digits}
use Rattle.xb_words.specs.Optional.{◌>>=◌}
use Rattle.xb_words.specs.Octets.{four_at}
use Rattle.xb_values.specs.Prefixes.{Prefix, prefix_of}

-- an octet before the first of some parts (for `split_on`)
abbrev pub with_first_octet : ℕ → List (List ℕ) → List (List ℕ)
with_first_octet c [] = (c ∷ []) ∷ []
with_first_octet c (part ∷ others) = (c ∷ part) ∷ others

-- the parts of a text between the octets that are the separator
abbrev pub split_on : ℕ → List ℕ → List (List ℕ)
split_on separator [] = [] ∷ []
split_on separator (c ∷ text) =
    if c == separator then [] ∷ split_on separator text else with_first_octet c (split_on separator text)

-- 0 to 9
abbrev pub is_digit : ℕ → Bool
is_digit c = nat_le 48 c && nat_le c 57

-- `0`, or digits of which the first is not `0`
abbrev pub is_decimal : List ℕ → Bool
is_decimal [] = false
is_decimal (c ∷ []) = is_digit c
is_decimal (c ∷ d ∷ text) = not (c == 48) && list_all is_digit (c ∷ d ∷ text)

-- the number of digits
abbrev pub digits_value : List ℕ → ℕ
digits_value text = number_from_digits 10 (map (λ c. c - 48) text)

-- the number of a text, if it is at most a limit
abbrev pub number_up_to : ℕ → List ℕ → Option ℕ
number_up_to limit text =
    if is_decimal text && nat_le (digits_value text) limit then Some (digits_value text) else None

-- a number of at most 64 bits
abbrev pub read_decimal : List ℕ → Option ℕ
read_decimal text = number_up_to (2 ^ 64 - 1) text

-- the numbers of texts, each up to 255
abbrev pub octet_texts : List (List ℕ) → Option (List ℕ)
octet_texts [] = Some []
octet_texts (text ∷ texts) = do
  n ← number_up_to 255 text
  ns ← octet_texts texts
  Some (n ∷ ns)

-- four numbers up to 255, joined by dots
abbrev pub read_dotted : List ℕ → Option ℕ
read_dotted text =
    if length (split_on 46 text) == 4 then option_map (λ ns. four_at ns 0) (octet_texts (split_on 46 text)) else None

-- the prefix of two parts: an address, and a length up to 32
abbrev pub prefix_in : List (List ℕ) → Option Prefix
prefix_in (address ∷ len ∷ []) = do
  a ← read_dotted address
  l ← number_up_to 32 len
  Some (prefix_of a l)
prefix_in others = None

-- an address, a slash, and a length up to 32
abbrev pub read_prefix : List ℕ → Option Prefix
read_prefix text = prefix_in (split_on 47 text)

-- a hexadecimal digit in either case
abbrev pub hex_value : ℕ → Option ℕ
hex_value c =
    if nat_le 48 c && nat_le c 57 then Some (c - 48)
    else if nat_le 65 c && nat_le c 70 then Some (c - 55)
    else if nat_le 97 c && nat_le c 102 then Some (c - 87)
    else None

-- octets as two digits each
abbrev pub read_hex : List ℕ → Option (List ℕ)
read_hex [] = Some []
read_hex (high ∷ []) = None
read_hex (high ∷ low ∷ text) = do
  h ← hex_value high
  l ← hex_value low
  octets ← read_hex text
  Some ((16 * h + l) ∷ octets)

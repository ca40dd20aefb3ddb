-- Texts of numbers, addresses, prefixes and octets (this project's own; addresses as is usual for IPv4).
use Rattle.std.specs.Prelude.{ℕ, ◌+◌, ◌/◌, ◌%◌, List, [], ◌∷◌, ◌++◌, map, nat_lt, if◌then◌else◌, decimal, codes}
use Rattle.std.specs.Prelude.{flat_map}
use Rattle.std.specs.List.{join_with_byte}
use Rattle.xb_words.specs.Octets.{four_octets}
use Rattle.xb_values.specs.Prefixes.{Prefix}

-- the four octets of an address in decimal, joined by dots
abbrev pub dotted : ℕ → List ℕ
dotted addr = join_with_byte 46 (map decimal (four_octets addr))

-- an address, a slash and a length
abbrev pub prefix_text : Prefix → List ℕ
prefix_text p = dotted p.addr ++ codes "/" ++ decimal p.len

-- 0 to 9, then a to f
abbrev pub hex_digit : ℕ → ℕ
hex_digit d = if nat_lt d 10 then 48 + d else 87 + d

-- an octet as two digits
abbrev pub hex_octet : ℕ → List ℕ
hex_octet b = hex_digit (b / 16) ∷ hex_digit (b % 16) ∷ []

-- two digits for each octet, and `-` for no octets
abbrev pub hex_text : List ℕ → List ℕ
hex_text [] = codes "-"
hex_text (b ∷ octets) = flat_map hex_octet (b ∷ octets)

-- words, with one space between neighbours
abbrev pub spaced : List (List ℕ) → List ℕ
spaced words = join_with_byte 32 words

-- a line of words, with its end
abbrev pub line : List (List ℕ) → List ℕ
line words = spaced words ++ 10 ∷ []

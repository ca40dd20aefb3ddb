-- The lengths of texts.
use Rattle.std.proofs.Common.{◌≡◌, ℕ, ◌+◌, ◌*◌, ◌<◌, List, [], ◌∷◌, length, flat_map, refl, arith, lit<, length-append}
use Rattle.std.proofs.Common.{◌/◌, ◌%◌, ◌^◌, ◌≤◌}
use Rattle.std.specs.Prelude.{decimal}
use Rattle.std.proofs.lemmas.Fmt.{length-decimal-le}
use Rattle.xb_values.specs.Prefixes.{Prefix, IsPrefix}
use Rattle.xb_values.specs.Texts.{hex_octet, hex_text, prefix_text}

octets_length : (octets : List ℕ) → length (flat_map hex_octet octets) ≡ 2 * length octets
octets_length [] = refl
octets_length (b ∷ octets) = omega (arith, octets_length octets)

-- octets that there are have two digits each
pub hex_text_some : (octets : List ℕ) → 0 < length octets
    → (length (hex_text octets) ≡ 2 * length octets) × (hex_text octets ≡ flat_map hex_octet octets)
hex_text_some [] some = absurd (omega arith)
hex_text_some (b ∷ octets) some = (octets_length (b ∷ octets), refl)

-- the digits of octets, or a dash, are at most two an octet and one
pub hex_text_length : (octets : List ℕ) → length (hex_text octets) ≤ 2 * length octets + 1
hex_text_length [] = omega arith
hex_text_length (b ∷ octets) = omega (arith, octets_length (b ∷ octets))

-- a number of 64 bits has at most 20 digits
pub decimal_length : (n : ℕ) → n < 2 ^ 64 → length (decimal n) ≤ 20
decimal_length n word = length-decimal-le 20 n (lit< tt) (omega arith) word

octet_short : (n : ℕ) → n < 256 → length (decimal n) ≤ 3
octet_short n small = length-decimal-le 3 n (lit< tt) (omega arith) (omega arith)

-- the text of a prefix has at most four numbers of 3 digits, three dots, a slash and a length of 2 digits
pub prefix_text_length : (p : Prefix) → IsPrefix p → length (prefix_text p) ≤ 18
prefix_text_length p is =
    let a = octet_short (p.addr / 256 ^ 3 % 256) (omega arith) in
    let b = octet_short (p.addr / 256 ^ 2 % 256) (omega arith) in
    let c = octet_short (p.addr / 256 ^ 1 % 256) (omega arith) in
    let d = octet_short (p.addr % 256) (omega arith) in
    let e = length-decimal-le 2 p.len (lit< tt) (omega arith) (omega (arith, is.len)) in
    simp length-append (omega (arith, a, b, c, d, e))

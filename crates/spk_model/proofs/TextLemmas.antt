-- How long the lines of a report are, and lines that are written in a buffer with room for them.
use Rattle.std.proofs.Common.{◌≡◌, ℕ, ◌+◌, ◌*◌, ◌<◌, ◌≤◌, ◌^◌, List, [], ◌∷◌, ◌++◌, length, Bool, ◌∙◌, ap, arith}
use Rattle.std.proofs.Common.{length-append}
use Rattle.std.specs.Prelude.{decimal}
use Rattle.xb_values.specs.Buffers.{Buffer, Appends}
use Rattle.xb_values.specs.Prefixes.{Prefix, IsPrefix}
use Rattle.xb_values.specs.Texts.{line}
use Rattle.xb_values.proofs.BufferLemmas.{Appends-fits}
use Rattle.xb_values.proofs.TextLemmas.{decimal_length, hex_text_length, prefix_text_length}
use Rattle.xb_domain.specs.Outputs.{Output, came_up, went_down, sent}
use Rattle.table_print.specs.Lines.{output_line, route_line, adv_line, drained_line, map_line}
use Rattle.spk_model.specs.Ends.{peer_number, sent_octets}

line_of_two : (a b : List ℕ) → length (line (a ∷ b ∷ [])) ≡ length a + length b + 2
line_of_two a b = grind (arith, length-append)

line_of_three : (a b c : List ℕ) → length (line (a ∷ b ∷ c ∷ [])) ≡ length a + length b + length c + 3
line_of_three a b c = grind (arith, length-append)

line_of_four : (a b c d : List ℕ) → length (line (a ∷ b ∷ c ∷ d ∷ [])) ≡ length a + length b + length c + length d + 4
line_of_four a b c d = grind (arith, length-append)

-- a peer's number
abbrev pub IsNumber : ℕ → Type 0
IsNumber n = n < 2 ^ 32

number_length : (n : ℕ) → IsNumber n → length (decimal n) ≤ 20
number_length n small = decimal_length n (omega (arith, small))

pub output_length : (o : Output) → IsNumber (peer_number o) → length (output_line o) ≤ 96 + 2 * sent_octets o
output_length (came_up p) small = grind (arith, length-append, number_length p small)
output_length (went_down p) small = grind (arith, length-append, number_length p small)
output_length (sent p octets) small = grind (arith, length-append, number_length p small, hex_text_length octets)

pub route_length : (prefix : Prefix) (source : ℕ) (section : List ℕ) → IsPrefix prefix → IsNumber source
    → length (route_line prefix source section) ≤ 96 + 2 * length section
route_length prefix source section is small =
    grind (arith, length-append, prefix_text_length prefix is, number_length source small, hex_text_length section)

pub adv_length : (peer : ℕ) (prefix : Prefix) (section : List ℕ) → IsPrefix prefix → IsNumber peer
    → length (adv_line peer prefix section) ≤ 96 + 2 * length section
adv_length peer prefix section is small =
    grind (arith, length-append, prefix_text_length prefix is, number_length peer small, hex_text_length section)

pub drained_length : (peer : ℕ) → IsNumber peer → length (drained_line peer) ≤ 96
drained_length peer small = grind (arith, length-append, number_length peer small)

pub entry_length : (name key value : List ℕ)
    → length (map_line name key value) ≤ 96 + 2 * (length name + length key + length value)
entry_length name key value = grind (arith, length-append, hex_text_length key, hex_text_length value)

-- a text is written in an empty buffer that has room for it
pub written : (done : Bool) (old new : Buffer) (text : List ℕ) (room : ℕ) → old.octets ≡ [] → room ≤ old.capacity
    → length text ≤ room → Appends done old new text → new.octets ≡ text
written done old new text room empty within short a =
    let size : length old.octets ≡ 0 = ap length empty in
    let fits : length old.octets + length text ≤ old.capacity = omega (arith, size, within, short) in
    ap (λ (b : Buffer). b.octets) (Appends-fits done old new text a fits) ∙ ap (λ l. l ++ text) empty

-- A text that fits is appended.
use Rattle.std.proofs.Common.{◌≡◌, refl, ap, ◌∙◌, ℕ, zero, suc, ◌+◌, ◌<◌, ◌≤◌, List, [], ◌∷◌, ◌++◌, slice_set, length}
use Rattle.std.proofs.Common.{take, drop, Bool, true, false, arith, length-append}
use Rattle.std.proofs.lemmas.List.{take_at, length-take, length-drop, length-set}
use Rattle.xb_values.specs.Buffers.{Buffer, Appends}

pub Appends-fits : (done : Bool) (old new : Buffer) (text : List ℕ) → Appends done old new text
    → length old.octets + length text ≤ old.capacity → new ≡ record old { octets = old.octets ++ text }
Appends-fits true old new text a fits = a.result
Appends-fits false old new text a fits = let wrong : false ≡ true = a.fits.1 fits in cc wrong

-- octets that are copied after the first n are in memory after these, which keeps its size
pub take_copied : (memory octets : List ℕ) (n : ℕ) → n ≤ length memory
    → take (n + length octets) (take n memory ++ octets ++ drop (n + length octets) memory) ≡ take n memory ++ octets
take_copied memory octets n fits =
    let size : length (take n memory ++ octets) ≡ n + length octets = omega (arith, length-append (take n memory) octets, length-take n memory) in
    take_at (take n memory ++ octets) (drop (n + length octets) memory) (n + length octets) size

pub length_copied : (memory octets : List ℕ) (n : ℕ) → n + length octets ≤ length memory
    → length (take n memory ++ octets ++ drop (n + length octets) memory) ≡ length memory
length_copied memory octets n fits =
    let after = drop (n + length octets) memory in
    omega (arith, length-append (take n memory ++ octets) after, length-append (take n memory) octets, length-take n memory, length-drop (n + length octets) memory)

-- an octet that is set among the first n
take_set_within : (n i : ℕ) (memory : List ℕ) (octet : ℕ) → i < n → take n (slice_set memory i octet) ≡ slice_set (take n memory) i octet
take_set_within zero i memory octet within = absurd (omega arith)
take_set_within (suc n) i [] octet within = refl
take_set_within (suc n) zero (c ∷ memory) octet within = refl
take_set_within (suc n) (suc i) (c ∷ memory) octet within = ap (λ (t : List ℕ). c ∷ t) (take_set_within n i memory octet (omega arith))

abbrev buffer : List ℕ → ℕ → Buffer
buffer octets capacity = record { octets = octets; capacity = capacity }

-- the buffer of the first octets of memory, of which one is set
pub set_in_memory : (memory : List ℕ) (len i octet : ℕ) (old : Buffer) → i < length old.octets → buffer (take len memory) (length memory) ≡ old
    → buffer (take len (slice_set memory i octet)) (length (slice_set memory i octet)) ≡ record old { octets = slice_set old.octets i octet }
set_in_memory memory len i octet old within is =
    let size : length (take len memory) ≡ length old.octets = ap (λ (b : Buffer). length b.octets) is in
    let less : i < len = omega (arith, within, size, length-take len memory) in
    ap (λ (o : List ℕ). buffer o (length (slice_set memory i octet))) (take_set_within len i memory octet less)
    ∙ ap (buffer (slice_set (take len memory) i octet)) (length-set memory i octet)
    ∙ ap (λ (b : Buffer). buffer (slice_set b.octets i octet) b.capacity) is

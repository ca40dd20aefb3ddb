-- Steps over a shelf: what was read, with one piece more, and one step after another.
use Rattle.std.proofs.Common.{◌≡◌, ℕ, ◌+◌, List, [], ◌++◌, length, take, drop, Option, Some, None, MatchOption, Bool}
use Rattle.std.proofs.Common.{true, if◌then◌else◌, sym, ◌∙◌, ap, subst, arith, length-append}
use Rattle.std.proofs.lemmas.List.{length-take-le}
use Rattle.std.proofs.Math.Seq.{take-add}
use Rattle.xb_io.specs.Causes.{Files, file_named, Reads, ReadsPart}
use Rattle.xbgp_top.specs.Inputs.{IsFront}

found_more : (found : Option (List ℕ)) (front buf : List ℕ) (n : ℕ)
    → MatchOption found (front ≡ []) (λ octets. front ≡ take (length front) octets)
    → MatchOption found ⊥ (λ octets. ReadsPart octets (length front) buf n)
    → MatchOption found (front ++ take n buf ≡ []) (λ octets. front ++ take n buf ≡ take (length (front ++ take n buf))
    octets)
found_more None front buf n so_far reads = absurd reads
found_more (Some octets) front buf n so_far reads =
    let size : length (front ++ take n buf) ≡ length front + n = omega
    (arith, length-append front (take n buf), length-take-le n buf reads.fits) in
    let joined : front ++ take n buf ≡ take (length front) octets ++ take n (drop (length front) octets) =
    ap (λ (l : List ℕ). l ++ take n buf) so_far ∙ ap (λ (l : List ℕ). take (length front) octets ++ l) reads.part in
    joined ∙ sym (take-add (length front) n octets) ∙ ap (λ (k : ℕ). take k octets) (sym size)

read_more : (held : Option Files) (name front buf : List ℕ) (n : ℕ)
    → IsFront held name front → Reads held name (length front) buf n → IsFront held name (front ++ take n buf)
read_more None name front buf n so_far reads = tt
read_more (Some files) name front buf n so_far reads = found_more (file_named files name) front buf n so_far reads

-- one more piece makes a longer front
pub IsFront-append : (held first : Option Files) (name front buf new : List ℕ) (n len : ℕ) (ok : Bool)
    → held ≡ first → len ≡ length front → IsFront first name front → Reads held name len buf n
    → ok ≡ true → new ≡ (if ok then front ++ take n buf else front) → IsFront first name new
IsFront-append held first name front buf new n len ok same len_is so_far reads is_ok new_is =
    let reads_then : Reads first name (length front) buf n =
    subst (λ (k : ℕ). Reads first name k buf n) len_is
    (subst (λ (h : Option Files). Reads h name len buf n) same reads) in
    let longer : new ≡ front ++ take n buf = rw is_ok at new_is in
    rw longer (read_more first name front buf n so_far reads_then)

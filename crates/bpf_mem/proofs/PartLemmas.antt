-- Parts of a list that is cut in two: `take k` is the stack, `drop k` the heap.
use Rattle.std.proofs.Common.{◌≡◌, sym, ap, ◌∙◌, ℕ, ◌+◌, ◌-◌, ◌≤◌, List, ◌++◌, length, take, drop, replicate, arith}
use Rattle.std.proofs.Common.{append_assoc}
use Rattle.std.proofs.lemmas.Grind.{common_steps}
use Rattle.std.proofs.lemmas.List.{take-append-drop, drop-append-le, length-take-le, take-take, drop-take, drop-drop}
use Rattle.std.proofs.lemmas.List.{drop-replicate, length-replicate, replicate-append-replicate, take_at, drop_at}
use Rattle.std.proofs.Math.Seq.{take-add}
use Rattle.bpf_mem.specs.Memory.{replaced, region_part}
use Rattle.bpf_mem.specs.Offsets.{overwritten}

-- octets written over others, if they fit
abbrev pub over : List ℕ → ℕ → List ℕ → List ℕ
over os at w = take at os ++ (w ++ drop (at + length w) os)

-- octets that fit are not cut
pub overwritten-over : (os : List ℕ) (at : ℕ) (w : List ℕ) → at + length w ≤ length os → overwritten os at w ≡ over os at w
overwritten-over os at w h = grind (arith, common_steps)

-- and octets that fit are then replaced
pub overwritten-replaced : (os : List ℕ) (at : ℕ) (w : List ℕ) → at + length w ≤ length os → overwritten os at w ≡ replaced os at w
overwritten-replaced os at w h = grind (arith, common_steps)

-- replacing keeps the length
pub length-replaced : (os : List ℕ) (at : ℕ) (w : List ℕ) → at + length w ≤ length os → length (replaced os at w) ≡ length os
length-replaced os at w h = grind (arith, common_steps)

-- so does overwriting
pub length-overwritten : (os : List ℕ) (at : ℕ) (w : List ℕ) → length (overwritten os at w) ≡ length os
length-overwritten os at w = grind (arith, common_steps)

-- a write into the front, and one into the back
over-front : (k : ℕ) (os : List ℕ) (at : ℕ) (w : List ℕ) → k ≤ length os → at + length w ≤ k → over os at w ≡ replaced (take k os) at w ++ drop k os
over-front k os at w h i =
    let front = length-take-le k os h in
    let rest : drop (at + length w) os ≡ drop (at + length w) (take k os) ++ drop k os =
    ap (λ l. drop (at + length w) l) (sym (take-append-drop k os)) ∙ drop-append-le (at + length w) (take k os) (drop k os) (omega (arith, front)) in
    let before : take at os ≡ take at (take k os) = sym (take-take at k os (omega arith)) in
    rw (rest, before) (simp append_assoc)

over-back : (k : ℕ) (os : List ℕ) (at : ℕ) (w : List ℕ) → over os (k + at) w ≡ take k os ++ replaced (drop k os) at w
over-back k os at w =
    let rest : drop (k + at + length w) os ≡ drop (at + length w) (drop k os) =
    ap (λ n. drop n os) (let e : k + at + length w ≡ k + (at + length w) = omega arith in e) ∙ sym (drop-drop (at + length w) k os) in
    rw (rest, take-add k at os) (simp append_assoc)

-- the stack after a write into the stack
pub take-over-front : (k : ℕ) (os : List ℕ) (at : ℕ) (w : List ℕ) → k ≤ length os → at + length w ≤ k → take k (over os at w) ≡ replaced (take k os) at w
take-over-front k os at w h i =
    let front = length-take-le k os h in
    ap (λ l. take k l) (over-front k os at w h i)
    ∙ take_at (replaced (take k os) at w) (drop k os) k (length-replaced (take k os) at w (omega (arith, front)) ∙ front)

-- the heap after a write into the stack
pub drop-over-front : (k : ℕ) (os : List ℕ) (at : ℕ) (w : List ℕ) → k ≤ length os → at + length w ≤ k → drop k (over os at w) ≡ drop k os
drop-over-front k os at w h i =
    let front = length-take-le k os h in
    ap (λ l. drop k l) (over-front k os at w h i)
    ∙ drop_at (replaced (take k os) at w) (drop k os) k (length-replaced (take k os) at w (omega (arith, front)) ∙ front)

-- the stack after a write into the heap
pub take-over-back : (k : ℕ) (os : List ℕ) (at : ℕ) (w : List ℕ) → k ≤ length os → take k (over os (k + at) w) ≡ take k os
take-over-back k os at w h =
    ap (λ l. take k l) (over-back k os at w) ∙ take_at (take k os) (replaced (drop k os) at w) k (length-take-le k os h)

-- the heap after a write into the heap
pub drop-over-back : (k : ℕ) (os : List ℕ) (at : ℕ) (w : List ℕ) → k ≤ length os → drop k (over os (k + at) w) ≡ replaced (drop k os) at w
drop-over-back k os at w h =
    ap (λ l. drop k l) (over-back k os at w) ∙ drop_at (take k os) (replaced (drop k os) at w) k (length-take-le k os h)

-- a part of the front
pub region_part-take : (k : ℕ) (os : List ℕ) (at n : ℕ) → at + n ≤ k → region_part (take k os) at n ≡ region_part os at n
region_part-take k os at n h =
    let e : k ≡ at + (k - at) = omega arith in
    ap (λ m. take n (drop at (take m os))) e ∙ ap (λ l. take n l) (drop-take at (k - at) os) ∙ take-take n (k - at) (drop at os) (omega arith)

-- a part of the back
pub region_part-drop : (k : ℕ) (os : List ℕ) (at n : ℕ) → region_part (drop k os) at n ≡ region_part os (k + at) n
region_part-drop k os at n = grind (arith, common_steps)

-- zeros from one offset on are zeros from each later one on
zeros-later : (os : List ℕ) (z n m : ℕ) → z ≤ n → n ≤ m → drop z os ≡ replicate (m - z) 0 → drop n os ≡ replicate (m - n) 0
zeros-later os z n m h i e =
    let split : z + (n - z) ≡ n = omega arith in
    let left : m - z - (n - z) ≡ m - n = omega arith in
    let rest : drop (n - z) (drop z os) ≡ drop n os = drop-drop (n - z) z os ∙ ap (λ k. drop k os) split in
    sym rest ∙ ap (λ l. drop (n - z) l) e ∙ drop-replicate (n - z) (m - z) 0 ∙ ap (λ k. replicate k 0) left

-- a write leaves the zeros after it
pub zeros-overwritten : (os : List ℕ) (at z n m : ℕ) (w : List ℕ) → length os ≡ m → z ≤ n → at + length w ≤ n → n ≤ m → drop z os ≡ replicate (m - z) 0 → drop n (overwritten os at w) ≡ replicate (m - n) 0
zeros-overwritten os at z n m w size h i k e =
    ap (λ l. drop n l) (overwritten-over os at w (omega arith)) ∙ drop-over-front n os at w (omega arith) i ∙ zeros-later os z n m h k e

-- zeros written before zeros make zeros
pub zeros-cleared : (os : List ℕ) (z m : ℕ) → length os ≡ m → z ≤ m → drop z os ≡ replicate (m - z) 0 → overwritten os 0 (replicate z 0) ≡ replicate m 0
zeros-cleared os z m size h e =
    let zeros : List ℕ = replicate z 0 in
    let len : 0 + length zeros ≡ z = omega (arith, length-replicate {A = ℕ} z 0) in
    let rest : drop (0 + length zeros) os ≡ replicate (m - z) 0 = ap (λ k. drop k os) len ∙ e in
    let all : z + (m - z) ≡ m = omega arith in
    overwritten-over os 0 zeros (omega (arith, len)) ∙ ap (λ l. zeros ++ l) rest ∙ replicate-append-replicate z (m - z) 0 ∙ ap (λ k. replicate k 0) all

-- Ranges as offsets in the octets of a room.
use Rattle.std.proofs.Common.{◌≡◌, ◌≢◌, refl, sym, ap, ◌∙◌, subst, ℕ, zero, suc, ◌<◌, get_or, ◌+◌, ◌-◌, ◌≤◌, true}
use Rattle.std.proofs.Common.{false, List, [], ◌∷◌, length, take, drop, replicate, Option, Some, None, is_some, IsSome}
use Rattle.std.proofs.Common.{unwrap_or, option_map, arith, inl, inr}
use Rattle.std.specs.Prelude.{◌==◌}
use Rattle.std.specs.Int.{bytes_low_first}
use Rattle.std.proofs.lemmas.Bool.{cases_Bool, eqb-true, eqb-false, and_from, le-leb}
use Rattle.std.proofs.lemmas.Bool.Decides.{nat_tests}
use Rattle.std.proofs.lemmas.List.{take-append-drop, length-take-le, length-drop, take-replicate, drop-replicate}
use Rattle.std.proofs.lemmas.List.{nil_from_length, take-take}
use Rattle.xb_words.specs.Octets.{AreOctets}
use Rattle.bpf_mem.specs.declared.regions.TheConstants.{STACK_BASE, HEAP_BASE, WINDOW_BASE}
use Rattle.bpf_mem.specs.Memory.{Memory, IsMemory, IsAccessSize, store, replaced, is_within, region_part, octets_at}
use Rattle.bpf_mem.specs.Memory.{writable_at, with_octets, fresh}
use Rattle.bpf_mem.specs.Offsets.{offset_in, writable_offset, memory_of, overwritten, lent}
use Rattle.bpf_mem.proofs.NumberLemmas.{take-bytes_low_first, length-bytes_low_first}
use Rattle.bpf_mem.proofs.PartLemmas.{overwritten-over, overwritten-replaced, length-replaced, take-over-front}
use Rattle.bpf_mem.proofs.PartLemmas.{drop-over-front, take-over-back, drop-over-back, region_part-take}
use Rattle.bpf_mem.proofs.PartLemmas.{region_part-drop}

-- what the offset of a range says of memory
pub record IsOffset (os window : List ℕ) (addr n at : ℕ) : Type 0 where
  pub inside : at + n ≤ length os
  pub octets : octets_at (memory_of os window) addr n ≡ Some (region_part os at n)
  pub writable : writable_at (memory_of os window) addr n ≡ Some (region_part os at n)
  pub written : (w : List ℕ) → length w ≡ n → with_octets (memory_of os window) addr w ≡ Some (memory_of (overwritten os at w) window)

-- equal regions make equal memory
same_regions : (a b a' b' window : List ℕ) → a ≡ a' → b ≡ b' → (let x : Memory = record { stack = a; heap = b; window = window } in x) ≡ record { stack = a'; heap = b'; window = window }
same_regions a b a' b' window e f = cc

module _ (os window : List ℕ) (size : length os ≡ 8704) (addr n : ℕ) where
  offset-empty : (n == 0) ≡ true → IsOffset os window addr n 0
  offset-empty z =
      let none : n ≡ 0 = eqb-true n 0 z in
      record {
        inside = omega arith;
        octets = rw none refl;
        writable = rw none refl;
        written = λ w e.
            let nil : w ≡ [] = nil_from_length w (e ∙ none) in
            rw nil (ap (λ (l : List ℕ). Some (memory_of l window)) (sym (overwritten-over os 0 [] (omega arith))));
      }

  offset-stack : (n == 0) ≡ false → is_within STACK_BASE 512 addr n ≡ true → IsOffset os window addr n (addr - STACK_BASE)
  offset-stack z s =
      let fits : (STACK_BASE ≤ addr) × (addr + n ≤ STACK_BASE + 512) = grind (arith, nat_tests) in
      let at : ℕ = addr - STACK_BASE in
      let within : at + n ≤ 512 = omega (arith, fits.0, fits.1) in
      record {
        inside = omega arith;
        octets = rw (z, s) (ap (λ (l : List ℕ). Some l) (region_part-take 512 os at n within));
        writable = rw (z, s) (ap (λ (l : List ℕ). Some l) (region_part-take 512 os at n within));
        written = λ w e.
            let here : at + length w ≤ 512 = omega arith in
            let whole = overwritten-over os at w (omega arith) in
            let first : take 512 (overwritten os at w) ≡ replaced (take 512 os) at w = ap (λ l. take 512 l) whole ∙ take-over-front 512 os at w (omega arith) here in
            let second : drop 512 (overwritten os at w) ≡ drop 512 os = ap (λ l. drop 512 l) whole ∙ drop-over-front 512 os at w (omega arith) here in
            rw (rw (← e) at z, rw (← e) at s) (ap (λ (m : Memory). Some m) (sym (same_regions _ _ _ _ window first second)));
      }

  offset-heap : (n == 0) ≡ false → is_within STACK_BASE 512 addr n ≡ false → is_within HEAP_BASE 8192 addr n ≡ true → IsOffset os window addr n (512 + (addr - HEAP_BASE))
  offset-heap z s t =
      let fits : (HEAP_BASE ≤ addr) × (addr + n ≤ HEAP_BASE + 8192) = grind (arith, nat_tests) in
      let at : ℕ = addr - HEAP_BASE in
      let within : at + n ≤ 8192 = omega (arith, fits.0, fits.1) in
      record {
        inside = omega arith;
        octets = rw (z, s, t) (ap (λ (l : List ℕ). Some l) (region_part-drop 512 os at n));
        writable = rw (z, s, t) (ap (λ (l : List ℕ). Some l) (region_part-drop 512 os at n));
        written = λ w e.
            let whole = overwritten-over os (512 + at) w (omega arith) in
            let first : take 512 (overwritten os (512 + at) w) ≡ take 512 os = ap (λ l. take 512 l) whole ∙ take-over-back 512 os at w (omega arith) in
            let second : drop 512 (overwritten os (512 + at) w) ≡ replaced (drop 512 os) at w = ap (λ l. drop 512 l) whole ∙ drop-over-back 512 os at w (omega arith) in
            rw (rw (← e) at z, rw (← e) at s, rw (← e) at t) (ap (λ (m : Memory). Some m) (sym (same_regions _ _ _ _ window first second)));
      }

  -- each offset of a range that may be written is one
  pub IsOffset-writable_offset : (at : ℕ) → writable_offset addr n ≡ Some at → IsOffset os window addr n at
  IsOffset-writable_offset at h =
      elim (cases_Bool (n == 0)) [
        | inl z ↦ let e : 0 ≡ at = (let p = rw z at h in cc) in subst (λ k. IsOffset os window addr n k) e (offset-empty z)
        | inr z ↦ elim (cases_Bool (is_within STACK_BASE 512 addr n)) [
          | inl s ↦ let e : addr - STACK_BASE ≡ at = (let p = rw (z, s) at h in cc) in subst (λ k. IsOffset os window addr n k) e (offset-stack z s)
          | inr s ↦ elim (cases_Bool (is_within HEAP_BASE 8192 addr n)) [
            | inl t ↦ let e : 512 + (addr - HEAP_BASE) ≡ at = (let p = rw (z, s, t) at h in cc) in subst (λ k. IsOffset os window addr n k) e (offset-heap z s t)
            | inr t ↦ let p = rw (z, s, t) at h in cc
          ]
        ]
      ]

  -- a range without an offset may not be written, and only the window may have it
  pub writable_offset-none : writable_offset addr n ≡ None → (writable_at (memory_of os window) addr n ≡ None) × (octets_at (memory_of os window) addr n ≡ option_map (λ at. region_part window at n) (offset_in WINDOW_BASE (length window) addr n))
  writable_offset-none h =
      elim (cases_Bool (n == 0)) [
        | inl z ↦ let p = rw z at h in absurd (cc)
        | inr z ↦ elim (cases_Bool (is_within STACK_BASE 512 addr n)) [
          | inl s ↦ let p = rw (z, s) at h in absurd (cc)
          | inr s ↦ elim (cases_Bool (is_within HEAP_BASE 8192 addr n)) [
            | inl t ↦ let p = rw (z, s, t) at h in absurd (cc)
            | inr t ↦ (rw (z, s, t) refl, rw (z, s, t) (elim (cases_Bool (is_within WINDOW_BASE (length window) addr n)) [ inl u ↦ rw u refl | inr u ↦ rw u refl ]))
          ]
        ]
      ]

  -- a range that may be written has an offset
  pub writable_offset-some : IsSome (writable_at (memory_of os window) addr n) → writable_offset addr n ≡ Some (unwrap_or (writable_offset addr n) 0)
  writable_offset-some h =
      elim (writable_offset addr n) as (λ o. writable_offset addr n ≡ o → o ≡ Some (unwrap_or o 0)) [
        | None ↦ λ e. absurd (let p = rw (writable_offset-none e).0 at h in cc)
        | Some at ↦ λ e. refl
      ] refl

  -- memory after the octets at an offset were overwritten
  pub memory_of-overwritten : (at : ℕ) → writable_offset addr n ≡ Some at → (w : List ℕ) → memory_of (overwritten os at w) window ≡ lent (memory_of os window) addr n w
  memory_of-overwritten at h w =
      elim (cases_Bool (length w == n)) [
        | inl e ↦ let p = (IsOffset-writable_offset at h).written w (eqb-true (length w) n e) in rw (e, p) refl
        | inr e ↦ rw (e, h, take-append-drop 512 os) refl
      ]

-- memory_of-replicate in both
pub memory_of-replicate : (window : List ℕ) → memory_of (replicate 8704 0) window ≡ fresh window
memory_of-replicate window = same_regions _ _ _ _ window (take-replicate 512 8704 0 (omega arith)) (drop-replicate 512 8704 0)

-- numbers below 256 are octets
pub AreOctets-from_range : (s : List ℕ) → ((k : ℕ) → get_or s k 0 < 256) → AreOctets s
AreOctets-from_range [] h = tt
AreOctets-from_range (b ∷ s) h = (h 0, AreOctets-from_range s (λ k. h (suc k)))

-- the front of octets is octets
pub AreOctets-take : (k : ℕ) (s : List ℕ) → AreOctets s → AreOctets (take k s)
AreOctets-take zero s h = tt
AreOctets-take (suc k) [] h = tt
AreOctets-take (suc k) (b ∷ s) h = (h.0, AreOctets-take k s h.1)

-- the rest of octets is octets
pub AreOctets-drop : (k : ℕ) (s : List ℕ) → AreOctets s → AreOctets (drop k s)
AreOctets-drop zero s h = h
AreOctets-drop (suc k) [] h = tt
AreOctets-drop (suc k) (b ∷ s) h = AreOctets-drop k s h.1

-- a room and a window are memory
pub IsMemory-memory_of : (os window : List ℕ) → length os ≡ 8704 → length window ≤ 4077 → AreOctets os → AreOctets window → IsMemory (memory_of os window)
IsMemory-memory_of os window size few a b = record {
  stack = length-take-le 512 os (omega arith);
  heap = length-drop 512 os ∙ (let e : length os - 512 ≡ 8192 = omega arith in e);
  window = few;
  stack_octets = AreOctets-take 512 os a;
  heap_octets = AreOctets-drop 512 os a;
  window_octets = b;
}

-- an access has at most eight octets
pub IsAccessSize-few : (n : ℕ) → IsAccessSize n → n ≤ 8
IsAccessSize-few n h =
    elim h [
      | inl p ↦ elim p [ inl e ↦ omega (arith, e) | inr e ↦ omega (arith, e) ]
      | inr p ↦ elim p [ inl e ↦ omega (arith, e) | inr e ↦ omega (arith, e) ]
    ]

-- what the calls of `Memory` return, over plain values: `m` is the memory that the octets and the window are
module _ (os window : List ℕ) (m : Memory) (addr n : ℕ) (size : length os ≡ 8704) (is : memory_of os window ≡ m) where
  -- `range` in the stack or the heap
  pub octets_at-writable : (xs : List ℕ) (at : ℕ) → xs ≡ os → writable_offset addr n ≡ Some at → Some (take (at + n - at) (drop at xs)) ≡ octets_at m addr n
  octets_at-writable xs at e h =
      let len : at + n - at ≡ n = omega arith in
      rw (len, e) (sym (IsOffset-writable_offset os window size addr n at h).octets ∙ ap (λ (x : Memory). octets_at x addr n) is)

  -- `range` in the window
  pub octets_at-window : (at : ℕ) → writable_offset addr n ≡ None → offset_in WINDOW_BASE (length window) addr n ≡ Some at → Some (take (at + n - at) (drop at window)) ≡ octets_at m addr n
  octets_at-window at h k =
      let len : at + n - at ≡ n = omega arith in
      rw len (sym ((writable_offset-none os window size addr n h).1 ∙ ap (λ (o : Option ℕ). option_map (λ at. region_part window at n) o) k) ∙ ap (λ (x : Memory). octets_at x addr n) is)

  -- `octets_mut`: the offset
  pub writable_offset-there : (o : Option ℕ) (at : ℕ) → o ≡ writable_offset addr n → at ≡ unwrap_or o 0 → IsSome (writable_at m addr n) → writable_offset addr n ≡ Some at
  writable_offset-there o at e f h =
      writable_offset-some os window size addr n (subst (λ (x : Memory). IsSome (writable_at x addr n)) (sym is) h)
      ∙ ap (λ (x : ℕ). Some x) (sym (f ∙ ap (λ (p : Option ℕ). unwrap_or p 0) e))

  -- what memory ends as
  pub memory_of-lent : (at : ℕ) → writable_offset addr n ≡ Some at → (w : List ℕ) → memory_of (overwritten os at w) window ≡ lent m addr n w
  memory_of-lent at h w = memory_of-overwritten os window size addr n at h w ∙ ap (λ (x : Memory). lent x addr n w) is

  -- the octets that are lent
  pub writable_at-region_part : (at : ℕ) (xs : List ℕ) → writable_offset addr n ≡ Some at → xs ≡ take n (drop at os) → writable_at m addr n ≡ Some xs
  writable_at-region_part at xs h e = ap (λ (x : Memory). writable_at x addr n) (sym is) ∙ (IsOffset-writable_offset os window size addr n at h).writable ∙ ap (λ (l : List ℕ). Some l) (sym e)

  -- as many as asked for
  pub length-region_part : (at : ℕ) (xs : List ℕ) → writable_offset addr n ≡ Some at → xs ≡ take n (drop at os) → length xs ≡ n
  length-region_part at xs h e =
      let inside = (IsOffset-writable_offset os window size addr n at h).inside in
      ap (λ l. length l) e ∙ length-take-le n (drop at os) (omega (arith, length-drop at os, inside))

  -- `store`: the room keeps its size, and what memory is afterwards
  pub store-written : (o : Option ℕ) (at value : ℕ) (all now : List ℕ) → o ≡ writable_offset addr n → at ≡ unwrap_or o 0 → IsSome (writable_at m addr n) → IsAccessSize n → all ≡ bytes_low_first 0 8 value → now ≡ replaced os at (take n all) → (length now ≡ 8704) × (store m addr n value ≡ Some (memory_of now window))
  store-written o at value all now e f some sized g h =
      let offset = IsOffset-writable_offset os window size addr n at (writable_offset-there o at e f some) in
      let w : List ℕ = take n all in
      let octets : w ≡ bytes_low_first 0 n value = ap (λ l. take n l) g ∙ take-bytes_low_first n 0 8 value (IsAccessSize-few n sized) in
      let len : length w ≡ n = ap (λ l. length l) octets ∙ length-bytes_low_first 0 n value in
      let fits : at + length w ≤ length os = omega (arith, len, offset.inside) in
      let same : overwritten os at w ≡ now = overwritten-replaced os at w fits ∙ sym h in (
        ap (λ l. length l) h ∙ length-replaced os at w fits ∙ size,
        ap (λ (x : Memory). store x addr n value) (sym is)
            ∙ ap (λ (l : List ℕ). with_octets (memory_of os window) addr l) (sym octets)
            ∙ offset.written w len
            ∙ ap (λ (l : List ℕ). Some (memory_of l window)) same,
      )

-- whether a range may be written is the same in every memory
pub is_some-writable_at : (m : Memory) (addr n : ℕ) → is_some (writable_at m addr n) ≡ is_some (writable_offset addr n)
is_some-writable_at m addr n =
    elim (cases_Bool (n == 0)) [
      | inl z ↦ rw z refl
      | inr z ↦ elim (cases_Bool (is_within STACK_BASE 512 addr n)) [
        | inl s ↦ rw (z, s) refl
        | inr s ↦ elim (cases_Bool (is_within HEAP_BASE 8192 addr n)) [
          | inl t ↦ rw (z, s, t) refl
          | inr t ↦ rw (z, s, t) refl
        ]
      ]
    ]

-- a range that may be written has writable fronts
pub writable_at-front : (m : Memory) (addr n k : ℕ) (octets : List ℕ) → k ≤ n → writable_at m addr n ≡ Some octets
    → writable_at m addr k ≡ Some (take k octets)
writable_at-front m addr n k octets h e =
    elim (cases_Bool (k == 0)) [
      | inl z ↦ let none : k ≡ 0 = eqb-true k 0 z in rw none refl
      | inr z ↦ elim (cases_Bool (n == 0)) [
        | inl y ↦ absurd (let p = eqb-true n 0 y in let q = eqb-false k 0 z in omega (arith, p, q))
        | inr y ↦ elim (cases_Bool (is_within STACK_BASE 512 addr n)) [
          | inl s ↦
              let fits : (STACK_BASE ≤ addr) × (addr + n ≤ STACK_BASE + 512) = grind (arith, nat_tests) in
              let front : is_within STACK_BASE 512 addr k ≡ true = and_from _ _ (le-leb STACK_BASE addr fits.0) (le-leb (addr + k) (STACK_BASE + 512) (omega (arith, fits.1))) in
              let is : region_part m.stack (addr - STACK_BASE) n ≡ octets = (let p = rw (y, s) at e in cc) in
              rw (z, front) (ap (λ (l : List ℕ). Some l) (sym (take-take k n (drop (addr - STACK_BASE) m.stack) h) ∙ ap (λ l. take k l) is))
          | inr s ↦ elim (cases_Bool (is_within HEAP_BASE 8192 addr n)) [
            | inl t ↦
                let fits : (HEAP_BASE ≤ addr) × (addr + n ≤ HEAP_BASE + 8192) = grind (arith, nat_tests) in
                let some : k ≢ 0 = eqb-false k 0 z in
                let above : is_within STACK_BASE 512 addr k ≡ false = grind (arith, nat_tests) in
                let front : is_within HEAP_BASE 8192 addr k ≡ true = and_from _ _ (le-leb HEAP_BASE addr fits.0) (le-leb (addr + k) (HEAP_BASE + 8192) (omega (arith, fits.1))) in
                let is : region_part m.heap (addr - HEAP_BASE) n ≡ octets = (let p = rw (y, s, t) at e in cc) in
                rw (z, above, front) (ap (λ (l : List ℕ). Some l) (sym (take-take k n (drop (addr - HEAP_BASE) m.heap) h) ∙ ap (λ l. take k l) is))
            | inr t ↦ absurd (let p = rw (y, s, t) at e in cc)
          ]
        ]
      ]
    ]

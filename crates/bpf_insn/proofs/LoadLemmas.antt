-- What follows from code in which the loader finds no fault.
use Rattle.std.proofs.Common.{◌≡◌, ◌≢◌, refl, sym, ap, ◌∙◌, subst, ℕ, zero, suc, ◌+◌, ◌-◌, ◌%◌, ◌<◌, ◌≤◌, Bool}
use Rattle.std.proofs.Common.{true, false, List, [], ◌∷◌, length, get_or, Option, Some, None, option_map, arith, inl}
use Rattle.std.proofs.Common.{inr, ◌^◌}
use Rattle.std.specs.Prelude.{ℤ, pos, negsuc, ◌+ℤ◌, not, filter, nat_lt, ◌==◌, ◌&&◌, ◌||◌, if◌then◌else◌}
use Rattle.std.proofs.lemmas.Bool.{cases_Bool, cases_lt, cases_eq, not-false, not-true, ltb-true, false_from_ne_true}
use Rattle.std.proofs.lemmas.Bool.{not_from_false, or_parts, and_from, and_parts, ltb-false, lt-ltb, eqb-true}
use Rattle.std.proofs.lemmas.Bool.{eqb-false}
use Rattle.std.proofs.lemmas.Int.{ints}
use Rattle.xb_words.specs.Optional.{or_else}
use Rattle.bpf_insn.specs.declared.fault.LoadKind.{LoadKind}
use Rattle.bpf_insn.specs.declared.fault.LoadKind.TheVariants.{Length, TooLong, Opcode, Register, Reserved, WidePair}
use Rattle.bpf_insn.specs.declared.fault.LoadKind.TheVariants.{Jump, WriteR10, Helper, OpenEnd}
use Rattle.bpf_insn.specs.declared.fault.LoadFault.{LoadFault}
use Rattle.bpf_insn.specs.declared.limits.TheConstants.{SLOT_SIZE, MAX_SLOTS, FRAME_POINTER}
use Rattle.bpf_insn.specs.Slots.{slots, opcode_of, dst_of, src_of, raw_offset, raw_imm, is_wide, word}
use Rattle.bpf_insn.specs.Forms.{is_opcode, are_fields, has_target, writes_register, is_call, is_exit, is_ja}
use Rattle.bpf_insn.specs.Loading.{is_second, begins, numbers_from, starts, last_start, has_second, target, is_start}
use Rattle.bpf_insn.specs.Loading.{slot_fault, fault_at, first_slot_fault, end_fault, load_fault}
use Rattle.bpf_insn.specs.Seconds.{AreSeconds}
use Rattle.bpf_insn.specs.Sound.{every_helper, IsAccepted, slot_after, IsSound, CallsOnly}
use Rattle.bpf_insn.proofs.SecondLemmas.{is_second-next}

-- a check that finds nothing passes, and so do those after it
if-none : {A : Type 0} (b : Bool) (x : A) (rest : Option A) → (if b then Some x else rest) ≡ None → (b ≡ false) × (rest ≡ None)
if-none true x rest h = absurd (cc)
if-none false x rest h = (refl, h)

or_else-none : {A : Type 0} (x y : Option A) → or_else x y ≡ None → (x ≡ None) × (y ≡ None)
or_else-none None y h = (refl, h)
or_else-none (Some a) y h = absurd (cc)

option_map-none : {A B : Type 0} (f : A → B) (x : Option A) → option_map f x ≡ None → x ≡ None
option_map-none f None h = refl
option_map-none f (Some a) h = absurd (cc)

-- if not both are true and the first is, the second isn't
second-false : (x y : Bool) → (x && y) ≡ false → x ≡ true → y ≡ false
second-false true y h e = h
second-false false y h e = absurd (cc)

-- the checks of one instruction
pub record Passes (allowed : ℕ → Bool) (code : List ℕ) (i : ℕ) : Type 0 where
  pub opcode : not (is_opcode (opcode_of code i)) ≡ false
  pub registers : (nat_lt FRAME_POINTER (dst_of code i) || nat_lt FRAME_POINTER (src_of code i)) ≡ false
  pub fields : not (are_fields (opcode_of code i) (dst_of code i) (src_of code i) (raw_offset code i) (raw_imm code i)) ≡ false
  pub pair : (is_wide (opcode_of code i) && not (has_second code i)) ≡ false
  pub jump : (has_target (opcode_of code i) && not (is_start code (target code i))) ≡ false
  pub write : (writes_register (opcode_of code i) && dst_of code i == FRAME_POINTER) ≡ false
  pub call : (is_call (opcode_of code i) && not (allowed (raw_imm code i))) ≡ false

passes : (allowed : ℕ → Bool) (code : List ℕ) (i : ℕ) → slot_fault allowed code i ≡ None → Passes allowed code i
passes allowed code i h =
    let a = if-none _ Opcode _ h in
    let b = if-none _ Register _ a.1 in
    let c = if-none _ Reserved _ b.1 in
    let d = if-none _ WidePair _ c.1 in
    let e = if-none _ Jump _ d.1 in
    let f = if-none _ WriteR10 _ e.1 in
    let g = if-none _ (Helper (raw_imm code i)) _ f.1 in
    record { opcode = a.0; registers = b.0; fields = c.0; pair = d.0; jump = e.0; write = f.0; call = g.0 }

-- if no slot of some has a fault, each of them has no fault
none-at : (allowed : ℕ → Bool) (code : List ℕ) (n i k : ℕ) → first_slot_fault allowed code (filter (λ j. not (is_second code j)) (numbers_from n i)) ≡ None → i ≤ k → k < i + n → is_second code k ≡ false → slot_fault allowed code k ≡ None
none-at allowed code zero i k h low high first = absurd (omega arith)
none-at allowed code (suc n) i k h low high first =
    elim (cases_eq i k) [
      | inl here ↦
          let p : not (is_second code i) ≡ true = not_from_false _ (ap (λ m. is_second code m) here ∙ first) in
          subst (λ m. slot_fault allowed code m ≡ None) here (option_map-none (fault_at i) _ (or_else-none _ _ (rw p at h)).0)
      | inr other ↦
          let rest : first_slot_fault allowed code (filter (λ j. not (is_second code j)) (numbers_from n (i + 1))) ≡ None =
          elim (cases_Bool (not (is_second code i))) [
            | inl p ↦ (or_else-none _ _ (rw p at h)).1
            | inr p ↦ rw p at h
          ] in
          none-at allowed code n (i + 1) k rest (omega arith) (omega arith) first
    ]

-- what follows if the whole code has no fault
pub record Finds (allowed : ℕ → Bool) (code : List ℕ) : Type 0 where
  pub nonempty : (length code == 0) ≡ false
  pub whole : (length code % SLOT_SIZE == 0) ≡ true
  pub few : nat_lt MAX_SLOTS (slots code) ≡ false
  pub each : first_slot_fault allowed code (starts code) ≡ None
  pub end : end_fault code ≡ None

finds : (allowed : ℕ → Bool) (code : List ℕ) → load_fault allowed code ≡ None → Finds allowed code
unfolding load_fault
finds allowed code h =
    let a = if-none _ (fault_at 0 Length) _ h in
    let b = if-none _ (fault_at 0 TooLong) _ a.1 in
    let c = or_else-none _ _ b.1 in
    let d = or_parts _ _ a.0 in
    record { nonempty = d.0; whole = not-false _ d.1; few = b.0; each = c.0; end = c.1 }

-- code that is accepted with some helpers is accepted with every helper
slot_fault-every : (allowed : ℕ → Bool) (code : List ℕ) (i : ℕ) → slot_fault allowed code i ≡ None → slot_fault every_helper code i ≡ None
slot_fault-every allowed code i h =
    let p = passes allowed code i h in
    rw (p.opcode, p.registers, p.fields, p.pair, p.jump, p.write) (
    elim (is_call (opcode_of code i)) as (λ b. (if b && false then Some (Helper (raw_imm code i)) else None) ≡ None) [ true ↦ refl | false ↦ refl ])

first_slot_fault-every : (allowed : ℕ → Bool) (code is : List ℕ) → first_slot_fault allowed code is ≡ None → first_slot_fault every_helper code is ≡ None
first_slot_fault-every allowed code [] h = refl
first_slot_fault-every allowed code (i ∷ is) h =
    let p = or_else-none _ _ h in
    let here = slot_fault-every allowed code i (option_map-none (fault_at i) _ p.0) in
    rw here (first_slot_fault-every allowed code is p.1)

load_fault-every : (allowed : ℕ → Bool) (code : List ℕ) → load_fault allowed code ≡ None → load_fault every_helper code ≡ None
unfolding load_fault
load_fault-every allowed code h =
    let f = finds allowed code h in
    rw (f.nonempty, f.whole, f.few, first_slot_fault-every allowed code (starts code) f.each) f.end

-- code without a fault is accepted
pub IsAccepted-load_fault : (allowed : ℕ → Bool) (code : List ℕ) → load_fault allowed code ≡ None → IsAccepted code
IsAccepted-load_fault allowed code h =
    let f = finds allowed code h in
    let whole : length code % SLOT_SIZE ≡ 0 = eqb-true _ 0 f.whole in
    let nonempty : length code ≢ 0 = eqb-false (length code) 0 f.nonempty in
    record {
      whole = omega arith;
      nonempty = omega (arith, nonempty);
      few = ltb-false MAX_SLOTS (slots code) f.few;
      accepted = load_fault-every allowed code h;
    }

-- the last instruction is EXIT or JA
end-at : (code : List ℕ) (i : ℕ) → end_fault code ≡ None → last_start code ≡ i → is_exit (opcode_of code i) ≡ false → is_ja (opcode_of code i) ≡ false → ⊥
end-at code i h e x j =
    let F : ℕ → Option LoadFault = λ m. if is_exit (opcode_of code m) || is_ja (opcode_of code m) then None else Some (fault_at m OpenEnd) in
    let here : F (last_start code) ≡ F i = ap F e in
    let open_end : F i ≡ Some (fault_at i OpenEnd) = rw (x, j) refl in
    cc

-- after an instruction another begins inside the code
begins-next : (code : List ℕ) → 1 ≤ slots code → end_fault code ≡ None → (i : ℕ) → i < slots code → is_second code i ≡ false → is_exit (opcode_of code i) ≡ false → is_ja (opcode_of code i) ≡ false
    → (is_wide (opcode_of code i) ≡ true → i + 1 < slots code) → begins code (slot_after code i) ≡ true
begins-next code some end i inside first no_exit no_ja pair =
    elim (cases_Bool (is_wide (opcode_of code i))) [
      | inl w ↦
          let second : is_second code (i + 1) ≡ true = is_second-next code i ∙ rw (first, w) refl in
          let third : is_second code (i + 2) ≡ false = ap (λ m. is_second code m) (let e : i + 2 ≡ (i + 1) + 1 = omega arith in e) ∙ is_second-next code (i + 1) ∙ rw second refl in
          let room : i + 2 < slots code = elim (cases_lt (i + 2) (slots code)) [
            | inl below ↦ below
            | inr above ↦
                let near = pair w in
                let last : slots code - 1 ≡ i + 1 = omega (arith, near, above) in
                let last_second : is_second code (slots code - 1) ≡ true = ap (λ m. is_second code m) last ∙ second in
                let begin : last_start code ≡ i = rw last_second (let e : slots code - 2 ≡ i = omega (arith, near, above) in e) in
                absurd (end-at code i end begin no_exit no_ja)
          ] in
          rw w (and_from _ _ (lt-ltb (i + 2) (slots code) room) (not_from_false _ third))
      | inr n ↦
          let second : is_second code (i + 1) ≡ false = is_second-next code i ∙ rw (first, n) refl in
          let room : i + 1 < slots code = elim (cases_lt (i + 1) (slots code)) [
            | inl below ↦ below
            | inr above ↦
                let last : slots code - 1 ≡ i = omega (arith, above, inside) in
                let last_first : is_second code (slots code - 1) ≡ false = ap (λ m. is_second code m) last ∙ first in
                let begin : last_start code ≡ i = rw last_first last in
                absurd (end-at code i end begin no_exit no_ja)
          ] in
          rw n (and_from _ _ (lt-ltb (i + 1) (slots code) room) (not_from_false _ second))
    ]

-- each instruction of accepted code is sound
pub IsSound-begins : (code : List ℕ) → IsAccepted code → (i : ℕ) → begins code i ≡ true → IsSound code i
IsSound-begins code a i b =
    let f = finds every_helper code a.accepted in
    let parts = and_parts _ _ b in
    let inside : i < slots code = ltb-true i (slots code) parts.0 in
    let first : is_second code i ≡ false = not-true _ parts.1 in
    let p = passes every_helper code i (none-at every_helper code (slots code) 0 i f.each (omega arith) (omega arith) first) in
    let registers = or_parts _ _ p.registers in
    let pair : is_wide (opcode_of code i) ≡ true → has_second code i ≡ true = λ w. not-false _ (second-false _ _ p.pair w) in
    record {
      opcode = not-false _ p.opcode;
      dst = ltb-false FRAME_POINTER (dst_of code i) registers.0;
      src = ltb-false FRAME_POINTER (src_of code i) registers.1;
      fields = not-false _ p.fields;
      pair = pair;
      jump = λ j. not-false _ (second-false _ _ p.jump j);
      write = λ w. eqb-false (dst_of code i) FRAME_POINTER (second-false _ _ p.write w);
      next = λ e j. begins-next code a.nonempty f.end i inside first (false_from_ne_true _ e) (false_from_ne_true _ j) (λ w. ltb-true (i + 1) (slots code) (and_parts _ _ (pair w)).0);
    }

-- one turn of the loop over the slots: the first fault of the slots from i on
module _ (allowed : ℕ → Bool) (code : List ℕ) (seconds : List Bool) (i : ℕ) (are : AreSeconds code (slots code) seconds) (inside : i < length seconds) where
  abbrev left : ℕ → ℕ → Option LoadFault
  left m j = first_slot_fault allowed code (filter (λ k. not (is_second code k)) (numbers_from m j))

  turn : left (length seconds - i) i ≡ left (suc (length seconds - (i + 1))) i
  turn = ap (λ m. left m i) (let e : length seconds - i ≡ suc (length seconds - (i + 1)) = omega arith in e)

  is_second-get_or : is_second code i ≡ get_or seconds i false
  is_second-get_or = let size = are.size in sym (are.each i false (omega arith))

  -- a second slot
  pub left-second : get_or seconds i false ≡ true → left (length seconds - i) i ≡ left (length seconds - (i + 1)) (i + 1)
  left-second h = turn ∙ rw (is_second-get_or ∙ h) refl

  -- an instruction without a fault
  pub left-none : get_or seconds i false ≡ false → slot_fault allowed code i ≡ None → left (length seconds - i) i ≡ left (length seconds - (i + 1)) (i + 1)
  left-none h k = turn ∙ rw (is_second-get_or ∙ h, k) refl

  -- an instruction with a fault
  pub left-some : (kind : LoadKind) → get_or seconds i false ≡ false → slot_fault allowed code i ≡ Some kind → left (length seconds - i) i ≡ Some (fault_at i kind)
  left-some kind h k = turn ∙ rw (is_second-get_or ∙ h, k) refl

-- the first instruction begins at slot 0
pub begins-first : (code : List ℕ) → IsAccepted code → begins code 0 ≡ true
begins-first code a = let some = a.nonempty in and_from _ _ (lt-ltb 0 (slots code) (omega arith)) refl

-- a helper that accepted code calls is allowed
pub allowed-call : (allowed : ℕ → Bool) (code : List ℕ) → load_fault allowed code ≡ None → (i : ℕ) → begins code i ≡ true → is_call (opcode_of code i) ≡ true → allowed (raw_imm code i) ≡ true
allowed-call allowed code h i b call =
    let f = finds allowed code h in
    let parts = and_parts _ _ b in
    let inside : i < slots code = ltb-true i (slots code) parts.0 in
    let p = passes allowed code i (none-at allowed code (slots code) 0 i f.each (omega arith) (omega arith) (not-true _ parts.1)) in
    not-false _ (second-false _ _ p.call call)

-- code without a fault calls only what is allowed
pub CallsOnly-load_fault : (allowed : ℕ → Bool) (code : List ℕ) → load_fault allowed code ≡ None → CallsOnly allowed code
CallsOnly-load_fault allowed code h = record { each = λ i b call. allowed-call allowed code h i b call }

-- the same for worlds that allow the same helpers
pub CallsOnly-same : (a b : ℕ → Bool) (code : List ℕ) → ((n : ℕ) → a n ≡ b n) → CallsOnly a code → CallsOnly b code
CallsOnly-same a b code same calls = record { each = λ i begin call. sym (same (raw_imm code i)) ∙ calls.each i begin call }

-- the same helpers give the same fault
slot_fault-same : (a b : ℕ → Bool) → ((n : ℕ) → a n ≡ b n) → (code : List ℕ) (i : ℕ) → slot_fault a code i ≡ slot_fault b code i
slot_fault-same a b h code i = rw (h (raw_imm code i)) refl

first_slot_fault-same : (a b : ℕ → Bool) → ((n : ℕ) → a n ≡ b n) → (code is : List ℕ) → first_slot_fault a code is ≡ first_slot_fault b code is
first_slot_fault-same a b h code [] = refl
first_slot_fault-same a b h code (i ∷ is) = rw (slot_fault-same a b h code i, first_slot_fault-same a b h code is) refl

-- and in the whole code
pub load_fault-same : (a b : ℕ → Bool) → ((n : ℕ) → a n ≡ b n) → (code : List ℕ) → load_fault a code ≡ load_fault b code
unfolding load_fault
load_fault-same a b h code = rw (first_slot_fault-same a b h code (starts code)) refl

-- a sum with a signed number modulo 2^64
wrapped : (i : ℕ) (z : ℤ) (t : ℕ) → pos (i + 1) +ℤ z ≡ pos t → i < MAX_SLOTS → t < MAX_SLOTS → (i + 1 + word z) % 2 ^ 64 ≡ t
wrapped i (pos n) t e h k = let sum : i + 1 + n ≡ t = omega (arith, ints) in omega arith
wrapped i (negsuc n) t e h k = let sum : i + 1 ≡ t + suc n = omega (arith, ints) in omega arith

-- a jump by a signed distance modulo 2^64 goes to the instruction at its target
pub begins-jump : (code : List ℕ) → IsAccepted code → (i : ℕ) → i < slots code → (z : ℤ) → is_start code (pos (i + 1) +ℤ z) ≡ true → begins code ((i + 1 + word z) % 2 ^ 64) ≡ true
begins-jump code a i inside z h =
    elim (pos (i + 1) +ℤ z) as (λ r. pos (i + 1) +ℤ z ≡ r → is_start code r ≡ true → begins code ((i + 1 + word z) % 2 ^ 64) ≡ true) [
      | pos t ↦ λ e b.
          let few = a.few in
          let near : t < slots code = ltb-true t (slots code) (and_parts _ _ b).0 in
          let same : (i + 1 + word z) % 2 ^ 64 ≡ t = wrapped i z t e (omega (arith, inside, few)) (omega (arith, near, few)) in
          rw same b
      | negsuc n ↦ λ e b. absurd (cc)
    ] refl h

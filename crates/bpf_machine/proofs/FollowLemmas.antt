-- In accepted code there is an instruction after each one that goes on, and after each call.
use Rattle.std.proofs.Common.{◌≡◌, ◌≢◌, refl, sym, ap, ◌∙◌, subst, ℕ, ◌+◌, ◌<◌, Bool, true, false, List, Option, Some}
use Rattle.std.proofs.Common.{None, arith, inl, inr, ◌⊎◌}
use Rattle.std.specs.Prelude.{◌==◌, if◌then◌else◌, ℤ, pos, ◌+ℤ◌}
use Rattle.std.proofs.lemmas.Bool.{cases_Bool, cases_eq, eq-eqb, ne_eqb, eqb-true, eqb-false, ltb-true, and_parts}
use Rattle.std.proofs.lemmas.Bool.Decides.{nat_tests}
use Rattle.bpf_mem.specs.Memory.{Memory, load, store}
use Rattle.bpf_insn.specs.Slots.{slots, insn_at, word, opcode_of, offset_of, imm_of}
use Rattle.bpf_insn.specs.Loading.{begins, is_start}
use Rattle.bpf_insn.specs.Sound.{IsAccepted, IsSound, slot_after}
use Rattle.bpf_machine.specs.Words.{low}
use Rattle.bpf_machine.specs.Steps.{Machine, Did, goes, ends, faults, calls, reg, access_address, access_size}
use Rattle.bpf_machine.specs.Steps.{jump_target, jump_step, load_step, store_step, insn_step, take_step}
use Rattle.bpf_machine.specs.Does.{machine}
use Rattle.bpf_insn.proofs.LoadLemmas.{begins-jump}
use Rattle.bpf_machine.proofs.StepLemmas.{take_step-insn_step, insn_step-arithmetic, insn_step-jump, insn_step-wide}
use Rattle.bpf_machine.proofs.StepLemmas.{insn_step-load, insn_step-store, insn_step-register_store}
use Rattle.bpf_insn.specs.Forms.{class, operation, is_opcode, is_call, is_exit, is_ja, has_target}

-- the opcodes of a class
wide_alone : (op : ℕ) → is_opcode op ≡ true → class op ≡ 0 → op ≡ 24
wide_alone op known c = grind (arith, nat_tests)

call_alone : (op : ℕ) → is_opcode op ≡ true → (class op ≡ 5) ⊎ (class op ≡ 6) → operation op ≡ 8 → op ≡ 133
call_alone op known c k = grind (arith, nat_tests)

ja_alone : (op : ℕ) → is_opcode op ≡ true → class op ≡ 5 → operation op ≡ 0 → op ≡ 5
ja_alone op known c k = grind (arith, nat_tests)

long_ja_alone : (op : ℕ) → is_opcode op ≡ true → class op ≡ 6 → operation op ≡ 0 → op ≡ 6
long_ja_alone op known c k = grind (arith, nat_tests)

condition_has_target : (op : ℕ) → is_opcode op ≡ true → (class op ≡ 5) ⊎ (class op ≡ 6) → operation op ≢ 0 → operation op ≢ 8 → operation op ≢ 9 → has_target op ≡ true
condition_has_target op known c a b d = grind (arith, nat_tests)

-- what follows an instruction: an instruction begins at the next slot, and only a call calls
unfoldable pub Follows : List ℕ → ℕ → Did → Type 0
Follows code slot (goes next) = begins code next.slot ≡ true
Follows code slot (ends n) = Unit {0}
Follows code slot faults = Unit {0}
Follows code slot (calls number args) = (begins code (slot + 1) ≡ true) × (is_call (opcode_of code slot) ≡ true) × (number ≡ low 32 (insn_at code slot).imm)

module _ (code : List ℕ) (slot : ℕ) (sound : IsSound code slot) where
  -- the instruction after one that is neither a jump nor the 64-bit load
  begins-plain : (op : ℕ) → op ≡ opcode_of code slot → op ≢ 5 → op ≢ 6 → op ≢ 149 → op ≢ 24 → begins code (slot + 1) ≡ true
  begins-plain op e a b x w =
      let one : slot_after code slot ≡ slot + 1 = rw (← e, ne_eqb op 24 w) refl in
      subst (λ n. begins code n ≡ true) one
      (sound.next (λ h. x (eqb-true op 149 (ap (λ n. is_exit n) e ∙ h))) (λ h. absurd (let no : is_ja op ≡ false = rw (ne_eqb op 5 a, ne_eqb op 6 b) refl in let yes : is_ja op ≡ true = ap (λ n. is_ja n) e ∙ h in cc)))

  plain : (c : ℕ) → class (opcode_of code slot) ≡ c → c ≢ 0 → c ≢ 5 → c ≢ 6 → begins code (slot + 1) ≡ true
  plain c e a b d = begins-plain (opcode_of code slot) refl (omega arith) (omega arith) (omega arith) (omega arith)

  wide : class (opcode_of code slot) ≡ 0 → begins code (slot + 2) ≡ true
  wide e =
      let is : opcode_of code slot ≡ 24 = wide_alone (opcode_of code slot) sound.opcode e in
      let two : slot_after code slot ≡ slot + 2 = rw (eq-eqb (opcode_of code slot) 24 is) refl in
      subst (λ n. begins code n ≡ true) two
      (sound.next (λ h. absurd (let no = eqb-true (opcode_of code slot) 149 h in omega arith)) (λ h. absurd (let no : is_ja (opcode_of code slot) ≡ false = rw is refl in cc)))

  module _ (accepted : IsAccepted code) (here : begins code slot ≡ true) where
    inside : slot < slots code
    inside = ltb-true slot (slots code) (and_parts _ _ here).0

    by_offset : opcode_of code slot ≢ 6 → has_target (opcode_of code slot) ≡ true → begins code (jump_target slot (word (offset_of code slot))) ≡ true
    by_offset other t =
        let distance : (if opcode_of code slot == 6 then imm_of code slot else offset_of code slot) ≡ offset_of code slot = rw (ne_eqb (opcode_of code slot) 6 other) refl in
        begins-jump code accepted slot inside (offset_of code slot) (subst (λ (z : ℤ). is_start code (pos (slot + 1) +ℤ z) ≡ true) distance (sound.jump t))

    by_imm : opcode_of code slot ≡ 6 → begins code (jump_target slot (insn_at code slot).imm) ≡ true
    by_imm is =
        let distance : (if opcode_of code slot == 6 then imm_of code slot else offset_of code slot) ≡ imm_of code slot = rw (eq-eqb (opcode_of code slot) 6 is) refl in
        let number : (insn_at code slot).imm ≡ word (imm_of code slot) = rw is refl in
        rw number (begins-jump code accepted slot inside (imm_of code slot) (subst (λ (z : ℤ). is_start code (pos (slot + 1) +ℤ z) ≡ true) distance (sound.jump (rw is refl))))

    long_jump : (class (opcode_of code slot) ≡ 5) ⊎ (class (opcode_of code slot) ≡ 6) → operation (opcode_of code slot) ≡ 0
        → begins code (jump_target slot (if class (opcode_of code slot) == 5 then word (offset_of code slot) else (insn_at code slot).imm)) ≡ true
    long_jump cases none =
        elim cases [
          | inl five ↦
              let is : opcode_of code slot ≡ 5 = ja_alone (opcode_of code slot) sound.opcode five none in
              rw five (by_offset (omega arith) (rw is refl))
          | inr six ↦ rw six (by_imm (long_ja_alone (opcode_of code slot) sound.opcode six none))
        ]

    condition : (class (opcode_of code slot) ≡ 5) ⊎ (class (opcode_of code slot) ≡ 6) → operation (opcode_of code slot) ≢ 0 → operation (opcode_of code slot) ≢ 8 → operation (opcode_of code slot) ≢ 9
        → (taken : Bool) → begins code (if taken then jump_target slot (word (offset_of code slot)) else slot + 1) ≡ true
    condition cases a b d true = by_offset (λ e. a (ap (λ n. operation n) e)) (condition_has_target (opcode_of code slot) sound.opcode cases a b d)
    condition cases a b d false =
        begins-plain (opcode_of code slot) refl (λ e. a (ap (λ n. operation n) e)) (λ e. a (ap (λ n. operation n) e)) (λ e. d (ap (λ n. operation n) e))
        (λ e. elim cases [ inl five ↦ omega arith | inr six ↦ omega arith ])

    jump_follows : (regs : List ℕ) (memory : Memory) → (class (opcode_of code slot) ≡ 5) ⊎ (class (opcode_of code slot) ≡ 6) → Follows code slot (jump_step (machine regs memory slot) (insn_at code slot))
    unfolding jump_step Follows
    jump_follows regs memory cases =
        elim (cases_Bool (operation (opcode_of code slot) == 0)) [
          | inl none ↦ rw none (long_jump cases (eqb-true _ 0 none))
          | inr some ↦ elim (cases_Bool (operation (opcode_of code slot) == 8)) [
            | inl call ↦
                let is : opcode_of code slot ≡ 133 = call_alone (opcode_of code slot) sound.opcode cases (eqb-true _ 8 call) in
                rw (some, call) (begins-plain (opcode_of code slot) refl (omega arith) (omega arith) (omega arith) (omega arith), rw is refl, refl)
            | inr other ↦ elim (cases_Bool (operation (opcode_of code slot) == 9)) [
              | inl exit ↦ rw (some, other, exit) tt
              | inr last ↦ rw (some, other, last) (condition cases (eqb-false _ 0 some) (eqb-false _ 8 other) (eqb-false _ 9 last) _)
            ]
          ]
        ]

    load_follows : (m : Machine) → (o : Option ℕ) → begins code (m.slot + 1) ≡ true → Follows code slot (load_step m (insn_at code slot) o)
    unfolding Follows
    load_follows m None next = tt
    load_follows m (Some n) next = next

    store_follows : (m : Machine) → (o : Option Memory) → begins code (m.slot + 1) ≡ true → Follows code slot (store_step m o)
    unfolding Follows
    store_follows m None next = tt
    store_follows m (Some memory) next = next

    goes_follows : (m : Machine) → begins code m.slot ≡ true → Follows code slot (goes m)
    unfolding Follows
    goes_follows m next = next

    by_class : (regs : List ℕ) (memory : Memory) (c : ℕ) → c ≡ class (opcode_of code slot) → (c ≢ 0) → (c ≢ 5) → (c ≢ 6) → Follows code slot (take_step code (machine regs memory slot))
    by_class regs memory c is n0 n5 n6 =
        let i = insn_at code slot in
        let m = machine regs memory slot in
        let next : begins code (slot + 1) ≡ true = plain c (sym is) n0 n5 n6 in
        let into = λ (d : Did) (e : insn_step i m ≡ d) (h : Follows code slot d). subst (λ (x : Did). Follows code slot x) (sym (take_step-insn_step code regs slot memory i refl ∙ e)) h in
        elim (cases_eq c 1) [
          | inl e ↦ into _ (insn_step-load regs slot memory i c is e) (load_follows m (load memory (access_address regs i.src i) (access_size i.opcode)) next)
          | inr n1 ↦ elim (cases_eq c 2) [
            | inl e ↦ into _ (insn_step-store regs slot memory i c is e) (store_follows m (store memory (access_address regs i.dst i) (access_size i.opcode) i.imm) next)
            | inr n2 ↦ elim (cases_eq c 3) [
              | inl e ↦ into _ (insn_step-register_store regs slot memory i c is e) (store_follows m (store memory (access_address regs i.dst i) (access_size i.opcode) (reg regs i.src)) next)
              | inr n3 ↦
                  let last : (c ≡ 4) ⊎ (c ≡ 7) = grind arith in
                  into _ (insn_step-arithmetic regs slot memory i c is last) (goes_follows _ next)
            ]
          ]
        ]

    -- each instruction of accepted code is followed by one
    pub Follows-take_step : (regs : List ℕ) (memory : Memory) → Follows code slot (take_step code (machine regs memory slot))
    Follows-take_step regs memory =
        let i = insn_at code slot in
        let m = machine regs memory slot in
        let c = class (opcode_of code slot) in
        let into = λ (d : Did) (e : insn_step i m ≡ d) (h : Follows code slot d). subst (λ (x : Did). Follows code slot x) (sym (take_step-insn_step code regs slot memory i refl ∙ e)) h in
        elim (cases_eq c 0) [
          | inl e ↦ into _ (insn_step-wide regs slot memory i c refl e) (goes_follows _ (wide e))
          | inr n0 ↦ elim (cases_eq c 5) [
            | inl e ↦ into _ (insn_step-jump regs slot memory i c refl (inl e)) (jump_follows regs memory (inl e))
            | inr n5 ↦ elim (cases_eq c 6) [
              | inl e ↦ into _ (insn_step-jump regs slot memory i c refl (inr e)) (jump_follows regs memory (inr e))
              | inr n6 ↦ by_class regs memory c refl n0 n5 n6
            ]
          ]
        ]

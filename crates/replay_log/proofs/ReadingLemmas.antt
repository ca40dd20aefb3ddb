-- A line that is read octet by octet, and how its octets are found.
use Rattle.std.proofs.Common.{◌≡◌, refl, sym, ap, ◌∙◌, inl, inr, ℕ, suc, ◌+◌, ◌-◌, ◌<◌, ◌≤◌, Bool, true, false, ◌==◌}
use Rattle.std.proofs.Common.{nat_lt, if◌then◌else◌, List, [], ◌∷◌, ◌++◌, length, take, drop, get_or, Option, Some}
use Rattle.std.proofs.Common.{None, slice_get, IfSome, MatchOption, arith, length-append, drop-cons, zero-add}
use Rattle.std.specs.List.{position_or_len}
use Rattle.std.proofs.lemmas.Bool.{cases_Bool, cases_lt, eqb-true, eqb-false, eq-eqb, ne_eqb, lt-ltb, le-ltb}
use Rattle.std.proofs.lemmas.List.{append_assoc, append-nil, take_at, drop_all, length-take, get_or-take}
use Rattle.replay_log.specs.declared.limits.TheConstants.{LINE_LIMIT, LOG_LIMIT}
use Rattle.replay_log.specs.Logs.{line_size}
use Rattle.replay_log.specs.declared.reader.Got.{Got}
use Rattle.replay_log.specs.declared.reader.Got.TheVariants.{Line, End, LineTooLong, TooLong, Failed}
use Rattle.replay_log.specs.Readings.{Next, Reading, got_view, scan, next_line, next_end, next_line_too_long}
use Rattle.replay_log.specs.Readings.{next_log_too_long, by_size, next_in, next_at}

-- the index of the first line end
abbrev pub end_in : List ℕ → ℕ
end_in s = position_or_len (λ c. c == 10) s

-- these octets have no line end
abbrev pub HasNoEnd : List ℕ → Type 0
HasNoEnd s = end_in s ≡ length s

end_in-append : (front s : List ℕ) → HasNoEnd front → end_in (front ++ s) ≡ length front + end_in s
end_in-append [] s none = sym (zero-add (end_in s))
end_in-append (c ∷ front) s none =
    elim (cases_Bool (c == 10)) [
      | inl is ↦ let wrong : 0 ≡ suc (length front) = rw is at none in absurd (omega arith)
      | inr other ↦
          let less : 1 + end_in front ≡ suc (length front) = rw other at none in
          let e = end_in-append front s (omega arith) in
          rw other (omega (arith, e))
    ]

HasNoEnd-append : (front : List ℕ) (c : ℕ) → HasNoEnd front → (c == 10) ≡ false → HasNoEnd (front ++ c ∷ [])
HasNoEnd-append front c none other =
    let one : end_in (c ∷ []) ≡ 1 = rw other refl in
    end_in-append front (c ∷ []) none ∙ omega (arith, one, length-append front (c ∷ []))

line_size-none : (s : List ℕ) → length s ≤ end_in s → line_size s ≡ None
line_size-none s h = rw (le-ltb (end_in s) (length s) h, line_size) refl

line_size-some : (s : List ℕ) → end_in s < length s → line_size s ≡ Some (end_in s + 1)
line_size-some s h = rw (lt-ltb (end_in s) (length s) h, line_size) refl

next_in-by_size : (at : ℕ) (longer : Bool) (s : List ℕ) (o : Option ℕ) → line_size s ≡ o → next_in at longer s ≡ by_size at longer s o
next_in-by_size at longer s o e = ap (λ (r : Option ℕ). by_size at longer s r) e

-- at the limit, or at the end
next_in-last : (start place : ℕ) (longer : Bool) (front : List ℕ) → HasNoEnd front → length front ≤ LINE_LIMIT → place ≡ start + length front
    → next_in start longer front ≡ scan place longer front []
next_in-last start place longer front none short at =
    next_in-by_size start longer front None (line_size-none front (omega arith)) ∙ rw (le-ltb LINE_LIMIT (length front) short, at) refl

-- at a line end
next_in-line : (start place : ℕ) (longer : Bool) (front rest : List ℕ) → HasNoEnd front → length front ≤ LINE_LIMIT → place ≡ start + length front
    → next_in start longer (front ++ 10 ∷ rest) ≡ next_line front (place + 1)
next_in-line start place longer front rest none short at =
    let here : end_in (front ++ 10 ∷ rest) ≡ length front = end_in-append front (10 ∷ rest) none ∙ omega arith in
    let size = length-append front (10 ∷ rest) in
    let found : line_size (front ++ 10 ∷ rest) ≡ Some (length front + 1) = line_size-some (front ++ 10 ∷ rest) (omega (arith, here, size)) ∙ ap (λ (n : ℕ). Some (n + 1)) here in
    let less : length front + 1 - 1 ≡ length front = omega arith in
    let behind : start + (length front + 1) ≡ place + 1 = omega arith in
    next_in-by_size start longer (front ++ 10 ∷ rest) (Some (length front + 1)) found
    ∙ rw (less, le-ltb LINE_LIMIT (length front) short, take_at front (10 ∷ rest) (length front) refl, behind) refl

-- one octet more than a line has
next_in-long : (start : ℕ) (longer : Bool) (front rest : List ℕ) (c : ℕ) → HasNoEnd front → (c == 10) ≡ false → length front ≡ LINE_LIMIT
    → next_in start longer (front ++ c ∷ rest) ≡ next_line_too_long
next_in-long start longer front rest c none other full =
    let s = front ++ c ∷ rest in
    let size = length-append front (c ∷ rest) in
    let one : end_in (c ∷ rest) ≡ 1 + end_in rest = rw other refl in
    let behind : end_in s ≡ length front + (1 + end_in rest) = end_in-append front (c ∷ rest) none ∙ ap (λ (n : ℕ). length front + n) one in
    elim (cases_lt (end_in s) (length s)) [
      | inl ends ↦
          let less : end_in s + 1 - 1 ≡ end_in s = omega arith in
          next_in-by_size start longer s (Some (end_in s + 1)) (line_size-some s ends) ∙ rw (less, lt-ltb LINE_LIMIT (end_in s) (omega (arith, behind))) refl
      | inr whole ↦ next_in-by_size start longer s None (line_size-none s whole) ∙ rw (lt-ltb LINE_LIMIT (length s) (omega (arith, size))) refl
    ]

scan-next_in : (start place : ℕ) (longer : Bool) (front rest : List ℕ) → HasNoEnd front → length front ≤ LINE_LIMIT → place ≡ start + length front
    → scan place longer front rest ≡ next_in start longer (front ++ rest)
scan-next_in start place longer front [] none short at = rw (append-nil front) (sym (next_in-last start place longer front none short at))
scan-next_in start place longer front (c ∷ rest) none short at =
    elim (cases_Bool (c == 10)) [
      | inl is ↦ rw is (rw (eqb-true c 10 is) (sym (next_in-line start place longer front rest none short at)))
      | inr other ↦
          elim (cases_Bool (length front == LINE_LIMIT)) [
            | inl full ↦ rw (other, full) (sym (next_in-long start longer front rest c none other (eqb-true (length front) LINE_LIMIT full)))
            | inr fits ↦
                let size : length (front ++ c ∷ []) ≡ length front + 1 = length-append front (c ∷ []) in
                let differs = eqb-false (length front) LINE_LIMIT fits in
                let joined : (front ++ c ∷ []) ++ rest ≡ front ++ c ∷ rest = append_assoc front (c ∷ []) rest in
                rw (other, fits)
                (scan-next_in start (place + 1) longer (front ++ c ∷ []) rest (HasNoEnd-append front c none other) (omega (arith, size, differs)) (omega (arith, size))
                ∙ ap (next_in start longer) joined)
          ]
    ]

-- what comes, if `front` was read and the next octet's offset is `place`
abbrev pub left_at : ℕ → List ℕ → List ℕ → Next
left_at place front log = scan place (nat_lt LOG_LIMIT (length log)) front (drop place (take LOG_LIMIT log))

-- nothing is read at the start
pub left_at-start : (start : ℕ) (log : List ℕ) → left_at start [] log ≡ next_at log start
unfolding next_at
left_at-start start log = scan-next_in start start (nat_lt LOG_LIMIT (length log)) [] (drop start (take LOG_LIMIT log)) refl (omega arith) (omega arith)

-- at the end of the log, with a line before it or none, and at its limit
left_at-past : (place : ℕ) (front log : List ℕ) → length log ≤ place → place ≤ LOG_LIMIT → left_at place front log ≡ (if length front == 0 then next_end else next_line front place)
left_at-past place front log ended at =
    let nothing : drop place (take LOG_LIMIT log) ≡ [] = drop_all place (take LOG_LIMIT log) (omega (arith, length-take LOG_LIMIT log)) in
    rw (nothing, le-ltb LOG_LIMIT (length log) (omega arith)) refl

pub left_at-end : (place size : ℕ) (front log : List ℕ) → length log ≤ place → place ≤ LOG_LIMIT → size ≡ length front → size ≡ 0 → left_at place front log ≡ next_end
left_at-end place size front log ended at is zero =
    let empty : length front ≡ 0 = sym is ∙ zero in
    left_at-past place front log ended at ∙ rw (eq-eqb (length front) 0 empty) refl

pub left_at-last : (place size : ℕ) (front log : List ℕ) → length log ≤ place → place ≤ LOG_LIMIT → size ≡ length front → (size ≡ 0 → ⊥)
    → left_at place front log ≡ next_line front place
left_at-last place size front log ended at is some =
    left_at-past place front log ended at ∙ rw (ne_eqb (length front) 0 (λ zero. some (is ∙ zero))) refl

pub left_at-limit : (place : ℕ) (front log : List ℕ) → place < length log → LOG_LIMIT ≤ place → left_at place front log ≡ next_log_too_long
left_at-limit place front log more at =
    let nothing : drop place (take LOG_LIMIT log) ≡ [] = drop_all place (take LOG_LIMIT log) (omega (arith, length-take LOG_LIMIT log)) in
    rw (nothing, lt-ltb LOG_LIMIT (length log) (omega arith)) refl

-- anything except `Line` is the same for each reader
pub got_view-else : (got : Got) (r t : Reading) (P : Next → Type 0) → (got ≡ Line → ⊥) → IfSome (got_view got r) P → IfSome (got_view got t) P
got_view-else Line r t P other h = absurd (other refl)
got_view-else End r t P other h = h
got_view-else LineTooLong r t P other h = h
got_view-else TooLong r t P other h = h
got_view-else Failed r t P other h = tt

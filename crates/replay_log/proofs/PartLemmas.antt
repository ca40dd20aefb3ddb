-- Octets that are read ahead, as parts of a line.
use Rattle.std.proofs.Common.{◌≡◌, refl, sym, ap, ◌∙◌, inl, inr, ℕ, zero, suc, ◌+◌, ◌<◌, ◌≤◌, Bool, true, false, ◌==◌}
use Rattle.std.proofs.Common.{List, [], ◌∷◌, ◌++◌, length, take, drop, get_or, Option, Some, None, arith, length-append}
use Rattle.std.specs.List.{position, position_or_len}
use Rattle.std.proofs.lemmas.Bool.{cases_Bool, cases_lt, eqb-true, eqb-false, ne_eqb, lt-ltb, le-ltb}
use Rattle.std.proofs.lemmas.List.{append_assoc, append-nil, length-take}
use Rattle.std.proofs.lemmas.List.Quantifiers.{position-Some}
use Rattle.std.proofs.lemmas.List.Sums.{fails_before_first, position_or_len_is}
use Rattle.memchr.specs.Find.{IsFirstByte}
use Rattle.xb_values.specs.Buffers.{Buffer, Appends}
use Rattle.replay_log.specs.declared.limits.TheConstants.{LINE_LIMIT}
use Rattle.replay_log.specs.declared.part.Part.TheVariants.{TooLongPart, LastPart, WholePart}
use Rattle.replay_log.specs.Readings.{scan, TakesPart, next_line, next_line_too_long}

abbrev is_end : ℕ → Bool
is_end c = c == 10

-- the first n octets have no line end
abbrev NoneBefore : ℕ → List ℕ → Type 0
NoneBefore n s = (k : ℕ) → k < n → is_end (get_or s k 0) ≡ false

none_before-next : (n c : ℕ) (s : List ℕ) → NoneBefore (suc n) (c ∷ s) → NoneBefore n s
none_before-next n c s none k less = none (suc k) (omega arith)

-- octets without a line end that fit are appended, and a line end after them ends the line
scan-fits : (n at : ℕ) (longer : Bool) (front s : List ℕ) → n ≤ length s → NoneBefore n s → length front + n ≤ LINE_LIMIT
    → scan at longer front s ≡ scan (at + n) longer (front ++ take n s) (drop n s)
scan-fits zero at longer front s within none fits =
    let same : at + 0 ≡ at = omega arith in
    rw (append-nil front, same) refl
scan-fits (suc n) at longer front [] within none fits = absurd (omega arith)
scan-fits (suc n) at longer front (c ∷ s) within none fits =
    let other : (c == 10) ≡ false = none 0 (omega arith) in
    let room : (length front == LINE_LIMIT) ≡ false = ne_eqb (length front) LINE_LIMIT (λ full. omega (arith, full)) in
    let longer_front : length (front ++ c ∷ []) ≡ length front + 1 = length-append front (c ∷ []) in
    let joined : (front ++ c ∷ []) ++ take n s ≡ front ++ c ∷ take n s = append_assoc front (c ∷ []) (take n s) in
    let after : at + 1 + n ≡ at + suc n = omega arith in
    let one : scan at longer front (c ∷ s) ≡ scan (at + 1) longer (front ++ c ∷ []) s = rw (other, room) refl in
    let others = scan-fits n (at + 1) longer (front ++ c ∷ []) s (omega arith) (none_before-next n c s none) (omega (arith, longer_front)) in
    one ∙ others ∙ ap (λ (f : List ℕ). scan (at + 1 + n) longer f (drop n s)) joined ∙ ap (λ (i : ℕ). scan i longer (front ++ c ∷ take n s) (drop n s)) after

-- octets without a line end that do not fit are too many
scan-long : (n at : ℕ) (longer : Bool) (front s : List ℕ) → n ≤ length s → NoneBefore n s → length front ≤ LINE_LIMIT → LINE_LIMIT < length front + n
    → scan at longer front s ≡ next_line_too_long
scan-long zero at longer front s within none short long = absurd (omega arith)
scan-long (suc n) at longer front [] within none short long = absurd (omega arith)
scan-long (suc n) at longer front (c ∷ s) within none short long =
    let other : (c == 10) ≡ false = none 0 (omega arith) in
    let longer_front : length (front ++ c ∷ []) ≡ length front + 1 = length-append front (c ∷ []) in
    elim (cases_Bool (length front == LINE_LIMIT)) [
      | inl full ↦ rw (other, full) refl
      | inr fits ↦
          let differs = eqb-false (length front) LINE_LIMIT fits in
          rw (other, fits)
          (scan-long n (at + 1) longer (front ++ c ∷ []) s (omega arith) (none_before-next n c s none) (omega (arith, longer_front, differs)) (omega (arith, longer_front)))
    ]

-- the first octets of a list that has more after it
take-append_front : (n : ℕ) (s rest : List ℕ) → n ≤ length s → take n (s ++ rest) ≡ take n s
take-append_front zero s rest fits = refl
take-append_front (suc n) [] rest fits = absurd (omega arith)
take-append_front (suc n) (c ∷ s) rest fits = ap (λ (t : List ℕ). c ∷ t) (take-append_front n s rest (omega arith))

drop-append_front : (n : ℕ) (s rest : List ℕ) → n ≤ length s → drop n (s ++ rest) ≡ drop n s ++ rest
drop-append_front zero s rest fits = refl
drop-append_front (suc n) [] rest fits = absurd (omega arith)
drop-append_front (suc n) (c ∷ s) rest fits = drop-append_front n s rest (omega arith)

get_or-append_front : (k : ℕ) (s rest : List ℕ) → k < length s → get_or (s ++ rest) k 0 ≡ get_or s k 0
get_or-append_front zero [] rest fits = absurd (omega arith)
get_or-append_front zero (c ∷ s) rest fits = refl
get_or-append_front (suc k) [] rest fits = absurd (omega arith)
get_or-append_front (suc k) (c ∷ s) rest fits = get_or-append_front k s rest (omega arith)

none_before-append : (n : ℕ) (s rest : List ℕ) → n ≤ length s → NoneBefore n s → NoneBefore n (s ++ rest)
none_before-append n s rest fits none k less = ap is_end (get_or-append_front k s rest (omega arith)) ∙ none k less

within-append : (n : ℕ) (s rest : List ℕ) → n ≤ length s → n ≤ length (s ++ rest)
within-append n s rest fits = omega (arith, length-append s rest)

-- the octet at an index and those after it
drop-at_end : (n : ℕ) (s : List ℕ) → n < length s → is_end (get_or s n 0) ≡ true → drop n s ≡ 10 ∷ drop (n + 1) s
drop-at_end zero [] within is = absurd (omega arith)
drop-at_end zero (c ∷ s) within is = ap (λ (d : ℕ). d ∷ s) (eqb-true c 10 is)
drop-at_end (suc n) [] within is = absurd (omega arith)
drop-at_end (suc n) (c ∷ s) within is =
    let up : suc (n + 1) ≡ suc n + 1 = omega arith in
    drop-at_end n s (omega arith) is ∙ ap (λ (m : ℕ). 10 ∷ drop m (c ∷ s)) up

scan-ends : (n at : ℕ) (longer : Bool) (front s : List ℕ) → n < length s → is_end (get_or s n 0) ≡ true → NoneBefore n s → length front + n ≤ LINE_LIMIT
    → scan at longer front s ≡ next_line (front ++ take n s) (at + (n + 1))
scan-ends n at longer front s within is none fits =
    let after : at + n + 1 ≡ at + (n + 1) = omega arith in
    scan-fits n at longer front s (omega arith) none fits
    ∙ ap (λ (t : List ℕ). scan (at + n) longer (front ++ take n s) t) (drop-at_end n s within is)
    ∙ ap (next_line (front ++ take n s)) after

-- what a search finds is the first index
fails-from_not : (b : Bool) → ¬ (b ≡ true) → b ≡ false
fails-from_not true not = absurd (not refl)
fails-from_not false not = refl

pub position-first : (test : ℕ → Bool) (s : List ℕ) (r : Option ℕ) → IsFirstByte test s r → r ≡ position test s
position-first test s None none =
    let all : position_or_len test s ≡ length s =
    position_or_len_is test s (length s) 0 (omega arith) (λ k less. fails-from_not (test (get_or s k 0)) (none k (omega arith) less)) (λ wrong. absurd (omega arith)) in
    sym (rw (le-ltb (position_or_len test s) (length s) (omega (arith, all))) refl)
position-first test s (Some i) found =
    let here : position_or_len test s ≡ i =
    position_or_len_is test s i 0 (omega (arith, found.0.high)) (λ k less. fails-from_not (test (get_or s k 0)) (found.0.before k (omega arith) less)) (λ less. found.1) in
    sym (rw (lt-ltb (position_or_len test s) (length s) (omega (arith, here, found.0.high))) (ap Some here))

-- what the search for a line end says
none_before-None : (s : List ℕ) → position is_end s ≡ None → NoneBefore (length s) s
none_before-None s e k less =
    elim (cases_lt (position_or_len is_end s) (length s)) [
      | inl within ↦
          let found : position is_end s ≡ Some (position_or_len is_end s) = rw (lt-ltb (position_or_len is_end s) (length s) within) refl in
          let wrong : None ≡ Some (position_or_len is_end s) = sym e ∙ found in
          cc wrong
      | inr past ↦ fails_before_first is_end s k 0 (omega arith)
    ]

module _ (octets : List ℕ) (old new : Buffer) (short : length old.octets ≤ LINE_LIMIT) (room : old.capacity ≡ LINE_LIMIT) where
  appended : (part : List ℕ) → Appends true old new part → new.octets ≡ old.octets ++ part
  appended part a = ap (λ (b : Buffer). b.octets) a.result

  fits : (part : List ℕ) → Appends true old new part → length old.octets + length part ≤ LINE_LIMIT
  fits part a = let h = a.fits.0 refl in omega (arith, h, room)

  full : (part : List ℕ) → Appends false old new part → LINE_LIMIT < length old.octets + length part
  full part a =
      elim (cases_lt LINE_LIMIT (length old.octets + length part)) [
        | inl long ↦ long
        | inr less ↦ let wrong : false ≡ true = a.fits.1 (omega (arith, room)) in cc wrong
      ]

  -- the octets before the first line end were appended, or did not fit
  pub takes-last : (i : ℕ) → position is_end octets ≡ Some i → Appends true old new (take i octets) → TakesPart octets old.octets new.octets (LastPart (i + 1))
  takes-last i e a =
      let found = position-Some is_end octets i 0 e in
      let size : length (take i octets) ≡ i = omega (arith, length-take i octets, found.0) in (
        omega arith,
        omega (arith, found.0),
        λ at longer rest.
            let within : i < length (octets ++ rest) = omega (arith, found.0, length-append octets rest) in
            scan-ends i at longer old.octets (octets ++ rest) within (ap is_end (get_or-append_front i octets rest found.0) ∙ found.1)
            (none_before-append i octets rest (omega (arith, found.0)) found.2) (omega (arith, fits (take i octets) a, size))
            ∙ ap (λ (t : List ℕ). next_line (old.octets ++ t) (at + (i + 1))) (take-append_front i octets rest (omega (arith, found.0)))
            ∙ ap (λ (t : List ℕ). next_line t (at + (i + 1))) (sym (appended (take i octets) a)),
      )

  pub takes-long_last : (i : ℕ) → position is_end octets ≡ Some i → Appends false old new (take i octets) → TakesPart octets old.octets new.octets TooLongPart
  takes-long_last i e a =
      let found = position-Some is_end octets i 0 e in
      let size : length (take i octets) ≡ i = omega (arith, length-take i octets, found.0) in
      λ at longer rest.
      scan-long i at longer old.octets (octets ++ rest) (within-append i octets rest (omega (arith, found.0)))
      (none_before-append i octets rest (omega (arith, found.0)) found.2) short (omega (arith, full (take i octets) a, size))

  -- no line end is there, and all octets were appended, or did not fit
  pub takes-whole : (count : ℕ) → count ≡ length octets → position is_end octets ≡ None → Appends true old new octets → TakesPart octets old.octets new.octets (WholePart count)
  takes-whole count is e a =
      let none = none_before-None octets e in
      let seam : (rest : List ℕ) → take (length octets) (octets ++ rest) ≡ octets = λ rest. take-append_front (length octets) octets rest (omega arith) ∙ take-whole octets in
      let left : (rest : List ℕ) → drop (length octets) (octets ++ rest) ≡ rest = λ rest. drop-append_front (length octets) octets rest (omega arith) ∙ ap (λ (t : List ℕ). t ++ rest) (drop-whole octets) in (
        is,
        omega (arith, is, ap length (appended octets a), length-append old.octets octets),
        λ at longer rest.
            scan-fits (length octets) at longer old.octets (octets ++ rest) (within-append (length octets) octets rest (omega arith))
            (none_before-append (length octets) octets rest (omega arith) none) (fits octets a)
            ∙ ap (λ (t : List ℕ). scan (at + length octets) longer (old.octets ++ t) (drop (length octets) (octets ++ rest))) (seam rest)
            ∙ ap (λ (t : List ℕ). scan (at + length octets) longer t (drop (length octets) (octets ++ rest))) (sym (appended octets a))
            ∙ ap (scan (at + length octets) longer new.octets) (left rest)
            ∙ ap (λ (n : ℕ). scan (at + n) longer new.octets rest) (sym is),
      )
    where
      take-whole : (s : List ℕ) → take (length s) s ≡ s
      take-whole [] = refl
      take-whole (c ∷ s) = ap (λ (t : List ℕ). c ∷ t) (take-whole s)

      drop-whole : (s : List ℕ) → drop (length s) s ≡ []
      drop-whole [] = refl
      drop-whole (c ∷ s) = drop-whole s

  pub takes-long_whole : position is_end octets ≡ None → Appends false old new octets → TakesPart octets old.octets new.octets TooLongPart
  takes-long_whole e a =
      λ at longer rest.
      scan-long (length octets) at longer old.octets (octets ++ rest) (within-append (length octets) octets rest (omega arith))
      (none_before-append (length octets) octets rest (omega arith) (none_before-None octets e)) short (full octets a)

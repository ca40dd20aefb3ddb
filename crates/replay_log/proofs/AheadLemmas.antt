-- Octets of a log that were read ahead.
use Rattle.std.proofs.Common.{◌≡◌, refl, sym, ap, ◌∙◌, subst, inl, inr, ℕ, ◌+◌, ◌-◌, ◌<◌, ◌≤◌, min, Bool, List, [], ◌∷◌}
use Rattle.std.proofs.Common.{◌++◌, length, take, drop, Option, Some, None, IsNone, MatchOption, nat_lt, arith}
use Rattle.std.specs.List.{slice_range}
use Rattle.std.proofs.lemmas.Bool.{cases_lt}
use Rattle.std.proofs.lemmas.List.{drop-drop, drop-take, drop_all, length-drop, length-take, take-append-drop}
use Rattle.std.proofs.lemmas.List.{take-take, take_all}
use Rattle.xb_io.specs.Causes.{Files, Reads, ReadsPart, IsMissing, file_named, told_file}
use Rattle.replay_log.specs.declared.limits.TheConstants.{LINE_LIMIT, LOG_LIMIT}
use Rattle.replay_log.specs.declared.part.Part.TheVariants.{TooLongPart, LastPart, WholePart}
use Rattle.replay_log.specs.Readings.{AreAhead, TakesPart, scan, next_line, next_line_too_long}
use Rattle.replay_log.proofs.ReadingLemmas.{left_at}

-- the octets are those at the offset of a log
abbrev pub AreOf : List ℕ → ℕ → List ℕ → Type 0
AreOf log at octets = octets ≡ take (length octets) (drop at log)

pub are_ahead-told : (held : Option Files) (name log : List ℕ) (at : ℕ) (octets : List ℕ) → AreAhead held name at octets → told_file held name ≡ Some log → AreOf log at octets
are_ahead-told None name log at octets ahead told = cc told
are_ahead-told (Some files) name log at octets ahead told =
    subst (λ (o : Option (List ℕ)). MatchOption o (octets ≡ []) (λ l. AreOf l at octets)) told ahead

pub are_ahead-nothing : (held : Option Files) (name : List ℕ) (at : ℕ) → AreAhead held name at []
are_ahead-nothing None name at = tt
are_ahead-nothing (Some files) name at =
    elim (file_named files name) as (λ (o : Option (List ℕ)). MatchOption o (◌≡◌ {A = List ℕ} [] []) (λ l. AreOf l at [])) [
      | None ↦ refl
      | Some log ↦ refl
    ]

pub are_ahead-missing : (held : Option Files) (name : List ℕ) (at : ℕ) (octets : List ℕ) → AreAhead held name at octets → IsMissing held name → octets ≡ []
are_ahead-missing None name at octets ahead missing = absurd missing
are_ahead-missing (Some files) name at octets ahead missing =
    elim (file_named files name) as (λ (o : Option (List ℕ)). MatchOption o (octets ≡ []) (λ l. AreOf l at octets) → IsNone o → octets ≡ []) [
      | None ↦ λ a m. a
      | Some log ↦ λ a m. cc m
    ] ahead missing

skipped : (log : List ℕ) (at : ℕ) (octets : List ℕ) (count : ℕ) → count ≤ length octets → AreOf log at octets → AreOf log (at + count) (drop count octets)
skipped log at octets count fits are =
    let n = length octets - count in
    let whole : length octets ≡ count + n = omega arith in
    let size : n ≡ length (drop count octets) = sym (length-drop count octets) in
    ap (drop count) (are ∙ ap (λ (m : ℕ). take m (drop at log)) whole)
    ∙ drop-take count n (drop at log)
    ∙ ap (take n) (drop-drop count at log)
    ∙ ap (λ (m : ℕ). take m (drop (at + count) log)) size

pub are_ahead-skipped : (held : Option Files) (name : List ℕ) (at : ℕ) (octets : List ℕ) (count : ℕ) → count ≤ length octets → AreAhead held name at octets
    → AreAhead held name (at + count) (drop count octets)
are_ahead-skipped None name at octets count fits ahead = tt
are_ahead-skipped (Some files) name at octets count fits ahead =
    elim (file_named files name) as (λ (o : Option (List ℕ)). MatchOption o (octets ≡ []) (λ l. AreOf l at octets)
    → MatchOption o (drop count octets ≡ []) (λ l. AreOf l (at + count) (drop count octets))) [
      | None ↦ λ e. let none : length octets ≡ 0 = ap length e in drop_all count octets (omega arith)
      | Some log ↦ λ are. skipped log at octets count fits are
    ] ahead

-- what is left of a part after its first octets
pub range-skipped : (items : List ℕ) (from to count : ℕ) → from + count ≤ to → slice_range items (from + count) to ≡ drop count (slice_range items from to)
range-skipped items from to count fits =
    let m = to - (from + count) in
    let whole : to - from ≡ count + m = omega arith in
    sym (ap (λ (k : ℕ). drop count (take k (drop from items))) whole ∙ drop-take count m (drop from items) ∙ ap (take m) (drop-drop count from items))

-- what a read gave
front_range : (buf : List ℕ) (n : ℕ) → slice_range buf 0 n ≡ take n buf
front_range buf n = let same : n - 0 ≡ n = omega arith in ap (λ (m : ℕ). take m buf) same

size_of_front : (buf : List ℕ) (n : ℕ) → n ≤ length buf → length (slice_range buf 0 n) ≡ n
size_of_front buf n fits = ap length (front_range buf n) ∙ omega (arith, length-take n buf)

pub are_ahead-read : (held : Option Files) (name : List ℕ) (at : ℕ) (buf : List ℕ) (n : ℕ) → Reads held name at buf n → AreAhead held name at (slice_range buf 0 n)
are_ahead-read None name at buf n reads = tt
are_ahead-read (Some files) name at buf n reads =
    elim (file_named files name) as (λ (o : Option (List ℕ)). MatchOption o ⊥ (λ l. ReadsPart l at buf n) → MatchOption o (slice_range buf 0 n ≡ []) (λ l. AreOf l at (slice_range buf 0 n))) [
      | None ↦ λ no. absurd no
      | Some log ↦ λ part. front_range buf n ∙ part.part ∙ ap (λ (m : ℕ). take m (drop at log)) (sym (size_of_front buf n part.fits))
    ] reads

-- a read that gave nothing was at the end
pub ends-read : (held : Option Files) (name : List ℕ) (at : ℕ) (buf : List ℕ) (n : ℕ) (log : List ℕ) → Reads held name at buf n → told_file held name ≡ Some log
    → 0 < length buf → slice_range buf 0 n ≡ [] → length log ≤ at
ends-read None name at buf n log reads told some nothing = cc told
ends-read (Some files) name at buf n log reads told some nothing =
    let part : ReadsPart log at buf n = subst (λ (o : Option (List ℕ)). MatchOption o ⊥ (λ l. ReadsPart l at buf n)) told reads in
    let none : n ≡ 0 = sym (size_of_front buf n part.fits) ∙ ap length nothing in
    elim (cases_lt at (length log)) [
      | inl more ↦ let wrong : 0 < n = part.progress some more in absurd (omega arith)
      | inr past ↦ past
    ]

module _ (log : List ℕ) (at : ℕ) (octets : List ℕ) (are : AreOf log at octets) where
  size : length octets ≤ length log - at
  size =
      let cut : length octets ≡ length (take (length octets) (drop at log)) = ap length are in
      omega (arith, cut, length-take (length octets) (drop at log), length-drop at log)

  -- octets that are left are before the log's end
  pub before_end : 0 < length octets → at < length log
  before_end some = omega (arith, size)

  -- those before the limit come first of what is left before the limit
  pub left-split : at ≤ LOG_LIMIT → let part = take (LOG_LIMIT - at) octets in drop at (take LOG_LIMIT log) ≡ part ++ drop (at + length part) (take LOG_LIMIT log)
  left-split within =
      let most = LOG_LIMIT - at in
      let part = take most octets in
      let cut = take LOG_LIMIT log in
      let limit : LOG_LIMIT ≡ at + most = omega arith in
      let left : drop at cut ≡ take most (drop at log) = ap (λ (m : ℕ). drop at (take m log)) limit ∙ drop-take at most log in
      let count : length part ≡ min most (length octets) = length-take most octets in
      let same : part ≡ take (length part) (drop at cut) =
      elim (cases_lt most (length octets)) [
        | inl less ↦
            let k : length part ≡ most = omega (arith, count) in
            ap (take most) are ∙ take-take most (length octets) (drop at log) (omega arith) ∙ sym (ap (take most) left ∙ take-take most most (drop at log) (omega arith)) ∙ ap (λ (m : ℕ). take m (drop at cut)) (sym k)
        | inr all ↦
            let k : length part ≡ length octets = omega (arith, count) in
            take_all most octets all ∙ are ∙ sym (take-take (length octets) most (drop at log) all) ∙ ap (take (length octets)) (sym left) ∙ ap (λ (m : ℕ). take m (drop at cut)) (sym k)
      ] in
      sym (take-append-drop (length part) (drop at cut))
      ∙ ap (λ (t : List ℕ). t ++ drop (length part) (drop at cut)) (sym same)
      ∙ ap (λ (t : List ℕ). part ++ t) (drop-drop (length part) at cut)

  module _ (within : at ≤ LOG_LIMIT) (part old new : List ℕ) (is : part ≡ take (LOG_LIMIT - at) octets) where
    split : left_at at old log ≡ scan at (nat_lt LOG_LIMIT (length log)) old (part ++ drop (at + length part) (take LOG_LIMIT log))
    split =
        ap (scan at (nat_lt LOG_LIMIT (length log)) old)
        (subst (λ (p : List ℕ). drop at (take LOG_LIMIT log) ≡ p ++ drop (at + length p) (take LOG_LIMIT log)) (sym is) (left-split within))

    -- the next part of a line, by what it is to the line
    pub left_at-too_long : TakesPart part old new TooLongPart → left_at at old log ≡ next_line_too_long
    left_at-too_long takes = split ∙ takes at (nat_lt LOG_LIMIT (length log)) (drop (at + length part) (take LOG_LIMIT log))

    pub left_at-last_part : (count : ℕ) → TakesPart part old new (LastPart count) → left_at at old log ≡ next_line new (at + count)
    left_at-last_part count takes = split ∙ takes.2 at (nat_lt LOG_LIMIT (length log)) (drop (at + length part) (take LOG_LIMIT log))

    pub left_at-whole_part : (count : ℕ) → TakesPart part old new (WholePart count) → left_at at old log ≡ left_at (at + count) new log
    left_at-whole_part count takes =
        split ∙ takes.2 at (nat_lt LOG_LIMIT (length log)) (drop (at + length part) (take LOG_LIMIT log))
        ∙ ap (λ (n : ℕ). scan (at + count) (nat_lt LOG_LIMIT (length log)) new (drop (at + n) (take LOG_LIMIT log))) (sym takes.0)

module _ (at : ℕ) (octets part : List ℕ) (is : part ≡ take (LOG_LIMIT - at) octets) where
  -- the part is not empty if octets are left before the limit, and is among these octets
  pub part-some : 0 < length octets → at < LOG_LIMIT → 0 < length part
  part-some some less = omega (arith, ap length is, length-take (LOG_LIMIT - at) octets)

  pub part-fits : (count : ℕ) → count ≤ length part → count ≤ length octets
  part-fits count fits = omega (arith, ap length is, length-take (LOG_LIMIT - at) octets)

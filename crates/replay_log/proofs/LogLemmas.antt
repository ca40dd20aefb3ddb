-- A log by its next line.
use Rattle.std.proofs.Common.{◌≡◌, refl, sym, ap, ◌∙◌, inl, inr, ℕ, suc, ◌+◌, ◌-◌, ◌<◌, ◌≤◌, Bool, true, false, ◌==◌}
use Rattle.std.proofs.Common.{nat_lt, List, [], ◌∷◌, length, take, drop, Option, Some, None, arith}
use Rattle.std.specs.List.{position_or_len}
use Rattle.std.proofs.lemmas.Bool.{cases_Bool, cases_lt, eqb-true, lt-ltb, le-ltb}
use Rattle.std.proofs.lemmas.List.{length-take-le, length-drop, drop-drop, drop_all, take-take}
use Rattle.xb_words.specs.Cut.{Pieces, IsSize}
use Rattle.xb_words.proofs.CutLemmas.{cut-none, cut-some}
use Rattle.replay_log.specs.Lines.{Line, line_of}
use Rattle.replay_log.specs.declared.limits.TheConstants.{LINE_LIMIT, LOG_LIMIT}
use Rattle.replay_log.specs.Logs.{Log, ended, line_then, after_line, whole_log, line_clock, short_line, last_line}
use Rattle.replay_log.specs.Logs.{log_from, line_size, lines, log_at}
use Rattle.replay_log.specs.Readings.{last_in, by_size, next_at, log_by}

line_size-bounds : (s : List ℕ) (n : ℕ) → line_size s ≡ Some n → (0 < n) × (n ≤ length s)
line_size-bounds s n e =
    elim (cases_lt (position_or_len (λ c. c == 10) s) (length s)) [
      | inl ends ↦
          let is : Some (position_or_len (λ c. c == 10) s + 1) ≡ Some n = rw (lt-ltb (position_or_len (λ c. c == 10) s) (length s) ends, line_size) at e in
          let n_is : position_or_len (λ c. c == 10) s + 1 ≡ n = cc is in
          (omega (arith, n_is), omega (arith, n_is, ends))
      | inr none ↦ let wrong : None ≡ Some n = rw (le-ltb (position_or_len (λ c. c == 10) s) (length s) none, line_size) at e in cc wrong
    ]

-- a line with its end has an octet, and no more than there are
pub IsSize-line_size : IsSize line_size
IsSize-line_size = line_size-bounds

-- after a line that ends the log, nothing comes
log_at-past : (peers n now at : ℕ) (log : List ℕ) → nat_lt LOG_LIMIT (length log) ≡ false → length (drop at (take LOG_LIMIT log)) ≤ 0 → log_at peers log at n now ≡ ended whole_log
unfolding log_at line_of
log_at-past peers n now at log short none =
    let nothing : drop at (take LOG_LIMIT log) ≡ [] = drop_all at (take LOG_LIMIT log) (omega (arith, length-drop at (take LOG_LIMIT log))) in
    rw (nothing, cut-none line_size IsSize-line_size [] refl, short) refl

-- (for the lemmas below) a log of pieces
abbrev pub by_pieces : ℕ → Bool → ℕ → ℕ → Pieces → Log
by_pieces peers longer n now p = log_from peers longer n now p.items p.rest

-- a log if no line ends before the limit
log_at-last : (peers n now at : ℕ) (log : List ℕ) → line_size (drop at (take LOG_LIMIT log)) ≡ None
    → log_at peers log at n now ≡ last_line peers (nat_lt LOG_LIMIT (length log)) n now (drop at (take LOG_LIMIT log))
unfolding log_at
log_at-last peers n now at log none =
    ap (by_pieces peers (nat_lt LOG_LIMIT (length log)) n now) (cut-none line_size IsSize-line_size (drop at (take LOG_LIMIT log)) none)

-- a log if its first line has an end
log_at-line : (peers n now at k : ℕ) (log : List ℕ) → line_size (drop at (take LOG_LIMIT log)) ≡ Some k
    → log_at peers log at n now
    ≡ after_line n (λ said. log_at peers log (at + k) (n + 1) (line_clock now said)) (short_line peers now (take (k - 1) (drop at (take LOG_LIMIT log))))
unfolding log_at
log_at-line peers n now at k log some =
    let longer = nat_lt LOG_LIMIT (length log) in
    let s = drop at (take LOG_LIMIT log) in
    let fits = line_size-bounds s k some in
    let size : length (take k s) ≡ k = length-take-le k s fits.1 in
    let text : take (length (take k s) - 1) (take k s) ≡ take (k - 1) s =
    ap (λ (m : ℕ). take (m - 1) (take k s)) size ∙ take-take (k - 1) k s (omega arith) in
    ap (by_pieces peers longer n now) (cut-some line_size IsSize-line_size s k some)
    ∙ ap (λ (t : List ℕ). after_line n (λ said. by_pieces peers longer (n + 1) (line_clock now said) (lines (drop k s))) (short_line peers now t)) text
    ∙ ap (λ (d : List ℕ). after_line n (λ said. by_pieces peers longer (n + 1) (line_clock now said) (lines d)) (short_line peers now (take (k - 1) s)))
    (drop-drop k at (take LOG_LIMIT log))

after_line-same : (n : ℕ) (f g : Line → Log) (said : Option Line) → ((l : Line) → f l ≡ g l) → after_line n f said ≡ after_line n g said
after_line-same n f g None same = refl
after_line-same n f g (Some l) same = ap (line_then l) (same l)

nil-length : (s : List ℕ) → (length s == 0) ≡ true → s ≡ []
nil-length [] e = refl
nil-length (c ∷ s) e = let wrong : suc (length s) ≡ 0 = eqb-true (suc (length s)) 0 e in absurd (omega arith)

length-nothing_left : (at : ℕ) (t : List ℕ) → length (drop (at + length (drop at t)) t) ≤ 0
length-nothing_left at t = omega (arith, length-drop at t, length-drop (at + length (drop at t)) t)

-- the same by what comes there
last_line-log_by : (peers n now at : ℕ) (log : List ℕ)
    → last_line peers (nat_lt LOG_LIMIT (length log)) n now (drop at (take LOG_LIMIT log))
    ≡ log_by peers log n now (last_in at (nat_lt LOG_LIMIT (length log)) (drop at (take LOG_LIMIT log)))
unfolding line_of
last_line-log_by peers n now at log =
    let longer = nat_lt LOG_LIMIT (length log) in
    let s = drop at (take LOG_LIMIT log) in
    elim (cases_Bool (nat_lt LINE_LIMIT (length s))) [
      | inl long ↦ rw long refl
      | inr fits ↦
          elim (cases_Bool longer) [
            | inl more ↦ rw (fits, more) refl
            | inr short ↦
                elim (cases_Bool (length s == 0)) [
                  | inl empty ↦ rw (fits, short, empty) (rw (nil-length s empty) refl)
                  | inr some ↦
                      rw (fits, short, some)
                      (after_line-same n (λ said. ended whole_log) (λ said. log_at peers log (at + length s) (n + 1) (line_clock now said)) (line_of peers now s)
                      (λ said. sym (log_at-past peers (n + 1) (line_clock now said) (at + length s) log short (length-nothing_left at (take LOG_LIMIT log)))))
                ]
          ]
    ]

-- and if its first line has an end
after_line-log_by : (peers n now at k : ℕ) (log : List ℕ) → line_size (drop at (take LOG_LIMIT log)) ≡ Some k
    → after_line n (λ said. log_at peers log (at + k) (n + 1) (line_clock now said)) (short_line peers now (take (k - 1) (drop at (take LOG_LIMIT log))))
    ≡ log_by peers log n now (by_size at (nat_lt LOG_LIMIT (length log)) (drop at (take LOG_LIMIT log)) (Some k))
after_line-log_by peers n now at k log some =
    let s = drop at (take LOG_LIMIT log) in
    let fits = line_size-bounds s k some in
    let size : length (take (k - 1) s) ≡ k - 1 = length-take-le (k - 1) s (omega (arith, fits)) in
    elim (cases_Bool (nat_lt LINE_LIMIT (k - 1))) [ inl long ↦ rw (size, long) refl | inr short ↦ rw (size, short) refl ]

-- what a log says from an offset on is by what comes there
pub log_at-log_by : (peers n now at : ℕ) (log : List ℕ) → log_at peers log at n now ≡ log_by peers log n now (next_at log at)
unfolding next_at
log_at-log_by peers n now at log =
    let s = drop at (take LOG_LIMIT log) in
    elim (line_size s) as (λ o. line_size s ≡ o → log_at peers log at n now ≡ log_by peers log n now (by_size at (nat_lt LOG_LIMIT (length log)) s o)) [
      | None ↦ λ e. log_at-last peers n now at log e ∙ last_line-log_by peers n now at log
      | Some k ↦ λ e. log_at-line peers n now at k log e ∙ after_line-log_by peers n now at k log e
    ] refl

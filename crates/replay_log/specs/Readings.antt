-- What a reader of a log has read, and what its next line is (this project's own).
use Rattle.std.specs.Prelude.{◌≡◌, ℕ, ◌+◌, ◌-◌, ◌<◌, ◌≤◌, Bool, List, [], ◌∷◌, ◌++◌, length, take, drop, Option, Some}
use Rattle.std.specs.Prelude.{None, MatchOption, nat_lt, ◌==◌, if◌then◌else◌}
use Rattle.xb_io.specs.Causes.{Files, file_named}
use Rattle.replay_log.specs.declared.limits.TheConstants.{LOG_LIMIT, LINE_LIMIT}
use Rattle.replay_log.specs.Lines.{line_of}
use Rattle.replay_log.specs.Logs.{Log, ended, after_line, line_clock, whole_log, bad_line, long_log, line_size, log_at}
use Rattle.replay_log.specs.declared.part.Part.{Part}
use Rattle.replay_log.specs.declared.part.Part.TheVariants.{TooLongPart, LastPart, WholePart}
use Rattle.replay_log.specs.declared.reader.Got.{Got}
use Rattle.replay_log.specs.declared.reader.Got.TheVariants.{Line, End, LineTooLong, TooLong, Failed}

-- the last line without its end, the offset of the octets after it, and those of them that were read ahead
pub record Reading : Type 0 where
  pub line : List ℕ
  pub at : ℕ
  pub ahead : List ℕ

-- what comes at an offset of a log: a line without its end and the offset after it, the end, or what is too long
pub data Next : Type 0 where
  next_line : List ℕ → ℕ → Next
  next_end : Next
  next_line_too_long : Next
  next_log_too_long : Next

-- what comes if no line ends before the limit
abbrev pub last_in : ℕ → Bool → List ℕ → Next
last_in at longer rest =
    if nat_lt LINE_LIMIT (length rest) then next_line_too_long
    else if longer then next_log_too_long
    else if length rest == 0 then next_end
    else next_line rest (at + length rest)

-- what comes in octets that begin at the offset `at`, by the length of their first line with its end; `longer`: the
-- log has more octets
abbrev pub by_size : ℕ → Bool → List ℕ → Option ℕ → Next
by_size at longer s None = last_in at longer s
by_size at longer s (Some n) =
    if nat_lt LINE_LIMIT (n - 1) then next_line_too_long
    else next_line (take (n - 1) s) (at + n)

abbrev pub next_in : ℕ → Bool → List ℕ → Next
next_in at longer s = by_size at longer s (line_size s)

-- what comes at an offset of a log
unfoldable pub next_at : List ℕ → ℕ → Next
next_at log at = next_in at (nat_lt LOG_LIMIT (length log)) (drop at (take LOG_LIMIT log))

-- what a log says from line n on, by what comes there
abbrev pub log_by : ℕ → List ℕ → ℕ → ℕ → Next → Log
log_by peers log n now (next_line text after) =
    after_line n (λ said. log_at peers log after (n + 1) (line_clock now said)) (line_of peers now text)
log_by peers log n now next_end = ended whole_log
log_by peers log n now next_line_too_long = ended (bad_line n)
log_by peers log n now next_log_too_long = ended long_log

-- if the shelf tells, octets are those of the named file at an offset; of a name that it does not hold there are none
abbrev pub AreAhead : Option Files → List ℕ → ℕ → List ℕ → Type 0
AreAhead None name at ahead = Unit {0}
AreAhead (Some files) name at ahead =
    MatchOption (file_named files name) (ahead ≡ []) (λ log. ahead ≡ take (length ahead) (drop at log))

-- the octets that were read ahead are those at the reader's offset
abbrev pub IsReadAhead : Option Files → List ℕ → Reading → Type 0
IsReadAhead held name r = AreAhead held name r.at r.ahead

-- (for the loop of `next_line`) what comes, if the octets `front` of the line were read, the offset after them is `at`,
-- and those in `rest` are left before the limit
abbrev pub scan : ℕ → Bool → List ℕ → List ℕ → Next
scan at longer front [] =
    if longer then next_log_too_long else if length front == 0 then next_end else next_line front at
scan at longer front (c ∷ rest) =
    if c == 10 then next_line front (at + 1)
    else if length front == LINE_LIMIT then next_line_too_long
    else scan (at + 1) longer (front ++ c ∷ []) rest

-- (for the loop of `next_line`) what some octets are to a line that had the octets `old` and now has `new`, whatever
-- follows them
abbrev pub TakesPart : List ℕ → List ℕ → List ℕ → Part → Type 0
TakesPart octets old new TooLongPart =
    (at : ℕ) (longer : Bool) (rest : List ℕ) → scan at longer old (octets ++ rest) ≡ next_line_too_long
TakesPart octets old new (LastPart count) =
    (0 < count) × (count ≤ length octets)
    × ((at : ℕ) (longer : Bool) (rest : List ℕ) → scan at longer old (octets ++ rest) ≡ next_line new (at + count))
TakesPart octets old new (WholePart count) =
    (count ≡ length octets) × (length new ≡ length old + count)
    × ((at : ℕ) (longer : Bool) (rest : List ℕ)
    → scan at longer old (octets ++ rest) ≡ scan (at + count) longer new rest)

-- what a call gave, with the reader after it, as what comes; `Failed` says nothing
abbrev pub got_view : Got → Reading → Option Next
got_view Line r = Some (next_line r.line r.at)
got_view End r = Some next_end
got_view LineTooLong r = Some next_line_too_long
got_view TooLong r = Some next_log_too_long
got_view Failed r = None

-- The event log: lines that end with the octet 0A (this project's own).
use Rattle.std.specs.Prelude.{ℕ, ◌+◌, ◌-◌, Bool, List, [], ◌∷◌, length, take, drop, position, Option, Some, None}
use Rattle.std.specs.Prelude.{nat_lt, ◌==◌, if◌then◌else◌}
use Rattle.xb_words.specs.Cut.{Pieces, cut}
use Rattle.xb_domain.specs.Events.{Event, time}
use Rattle.replay_log.specs.declared.limits.TheConstants.{LOG_LIMIT, LINE_LIMIT}
use Rattle.replay_log.specs.Lines.{Line, blank_line, says, line_of}

-- how a log ends: after its last line, at a line outside the grammar or over its limit, by its number from 1, or at
-- the log's limit
pub data Ending : Type 0 where
  whole_log : Ending
  bad_line : ℕ → Ending
  long_log : Ending

-- the events of a log, in order, and how it ends
pub record Log : Type 0 where
  pub events : List Event
  pub ending : Ending

-- a log without events
abbrev pub ended : Ending → Log
ended ending = record { events = []; ending = ending }

-- a line, and then a log
abbrev pub line_then : Line → Log → Log
line_then blank_line log = log
line_then (says e) log = record { events = e ∷ log.events; ending = log.ending }

-- the clock after an event, and after a line, in seconds
abbrev pub clock_after : ℕ → Event → ℕ
clock_after now (time t) = t
clock_after now other = now

abbrev pub line_clock : ℕ → Line → ℕ
line_clock now blank_line = now
line_clock now (says e) = clock_after now e

-- a line of at most LINE_LIMIT octets that is in the grammar
abbrev pub short_line : ℕ → ℕ → List ℕ → Option Line
short_line peers now line = if nat_lt LINE_LIMIT (length line) then None else line_of peers now line

-- what line n says and the log after it, or the end if the line is refused
abbrev pub after_line : ℕ → (Line → Log) → Option Line → Log
after_line n others None = ended (bad_line n)
after_line n others (Some line) = line_then line (others line)

-- the octets after the last line end: nothing, a last line, or a line that the log's limit cuts
abbrev pub last_line : ℕ → Bool → ℕ → ℕ → List ℕ → Log
last_line peers longer n now rest =
    if nat_lt LINE_LIMIT (length rest) then ended (bad_line n)
    else if longer then ended long_log
    else after_line n (λ line. ended whole_log) (line_of peers now rest)

-- line n and those after it, with their ends, and then the octets after the last line end
abbrev pub log_from : ℕ → Bool → ℕ → ℕ → List (List ℕ) → List ℕ → Log
log_from peers longer n now [] rest = last_line peers longer n now rest
log_from peers longer n now (line ∷ lines) rest =
    after_line n (λ said. log_from peers longer (n + 1) (line_clock now said) lines rest)
    (short_line peers now (take (length line - 1) line))

-- the length of the first line with its end, if it has one
abbrev pub line_size : List ℕ → Option ℕ
line_size s = elim (position (λ c. c == 10) s) [ None ↦ None | Some i ↦ Some (i + 1) ]

-- the lines with their ends, and the octets after the last of them
abbrev pub lines : List ℕ → Pieces
lines s = cut line_size s

-- the log from line n on, which begins at the offset `at`, for peers numbered 1 to `peers`, if the clock is `now`
unfoldable pub log_at : ℕ → List ℕ → ℕ → ℕ → ℕ → Log
log_at peers s at n now =
    let l = lines (drop at (take LOG_LIMIT s)) in
    log_from peers (nat_lt LOG_LIMIT (length s)) n now l.items l.rest

-- the events up to the first line that is refused, or up to the limit, and how the log ends
abbrev pub log : ℕ → List ℕ → Log
log peers s = log_at peers s 0 1 0

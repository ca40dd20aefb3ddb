-- What one line of an event log says: words with one space between them (this project's own).
use Rattle.std.specs.Prelude.{ℕ, ◌+◌, ◌-◌, ◌*◌, ◌^◌, ◌≤◌, List, [], ◌∷◌, Option, Some, None, nat_le, codes, ◌==◌}
use Rattle.std.specs.Prelude.{if◌then◌else◌}
use Rattle.std.specs.Str.{bytes_eq}
use Rattle.xb_words.specs.Optional.{◌>>=◌}
use Rattle.xb_domain.specs.Events.{Event, start, stop, up, down, octets, time, room, drain, rescan}
use Rattle.xb_values.specs.Readers.{split_on, number_up_to, hex_value, read_hex}

-- what a line says: nothing, or an event
pub data Line : Type 0 where
  blank_line : Line
  says : Event → Line

-- an event names a peer from 1 to `peers`, and a time is not below the clock `now`
abbrev pub IsFor : ℕ → ℕ → Event → Type 0
IsFor peers now (start p) = (1 ≤ p) × (p ≤ peers)
IsFor peers now (stop p) = (1 ≤ p) × (p ≤ peers)
IsFor peers now (up p) = (1 ≤ p) × (p ≤ peers)
IsFor peers now (down p) = (1 ≤ p) × (p ≤ peers)
IsFor peers now (octets p bytes) = (1 ≤ p) × (p ≤ peers)
IsFor peers now (time t) = now ≤ t
IsFor peers now (room p k) = (1 ≤ p) × (p ≤ peers)
IsFor peers now (drain p) = (1 ≤ p) × (p ≤ peers)
IsFor peers now rescan = Unit {0}

-- a number that is not below a least one
abbrev pub at_least : ℕ → Option ℕ → Option ℕ
at_least least None = None
at_least least (Some n) = if nat_le least n then Some n else None

-- the number of a configured peer
abbrev pub peer_word : ℕ → List ℕ → Option ℕ
peer_word peers word = at_least 1 (number_up_to peers word)

-- a count of octets, from 1
abbrev pub count_word : List ℕ → Option ℕ
count_word word = at_least 1 (number_up_to (2 ^ 32 - 1) word)

-- a time in seconds that is not below the clock `now`
abbrev pub time_word : ℕ → List ℕ → Option ℕ
time_word now word = at_least now (number_up_to (2 ^ 32 - 1) word)

-- an octet of two hexadecimal digits
abbrev pub octet_value : ℕ → ℕ → Option ℕ
octet_value high low = do
  h ← hex_value high
  l ← hex_value low
  Some (16 * h + l)

-- octets in hexadecimal, at least one
abbrev pub some_octets : List ℕ → Option (List ℕ)
some_octets [] = None
some_octets (c ∷ text) = read_hex (c ∷ text)

-- the event of a word that a peer's number follows, and nothing else
abbrev pub peer_event : List ℕ → Option (ℕ → Event)
peer_event word =
    if bytes_eq word (codes "start") then Some start
    else if bytes_eq word (codes "stop") then Some stop
    else if bytes_eq word (codes "up") then Some up
    else if bytes_eq word (codes "down") then Some down
    else if bytes_eq word (codes "drain") then Some drain
    else None

-- a word and a time, or a word and a peer
abbrev pub one_argument : ℕ → ℕ → List ℕ → List ℕ → Option Event
one_argument peers now word a =
    if bytes_eq word (codes "time") then
    (do
      t ← time_word now a
      Some (time t))
    else
    (do
      e ← peer_event word
      p ← peer_word peers a
      Some (e p))

-- a word, a peer, and octets or a count
abbrev pub two_arguments : ℕ → List ℕ → List ℕ → List ℕ → Option Event
two_arguments peers word a b =
    if bytes_eq word (codes "in") then
    (do
      p ← peer_word peers a
      bytes ← some_octets b
      Some (octets p bytes))
    else if bytes_eq word (codes "room") then
    (do
      p ← peer_word peers a
      k ← count_word b
      Some (room p k))
    else None

-- the event of a line's words
unfoldable pub event_of_words : ℕ → ℕ → List (List ℕ) → Option Event
event_of_words peers now [] = None
event_of_words peers now (word ∷ []) = if bytes_eq word (codes "rescan") then Some rescan else None
event_of_words peers now (word ∷ a ∷ []) = one_argument peers now word a
event_of_words peers now (word ∷ a ∷ b ∷ []) = two_arguments peers word a b
event_of_words peers now (word ∷ a ∷ b ∷ c ∷ others) = None

-- a line without its end, for peers numbered 1 to `peers`, if the clock is `now`; an empty line and one that begins
-- with `#` mean nothing
unfoldable pub line_of : ℕ → ℕ → List ℕ → Option Line
line_of peers now [] = Some blank_line
line_of peers now (c ∷ text) =
    if c == 35 then Some blank_line
    else
    (do
      e ← event_of_words peers now (split_on 32 (c ∷ text))
      Some (says e))

-- The event of a line's words, by the first of them.
use Rattle.std.proofs.Common.{◌≡◌, refl, sym, ap, ◌∙◌, inl, inr, ℕ, ◌+◌, ◌-◌, ◌*◌, ◌^◌, ◌<◌, Bool, true, false, ◌==◌}
use Rattle.std.proofs.Common.{◌&&◌, if◌then◌else◌, List, [], ◌∷◌, length, Option, Some, None, option_map, is_some}
use Rattle.std.proofs.Common.{arith, codes, get_or, suc}
use Rattle.std.specs.List.{list_all}
use Rattle.std.specs.Str.{bytes_eq}
use Rattle.std.proofs.lemmas.Bool.{ne_eqb, eq-eqb, eqb-true}
use Rattle.std.proofs.lemmas.Slice.Eq.{bytes_eq-Decides}
use Rattle.xb_words.specs.Optional.{◌>>=◌}
use Rattle.xb_domain.specs.Events.{Event, octets, time, room, rescan}
use Rattle.xb_values.specs.Readers.{split_on, is_digit, number_up_to, hex_value, read_hex}
use Rattle.xb_values.proofs.ReaderLemmas.{split_on-cases, number_up_to-none}
use Rattle.replay_log.specs.Lines.{blank_line, says, at_least, peer_word, count_word, time_word, some_octets}
use Rattle.replay_log.specs.Lines.{peer_event, event_of_words, line_of}

equal-bytes_eq : (word text : List ℕ) → bytes_eq word text ≡ true → word ≡ text
equal-bytes_eq word text e = (bytes_eq-Decides word text).0 e

-- a text that has another character than digits, as a space, is not a number
at_least-none : (least most : ℕ) (text : List ℕ) → list_all is_digit text ≡ false → at_least least (number_up_to most text) ≡ None
at_least-none least most text other = rw (number_up_to-none most text other) refl

-- the event of a peer and a count, of a peer and octets, of a peer, and of a time, if they are there
abbrev pub room_event : Option ℕ → Option ℕ → Option Event
room_event peer count = do
  p ← peer
  k ← count
  Some (room p k)

abbrev pub octets_event : Option ℕ → Option (List ℕ) → Option Event
octets_event peer bytes = do
  p ← peer
  text ← bytes
  Some (octets p text)

abbrev pub peer_event_of : Option (ℕ → Event) → Option ℕ → Option Event
peer_event_of event peer = do
  e ← event
  p ← peer
  Some (e p)

abbrev pub time_event : Option ℕ → Option Event
time_event clock = do
  t ← clock
  Some (time t)

room_event-none : (peer count : Option ℕ) → count ≡ None → room_event peer count ≡ None
room_event-none None count e = refl
room_event-none (Some p) count e = rw e refl

octets_event-none : (peer : Option ℕ) (bytes : Option (List ℕ)) → bytes ≡ None → octets_event peer bytes ≡ None
octets_event-none None bytes e = refl
octets_event-none (Some p) bytes e = rw e refl

peer_event_of-none : (event : Option (ℕ → Event)) (peer : Option ℕ) → peer ≡ None → peer_event_of event peer ≡ None
peer_event_of-none None peer e = refl
peer_event_of-none (Some f) peer e = rw e refl

-- `room` and one word, which is refused
pub event_of_words-lone_room : (peers now : ℕ) (word arguments : List ℕ) → bytes_eq word (codes "room") ≡ true → split_on 32 arguments ≡ arguments ∷ []
    → event_of_words peers now (word ∷ split_on 32 arguments) ≡ None
unfolding event_of_words
event_of_words-lone_room peers now word arguments w e = rw (equal-bytes_eq word (codes "room") w, e) refl

-- `room`, a peer, and the words after it
pub event_of_words-room : (peers now : ℕ) (word arguments peer count : List ℕ) → bytes_eq word (codes "room") ≡ true → split_on 32 arguments ≡ peer ∷ split_on 32 count
    → event_of_words peers now (word ∷ split_on 32 arguments) ≡ room_event (peer_word peers peer) (count_word count)
unfolding event_of_words
event_of_words-room peers now word arguments peer count w e =
    elim (split_on-cases is_digit 32 count refl) [
      | inl one ↦ rw (equal-bytes_eq word (codes "room") w, e, one) refl
      | inr (p, q, ps, more, other) ↦
          rw (equal-bytes_eq word (codes "room") w, e, more) (sym (room_event-none (peer_word peers peer) (count_word count) (at_least-none 1 (2 ^ 32 - 1) count other)))
    ]

-- `in` and one word, which is refused
pub event_of_words-lone_in : (peers now : ℕ) (arguments : List ℕ) → split_on 32 arguments ≡ arguments ∷ [] → event_of_words peers now (codes "in" ∷ split_on 32 arguments) ≡ None
unfolding event_of_words
event_of_words-lone_in peers now arguments e = rw e refl

-- `time` and the words after it
pub event_of_words-time : (peers now : ℕ) (word arguments : List ℕ) → bytes_eq word (codes "time") ≡ true
    → event_of_words peers now (word ∷ split_on 32 arguments) ≡ time_event (time_word now arguments)
unfolding event_of_words
event_of_words-time peers now word arguments w =
    elim (split_on-cases is_digit 32 arguments refl) [
      | inl one ↦ rw (equal-bytes_eq word (codes "time") w, one) refl
      | inr (p, q, [], more, other) ↦ rw (equal-bytes_eq word (codes "time") w, more, at_least-none now (2 ^ 32 - 1) arguments other) refl
      | inr (p, q, r ∷ ps, more, other) ↦ rw (more, at_least-none now (2 ^ 32 - 1) arguments other) refl
    ]

-- another word and the words after it
pub event_of_words-peer : (peers now : ℕ) (word arguments : List ℕ) → bytes_eq word (codes "in") ≡ false → bytes_eq word (codes "room") ≡ false → bytes_eq word (codes "time") ≡ false
    → event_of_words peers now (word ∷ split_on 32 arguments) ≡ peer_event_of (peer_event word) (peer_word peers arguments)
unfolding event_of_words
event_of_words-peer peers now word arguments not_in not_room not_time =
    elim (split_on-cases is_digit 32 arguments refl) [
      | inl one ↦ rw (one, not_time) refl
      | inr (p, q, [], more, other) ↦ rw (more, not_in, not_room) (sym (peer_event_of-none (peer_event word) (peer_word peers arguments) (at_least-none 1 peers arguments other)))
      | inr (p, q, r ∷ ps, more, other) ↦ rw more (sym (peer_event_of-none (peer_event word) (peer_word peers arguments) (at_least-none 1 peers arguments other)))
    ]

none-pair : (high low : Option ℕ) (others : Option (List ℕ)) (all : Bool) → (is_some high && (is_some low && all)) ≡ false → (all ≡ false → others ≡ None)
    → (high >>= λ h. low >>= λ l. others >>= λ octets. Some ((16 * h + l) ∷ octets)) ≡ None
none-pair None low others all e none = refl
none-pair (Some h) None others all e none = refl
none-pair (Some h) (Some l) others all e none = rw (none e) refl

-- a text that has another character than digits, as a space, is not hexadecimal
read_hex-none : (text : List ℕ) → list_all (λ c. is_some (hex_value c)) text ≡ false → read_hex text ≡ None
read_hex-none [] other = let wrong : true ≡ false = other in cc wrong
read_hex-none (high ∷ []) other = refl
read_hex-none (high ∷ low ∷ text) other =
    none-pair (hex_value high) (hex_value low) (read_hex text) (list_all (λ c. is_some (hex_value c)) text) other (read_hex-none text)

some_octets-none : (text : List ℕ) → read_hex text ≡ None → some_octets text ≡ None
some_octets-none [] none = refl
some_octets-none (c ∷ text) none = none

-- `in`, a peer, and the words after it
pub event_of_words-in : (peers now : ℕ) (arguments peer digits : List ℕ) → split_on 32 arguments ≡ peer ∷ split_on 32 digits
    → event_of_words peers now (codes "in" ∷ split_on 32 arguments) ≡ octets_event (peer_word peers peer) (some_octets digits)
unfolding event_of_words
event_of_words-in peers now arguments peer digits e =
    elim (split_on-cases (λ c. is_some (hex_value c)) 32 digits refl) [
      | inl one ↦ rw (e, one) refl
      | inr (p, q, ps, more, other) ↦ rw (e, more) (sym (octets_event-none (peer_word peers peer) (some_octets digits) (some_octets-none digits (read_hex-none digits other))))
    ]

-- the same by what the code read of the words: `room`, `time`, and the word of a peer's event
pub room_event-words : (peers now : ℕ) (word arguments peer count : List ℕ) (p k : Option ℕ) → bytes_eq word (codes "room") ≡ true → split_on 32 arguments ≡ peer ∷ split_on 32 count
    → p ≡ peer_word peers peer → k ≡ count_word count → room_event p k ≡ event_of_words peers now (word ∷ split_on 32 arguments)
room_event-words peers now word arguments peer count p k w e is_p is_k = rw (is_p, is_k) (sym (event_of_words-room peers now word arguments peer count w e))

pub time_event-words : (peers now : ℕ) (word arguments : List ℕ) (t : Option ℕ) → bytes_eq word (codes "time") ≡ true → t ≡ time_word now arguments
    → time_event t ≡ event_of_words peers now (word ∷ split_on 32 arguments)
time_event-words peers now word arguments t w is_t = rw is_t (sym (event_of_words-time peers now word arguments w))

pub peer_event_of-words : (peers now : ℕ) (word arguments : List ℕ) (p : Option ℕ) → bytes_eq word (codes "in") ≡ false → bytes_eq word (codes "room") ≡ false
    → bytes_eq word (codes "time") ≡ false → p ≡ peer_word peers arguments → peer_event_of (peer_event word) p ≡ event_of_words peers now (word ∷ split_on 32 arguments)
peer_event_of-words peers now word arguments p not_in not_room not_time is_p = rw is_p (sym (event_of_words-peer peers now word arguments not_in not_room not_time))

-- the event of a word, with the number of a peer
pub option_map-peer_event : (event : Option (ℕ → Event)) (p : ℕ) → option_map (λ e. e p) event ≡ peer_event_of event (Some p)
option_map-peer_event None p = refl
option_map-peer_event (Some e) p = refl

-- the event of a word whose peer is refused, of `room` with such a peer, and of `in` with such a peer
pub none-peer_words : (peers now : ℕ) (word arguments : List ℕ) → bytes_eq word (codes "in") ≡ false → bytes_eq word (codes "room") ≡ false → bytes_eq word (codes "time") ≡ false
    → None ≡ peer_word peers arguments → let none : Option Event = None in none ≡ event_of_words peers now (word ∷ split_on 32 arguments)
none-peer_words peers now word arguments not_in not_room not_time is_p =
    sym (peer_event_of-none (peer_event word) (peer_word peers arguments) (sym is_p)) ∙ sym (event_of_words-peer peers now word arguments not_in not_room not_time)

pub none-room_words : (peers now : ℕ) (word arguments peer count : List ℕ) → bytes_eq word (codes "room") ≡ true → split_on 32 arguments ≡ peer ∷ split_on 32 count
    → None ≡ peer_word peers peer → let none : Option Event = None in none ≡ event_of_words peers now (word ∷ split_on 32 arguments)
none-room_words peers now word arguments peer count w e is_p = room_event-words peers now word arguments peer count None (count_word count) w e is_p refl

pub none-in_words : (peers now : ℕ) (arguments peer digits : List ℕ) → split_on 32 arguments ≡ peer ∷ split_on 32 digits
    → None ≡ peer_word peers peer → let none : Option Event = None in none ≡ event_of_words peers now (codes "in" ∷ split_on 32 arguments)
none-in_words peers now arguments peer digits e is_p = rw (event_of_words-in peers now arguments peer digits e) (rw (sym is_p) refl)

some_octets-read_hex : (text : List ℕ) → false ≡ (length text == 0) → some_octets text ≡ read_hex text
some_octets-read_hex [] e = let wrong : false ≡ true = e in cc wrong
some_octets-read_hex (c ∷ text) e = refl

none-is_some : (o : Option (List ℕ)) → false ≡ is_some o → o ≡ None
none-is_some None e = refl
none-is_some (Some bytes) e = let wrong : false ≡ true = e in cc wrong

-- `in` with a peer and octets, with no digit, and with digits that are refused
pub octets-in_words : (peers now : ℕ) (arguments peer digits : List ℕ) (p : ℕ) (bytes : List ℕ) → split_on 32 arguments ≡ peer ∷ split_on 32 digits → Some p ≡ peer_word peers peer
    → false ≡ (length digits == 0) → read_hex digits ≡ Some bytes → Some (octets p bytes) ≡ event_of_words peers now (codes "in" ∷ split_on 32 arguments)
octets-in_words peers now arguments peer digits p bytes e is_p some is_b = rw (event_of_words-in peers now arguments peer digits e, ← is_p, some_octets-read_hex digits some, is_b) refl

pub none-empty_in : (peers now : ℕ) (arguments peer digits : List ℕ) → split_on 32 arguments ≡ peer ∷ split_on 32 digits → true ≡ (length digits == 0)
    → let none : Option Event = None in none ≡ event_of_words peers now (codes "in" ∷ split_on 32 arguments)
none-empty_in peers now arguments peer [] e empty = rw (event_of_words-in peers now arguments peer [] e) (sym (octets_event-none (peer_word peers peer) None refl))
none-empty_in peers now arguments peer (c ∷ digits) e empty = let wrong : suc (length digits) ≡ 0 = eqb-true (suc (length digits)) 0 (sym empty) in absurd (omega arith)

pub none-bad_in : (peers now : ℕ) (arguments peer digits : List ℕ) → split_on 32 arguments ≡ peer ∷ split_on 32 digits → false ≡ is_some (read_hex digits)
    → let none : Option Event = None in none ≡ event_of_words peers now (codes "in" ∷ split_on 32 arguments)
none-bad_in peers now arguments peer digits e bad =
    rw (event_of_words-in peers now arguments peer digits e) (sym (octets_event-none (peer_word peers peer) (some_octets digits) (some_octets-none digits (none-is_some (read_hex digits) bad))))

-- a line that is not empty and does not begin with `#`
bind-says : (event : Option Event) → (event >>= λ e. Some (says e)) ≡ option_map says event
bind-says None = refl
bind-says (Some e) = refl

pub line_of-words : (peers now : ℕ) (line : List ℕ) → 0 < length line → (get_or line 0 0 ≡ 35 → ⊥) → line_of peers now line ≡ option_map says (event_of_words peers now (split_on 32 line))
unfolding line_of
line_of-words peers now [] some other = absurd (omega arith)
line_of-words peers now (c ∷ text) some other = rw (ne_eqb c 35 other) (bind-says (event_of_words peers now (split_on 32 (c ∷ text))))

-- a line that begins with `#`
pub line_of-comment : (peers now : ℕ) (line : List ℕ) → get_or line 0 0 ≡ 35 → line_of peers now line ≡ Some blank_line
unfolding line_of
line_of-comment peers now [] is = refl
line_of-comment peers now (c ∷ text) is = rw (eq-eqb c 35 is) refl

-- the same by what the code read of its words
pub says-line_of : (peers now : ℕ) (line : List ℕ) (words : List (List ℕ)) (event : Option Event) → false ≡ (length line == 0) → (get_or line 0 0 ≡ 35 → ⊥)
    → split_on 32 line ≡ words → event ≡ event_of_words peers now words → option_map says event ≡ line_of peers now line
says-line_of peers now [] words event some other e is = let wrong : false ≡ true = some in cc wrong
says-line_of peers now (c ∷ text) words event some other e is =
    rw (is, ← e) (sym (line_of-words peers now (c ∷ text) (omega arith) other))

-- a line of one word
pub event_of_words-lone : (peers now : ℕ) (line : List ℕ) → event_of_words peers now (line ∷ []) ≡ (if bytes_eq line (codes "rescan") then Some rescan else None)
unfolding event_of_words
event_of_words-lone peers now line = refl

-- an empty line
pub blank_line-line_of : (peers now : ℕ) (line : List ℕ) → true ≡ (length line == 0) → Some blank_line ≡ line_of peers now line
unfolding line_of
blank_line-line_of peers now [] e = refl
blank_line-line_of peers now (c ∷ text) e = let wrong : suc (length text) ≡ 0 = eqb-true (suc (length text)) 0 (sym e) in absurd (omega arith)

-- a line whose first word is `in`
pub says-line_of_in : (peers now : ℕ) (line word arguments : List ℕ) (event : Option Event) → false ≡ (length line == 0) → (get_or line 0 0 ≡ 35 → ⊥)
    → split_on 32 line ≡ word ∷ split_on 32 arguments → bytes_eq word (codes "in") ≡ true → event ≡ event_of_words peers now (codes "in" ∷ split_on 32 arguments)
    → option_map says event ≡ line_of peers now line
says-line_of_in peers now line word arguments event some other split w e =
    says-line_of peers now line (codes "in" ∷ split_on 32 arguments) event some other (split ∙ ap (λ (t : List ℕ). t ∷ split_on 32 arguments) (equal-bytes_eq word (codes "in") w)) e

-- The event of a line fits the peers and the clock that the line was read for.
use Rattle.std.proofs.Common.{◌≡◌, refl, subst, inl, inr, ℕ, ◌≤◌, ◌-◌, ◌^◌, Bool, true, false, ◌==◌, List, [], ◌∷◌}
use Rattle.std.proofs.Common.{Option, Some, None, codes, nat_le, if◌then◌else◌, ◌⊎◌, arith}
use Rattle.std.specs.Str.{bytes_eq}
use Rattle.std.proofs.lemmas.Bool.{cases_Bool, leb-true}
use Rattle.xb_words.specs.Optional.{◌>>=◌}
use Rattle.xb_words.proofs.OptionalLemmas.{bind-some}
use Rattle.xb_domain.specs.Events.{Event, start, stop, up, down, octets, time, room, drain, rescan}
use Rattle.xb_values.specs.Readers.{split_on, number_up_to}
use Rattle.xb_values.proofs.ReaderLemmas.{number_up_to-le}
use Rattle.replay_log.specs.Lines.{blank_line, says, IsFor, at_least, peer_word, count_word, time_word, some_octets}
use Rattle.replay_log.specs.Lines.{peer_event, one_argument, two_arguments, event_of_words, line_of}

at_least-bounds : (least most n : ℕ) (text : List ℕ) (o : Option ℕ) → o ≡ number_up_to most text → at_least least o ≡ Some n → (least ≤ n) × (n ≤ most)
at_least-bounds least most n text None is e = cc e
at_least-bounds least most n text (Some m) is e =
    elim (cases_Bool (nat_le least m)) [
      | inl above ↦
          let some : Some m ≡ Some n = rw above at e in
          let same : m ≡ n = cc some in
          (omega (arith, same, leb-true least m above), omega (arith, same, number_up_to-le most m text is))
      | inr below ↦ let none : None ≡ Some n = rw below at e in cc none
    ]

at_least-number_up_to : (least most n : ℕ) (text : List ℕ) → at_least least (number_up_to most text) ≡ Some n → (least ≤ n) × (n ≤ most)
at_least-number_up_to least most n text e = at_least-bounds least most n text (number_up_to most text) refl e

some-if : {A : Type 0} (test : Bool) (f g : Option A) (b : A) → (if test then f else g) ≡ Some b → (f ≡ Some b) ⊎ (g ≡ Some b)
some-if true f g b e = inl e
some-if false f g b e = inr e

IsFor-peer : (peers now p : ℕ) (f h : ℕ → Event) → IsFor peers now (f p) → Some f ≡ Some h → IsFor peers now (h p)
IsFor-peer peers now p f h fits e = let same : f ≡ h = cc e in subst (λ (g : ℕ → Event). IsFor peers now (g p)) same fits

IsFor-peer_event : (peers now p : ℕ) (word : List ℕ) (h : ℕ → Event) → (1 ≤ p) × (p ≤ peers) → peer_event word ≡ Some h → IsFor peers now (h p)
IsFor-peer_event peers now p word h fits e =
    elim (some-if (bytes_eq word (codes "start")) _ _ h e) [
      | inl is ↦ IsFor-peer peers now p start h fits is
      | inr e ↦
          elim (some-if (bytes_eq word (codes "stop")) _ _ h e) [
            | inl is ↦ IsFor-peer peers now p stop h fits is
            | inr e ↦
                elim (some-if (bytes_eq word (codes "up")) _ _ h e) [
                  | inl is ↦ IsFor-peer peers now p up h fits is
                  | inr e ↦
                      elim (some-if (bytes_eq word (codes "down")) _ _ h e) [
                        | inl is ↦ IsFor-peer peers now p down h fits is
                        | inr e ↦
                            elim (some-if (bytes_eq word (codes "drain")) _ _ h e) [
                              | inl is ↦ IsFor-peer peers now p drain h fits is
                              | inr none ↦ cc none
                            ]
                      ]
                ]
          ]
    ]

IsFor-same : (peers now : ℕ) (e event : Event) → IsFor peers now e → Some e ≡ Some event → IsFor peers now event
IsFor-same peers now e event fits is = let same : e ≡ event = cc is in subst (IsFor peers now) same fits

IsFor-one_argument : (peers now : ℕ) (word a : List ℕ) (event : Event) → one_argument peers now word a ≡ Some event → IsFor peers now event
IsFor-one_argument peers now word a event e =
    elim (some-if (bytes_eq word (codes "time")) (time_word now a >>= λ t. Some (time t)) (peer_event word >>= λ f. peer_word peers a >>= λ p. Some (f p)) event e) [
      | inl is ↦
          let (t, clock, same) = bind-some (time_word now a) (λ t. Some (time t)) event is in
          IsFor-same peers now (time t) event (at_least-number_up_to now (2 ^ 32 - 1) t a clock).0 same
      | inr is ↦
          let (f, of_word, rest) = bind-some (peer_event word) (λ f. peer_word peers a >>= λ p. Some (f p)) event is in
          let (p, peer, same) = bind-some (peer_word peers a) (λ p. Some (f p)) event rest in
          IsFor-same peers now (f p) event (IsFor-peer_event peers now p word f (at_least-number_up_to 1 peers p a peer) of_word) same
    ]

IsFor-two_arguments : (peers now : ℕ) (word a b : List ℕ) (event : Event) → two_arguments peers word a b ≡ Some event → IsFor peers now event
IsFor-two_arguments peers now word a b event e =
    elim (some-if (bytes_eq word (codes "in")) (peer_word peers a >>= λ p. some_octets b >>= λ bytes. Some (octets p bytes))
    (if bytes_eq word (codes "room") then (peer_word peers a >>= λ p. count_word b >>= λ k. Some (room p k)) else None) event e) [
      | inl is ↦
          let (p, peer, rest) = bind-some (peer_word peers a) (λ p. some_octets b >>= λ bytes. Some (octets p bytes)) event is in
          let (bytes, some, same) = bind-some (some_octets b) (λ bytes. Some (octets p bytes)) event rest in
          IsFor-same peers now (octets p bytes) event (at_least-number_up_to 1 peers p a peer) same
      | inr e ↦
          elim (some-if (bytes_eq word (codes "room")) (peer_word peers a >>= λ p. count_word b >>= λ k. Some (room p k)) None event e) [
            | inl is ↦
                let (p, peer, rest) = bind-some (peer_word peers a) (λ p. count_word b >>= λ k. Some (room p k)) event is in
                let (k, some, same) = bind-some (count_word b) (λ k. Some (room p k)) event rest in
                IsFor-same peers now (room p k) event (at_least-number_up_to 1 peers p a peer) same
            | inr none ↦ cc none
          ]
    ]

IsFor-event_of_words : (peers now : ℕ) (words : List (List ℕ)) (event : Event) → event_of_words peers now words ≡ Some event → IsFor peers now event
unfolding event_of_words
IsFor-event_of_words peers now [] event e = cc e
IsFor-event_of_words peers now (word ∷ []) event e =
    elim (some-if (bytes_eq word (codes "rescan")) (Some rescan) None event e) [ inl is ↦ IsFor-same peers now rescan event tt is | inr none ↦ cc none ]
IsFor-event_of_words peers now (word ∷ a ∷ []) event e = IsFor-one_argument peers now word a event e
IsFor-event_of_words peers now (word ∷ a ∷ b ∷ []) event e = IsFor-two_arguments peers now word a b event e
IsFor-event_of_words peers now (word ∷ a ∷ b ∷ c ∷ others) event e = cc e

-- the event of a line
pub IsFor-line_of : (peers now : ℕ) (line : List ℕ) (event : Event) → line_of peers now line ≡ Some (says event) → IsFor peers now event
unfolding line_of
IsFor-line_of peers now [] event e = cc e
IsFor-line_of peers now (c ∷ text) event e =
    elim (some-if (c == 35) (Some blank_line) (event_of_words peers now (split_on 32 (c ∷ text)) >>= λ e. Some (says e)) (says event) e) [
      | inl is ↦ cc is
      | inr is ↦
          let (said, words, same) = bind-some (event_of_words peers now (split_on 32 (c ∷ text))) (λ e. Some (says e)) (says event) is in
          let is_event : said ≡ event = cc same in
          subst (IsFor peers now) is_event (IsFor-event_of_words peers now (split_on 32 (c ∷ text)) said words)
    ]

-- What a peer was sent, with what is left of a message, tells it what it was told.
use Rattle.std.proofs.Common.{◌≡◌, refl, sym, ap, ◌∙◌, subst, inl, inr, ℕ, zero, suc, ◌+◌, ◌*◌, ◌-◌, ◌<◌, ◌≤◌, arith}
use Rattle.std.proofs.Common.{Bool, true, false, List, [], ◌∷◌, ◌++◌, append_assoc, length, take, drop, Option}
use Rattle.std.proofs.Common.{Some, None}
use Rattle.std.proofs.Common.{fold, map, get_or}
use Rattle.std.proofs.lemmas.Bool.{and_parts, cases_Bool, eq-eqb, eqb-false, eqb-true, ltb-false}
use Rattle.std.proofs.lemmas.Grind.{flat_map-append}
use Rattle.std.proofs.lemmas.List.{append-nil, get_or-set_same, length-set, length-map}
use Rattle.std.specs.Prelude.{◌==◌, nat_le, nat_lt, flat_map, if◌then◌else◌}
use Rattle.std.specs.Map.{keys_of}
use Rattle.std.specs.Option.{option_map}
use Rattle.std.specs.List.{AllByRecursion, range_with_len}
use Rattle.xb_words.specs.Octets.{AreOctets}
use Rattle.xb_words.specs.Table.{with_value}
use Rattle.xb_words.proofs.TableLemmas.{AllByRecursion-with_value}
use Rattle.xb_domain.specs.declared.output.Packing.{Packing}
use Rattle.xb_domain.specs.Events.{Event, start, stop, up, down, octets, time, room, drain, rescan}
use Rattle.xb_domain.specs.Outputs.{Output, came_up, went_down}
use Rattle.xb_values.specs.Prefixes.{Prefix, Sections, IsPrefix, prefix_cmp}
use Rattle.xb_wire.specs.declared.numbers.TheConstants.{HEADER, OPEN, UPDATE, NOTIFICATION}
use Rattle.xb_wire.specs.Messages.{Notification, message_kind, message_body, message_size, front_fault}
use Rattle.bgp_attr.specs.Paths.{width_of}
use Rattle.bgp_path.proofs.NumbersLemmas.{AreOctets-drop}
use Rattle.bgp_check.specs.Judgement.{judge}
use Rattle.bgp_open.specs.Opens.{judge_open4, open_seen4}
use Rattle.bgp_write.specs.Pending.{Formed, form, pending}
use Rattle.bgp_write.specs.Written.{wide_open_message, keepalive_message, notice_message}
use Rattle.bgp_fsm.specs.declared.State.{State}
use Rattle.bgp_fsm.specs.declared.State.TheVariants.{Idle, Connect, OpenSent, OpenConfirm, Established}
use Rattle.bgp_fsm.specs.declared.Stimulus.{Stimulus}
use Rattle.bgp_fsm.specs.declared.Stimulus.TheVariants as stimuli
use Rattle.bgp_fsm.specs.declared.Act.{Act}
use Rattle.bgp_fsm.specs.declared.Act.TheVariants as acts
use Rattle.bgp_fsm.specs.declared.Timer.{Timer}
use Rattle.bgp_fsm.specs.declared.Timer.TheVariants as timers
use Rattle.bgp_fsm.specs.Sessions.{Owned, Reaction, Session, down_if_up, row, start_session, is_live, due}
use Rattle.bpf_mem.proofs.OffsetLemmas.{AreOctets-take}
use Rattle.spk_model.specs.declared.host.Setup.{Setup}
use Rattle.spk_model.specs.Sources.{entry_of, session_of, is_established, is_up, is_wide}
use Rattle.spk_model.specs.Routing.{Routed, Tables, Chosen, no_tables, at_tables, tables_of, set_tables, lose}
use Rattle.spk_model.specs.Routing.{export_all, settle_all, update}
use Rattle.spk_model.specs.Turning.{Speaker, Turn, gives, put, routed, with_routes, rest_of, set_rest, wait_of}
use Rattle.spk_model.specs.Turning.{set_wait}
use Rattle.spk_model.specs.Turning.{session_at, set_session, set_clock, state_of, tables_at, control, act, react}
use Rattle.spk_model.specs.Turning.{refuse}
use Rattle.spk_model.specs.Turning.{judged_open, open_in, taken_update, judged_update, update_in, message_in}
use Rattle.spk_model.specs.Turning.{front_in}
use Rattle.spk_model.specs.Turning.{when_true, take_turns, octets_in, Due, earlier_due, due_of, first_due}
use Rattle.spk_model.specs.Turning.{stimulus_of}
use Rattle.spk_model.specs.Turning.{fire_in_time, fire_first, time_turns, time_to, within, less, is_spent, put_rest}
use Rattle.spk_model.specs.Turning.{formed_rest, form_next, rest_or_form, unless_spent, emit_turns, emit}
use Rattle.spk_model.specs.Turning.{known_prefixes}
use Rattle.spk_model.specs.Turning.{turn, before, event, history, start_of}
use Rattle.spk_model.specs.Readers.{AreConfigured, IsPeer}
use Rattle.spk_model.specs.Laws.{IsSetup, IsInRange, AreEvents, IsReached, octets_to, state_in, is_connect, begins}
use Rattle.spk_model.specs.Laws.{sent_since, heard_is_told, rest_in, told_is_advertised}
use Rattle.spk_model.proofs.AdvertisedLemmas.{told-adv}
use Rattle.spk_model.proofs.HeardLemmas.{AllByRecursion-All, AreTold, IsShort, Tells, all-append, all-keys}
use Rattle.spk_model.proofs.HeardLemmas.{all-weaken, form_tells}
use Rattle.spk_model.proofs.HeardLemmas.{heard-tells}
use Rattle.spk_model.proofs.HeardLemmas.{tells-keepalive, tells-nil, tells-open}
use Rattle.spk_model.proofs.OthersLemmas.{Kept, Seen, not_near, react-unseen}
use Rattle.spk_model.proofs.OthersLemmas.{emit-unseen, export_all-safe, settle_all-safe}
use Rattle.spk_model.proofs.SoundLemmas.{IsSound, AreSound, part_all, sound_itself, no_tables_sound, export_all-sound}
use Rattle.spk_model.proofs.SoundLemmas.{lose-sound, settle_all-sound, update-sound}
use Rattle.spk_model.proofs.WaitLemmas.{acts_keep}

-- ---- sessions

-- a session that is not Established told nothing
abbrev IsSilent : State → Sections → Type 0
IsSilent Idle told = told ≡ []
IsSilent Connect told = told ≡ []
IsSilent OpenSent told = told ≡ []
IsSilent OpenConfirm told = told ≡ []
IsSilent Established told = Unit {0}

-- the acts with which a session is closed
abbrev closing : State → List Act
closing state = down_if_up state ++ acts.Close ∷ []

-- what was sent and what is left, by the state of the session: a session that is not live left nothing and told
-- nothing, and one that is not Established told nothing yet
abbrev IsToldIn : State → List ℕ → List ℕ → Sections → Type 0
IsToldIn Idle bytes rest told = (rest ≡ []) × (told ≡ [])
IsToldIn Connect bytes rest told = (rest ≡ []) × (told ≡ [])
IsToldIn OpenSent bytes rest told = Tells (bytes ++ rest) told × (told ≡ [])
IsToldIn OpenConfirm bytes rest told = Tells (bytes ++ rest) told × (told ≡ [])
IsToldIn Established bytes rest told = Tells (bytes ++ rest) told

-- a link comes up in Connect only if nothing was sent since
abbrev IsFresh : State → List ℕ → Type 0
IsFresh Idle bytes = Unit {0}
IsFresh Connect bytes = bytes ≡ []
IsFresh OpenSent bytes = Unit {0}
IsFresh OpenConfirm bytes = Unit {0}
IsFresh Established bytes = Unit {0}

abbrev Allows : Stimulus → State → List ℕ → Type 0
Allows stimuli.LinkUp state bytes = IsFresh state bytes
Allows other state bytes = Unit {0}

fresh_nil : (state : State) (bytes : List ℕ) → bytes ≡ [] → IsFresh state bytes
fresh_nil Idle bytes none = tt
fresh_nil Connect bytes none = none
fresh_nil OpenSent bytes none = tt
fresh_nil OpenConfirm bytes none = tt
fresh_nil Established bytes none = tt

fresh_not : (state : State) (bytes : List ℕ) → is_connect state ≡ false → IsFresh state bytes
fresh_not Idle bytes is = tt
fresh_not Connect bytes is = absurd (cc is)
fresh_not OpenSent bytes is = tt
fresh_not OpenConfirm bytes is = tt
fresh_not Established bytes is = tt

-- octets sent before a session begins do not count
connect_any : (state : State) (a b rest : List ℕ) (told : Sections) → is_connect state ≡ true
    → IsToldIn state a rest told → IsToldIn state b rest told
connect_any Idle a b rest told is h = h
connect_any Connect a b rest told is h = h
connect_any OpenSent a b rest told is h = absurd (cc is)
connect_any OpenConfirm a b rest told is h = absurd (cc is)
connect_any Established a b rest told is h = absurd (cc is)

established_is : (state : State) → is_established state ≡ true → state ≡ Established
established_is Established is = refl
established_is Idle is = absurd (cc is)
established_is Connect is = absurd (cc is)
established_is OpenSent is = absurd (cc is)
established_is OpenConfirm is = absurd (cc is)

-- ---- timers

-- a timer that is due is a peer's
abbrev IsOfPeer : Option Due → Type 0
IsOfPeer None = Unit {0}
IsOfPeer (Some d) = 1 ≤ d.peer

earlier_of_peer : (a b : Option Due) → IsOfPeer a → IsOfPeer b → IsOfPeer (earlier_due a b)
earlier_of_peer None b x y = y
earlier_of_peer (Some a) None x y = x
earlier_of_peer (Some a) (Some b) x y =
    elim (cases_Bool (nat_lt b.at a.at)) [ inl less ↦ rw less y | inr not_less ↦ rw not_less x ]

due_of_peer : (p : ℕ) → 1 ≤ p → (o : Option (ℕ × Timer))
    → IsOfPeer (option_map (λ d. record { at = d.0; peer = p; timer = d.1 }) o)
due_of_peer p some None = tt
due_of_peer p some (Some d) = some

first_of_peer : (t : Turn) (p n : ℕ) (a : Option Due) → 1 ≤ p → IsOfPeer a
    → IsOfPeer (fold (λ b r. earlier_due b (due_of t r)) a (range_with_len p n))
first_of_peer t p zero a some x = x
first_of_peer t p (suc n) a some x =
    first_of_peer t (p + 1) n (earlier_due a (due_of t p)) (omega (arith, some))
    (earlier_of_peer a (due_of t p) x (due_of_peer p some (due (session_at t p).session)))

allows_timer : (timer : Timer) (state : State) (bytes : List ℕ) → Allows (stimulus_of timer) state bytes
allows_timer timers.Hold state bytes = tt
allows_timer timers.Keepalive state bytes = tt

-- ---- lists

all_elements : {A : Type 0} (P : A → Type 0) (d : A) (xs : List A) → ((i : ℕ) → P (get_or xs i d))
    → AllByRecursion P xs
all_elements P d [] all = tt
all_elements P d (x ∷ xs) all = (all 0, all_elements P d xs (λ i. all (suc i)))

map_all : {A B : Type 0} (P : B → Type 0) (c d : B) (xs : List A) (i : ℕ) → P c → P d
    → P (get_or (map (λ _. c) xs) i d)
map_all P c d [] i made other = other
map_all P c d (x ∷ xs) zero made other = made
map_all P c d (x ∷ xs) (suc i) made other = map_all P c d xs i made other

keys_are : (ts : List Tables) → AllByRecursion AreSound ts
    → AllByRecursion IsPrefix (flat_map (λ x. keys_of x.adjin ++ keys_of x.adv) ts)
keys_are [] all = tt
keys_are (t ∷ ts) all =
    let adv = all-weaken IsShort (λ e. IsPrefix e.0) (λ e is. is.0) t.adv ((all.0).adv).short in
    all-append IsPrefix (keys_of t.adjin ++ keys_of t.adv) (flat_map (λ x. keys_of x.adjin ++ keys_of x.adv) ts)
    (all-append IsPrefix (keys_of t.adjin) (keys_of t.adv) (all-keys IsPrefix t.adjin (all.0).adjin)
    (all-keys IsPrefix t.adv adv))
    (keys_are ts all.1)

best_are : (best : Chosen) (ps : List Prefix) (b : List (Prefix × Chosen)) → AllByRecursion IsPrefix ps
    → AllByRecursion (λ e. IsPrefix e.0) b
    → AllByRecursion (λ e. IsPrefix e.0) (fold (λ c p. with_value prefix_cmp c p best) b ps)
best_are best [] b are all = all
best_are best (p ∷ ps) b are all =
    best_are best ps (with_value prefix_cmp b p best) are.1
    (AllByRecursion-with_value prefix_cmp (λ e. IsPrefix e.0) b p best are.0 (λ e same old. old) all)

take-drop : (k : ℕ) (s : List ℕ) → take k s ++ drop (length (take k s)) s ≡ s
take-drop zero s = refl
take-drop (suc k) [] = refl
take-drop (suc k) (x ∷ s) = ap (λ (t : List ℕ). x ∷ t) (take-drop k s)

all-drop : (s : List ℕ) → s ++ drop (length s) s ≡ s
all-drop [] = refl
all-drop (x ∷ s) = ap (λ (t : List ℕ). x ∷ t) (all-drop s)

-- what leaves and what is left is what was there
within-drop : (limit : Option ℕ) (s : List ℕ) → within limit s ++ drop (length (within limit s)) s ≡ s
within-drop None s = all-drop s
within-drop (Some k) s = take-drop k s

no_octets : (s : List ℕ) → nat_lt 0 (length s) ≡ false → s ≡ []
no_octets [] none = refl
no_octets (b ∷ s) none = absurd (omega (arith, ltb-false 0 (length (b ∷ s)) none))

-- ---- steps of telling

form_next-by : (P : Turn → Type 0) (rest : Turn → Turn) → ((t : Turn) → P t → P (rest t)) → (p : ℕ) (t : Turn)
    (o : Option Formed) → ((f : Formed) → o ≡ Some f → P (formed_rest t p f)) → P t → P (form_next rest t p o)
form_next-by P rest keeps p t None forms h = h
form_next-by P rest keeps p t (Some f) forms h = keeps (formed_rest t p f) (forms f refl)

unless_spent-by : (P : Turn → Type 0) (b : Bool) (go : Turn → Turn) (t : Turn) → P (go t) → P t
    → P (unless_spent b go t)
unless_spent-by P true go t h k = k
unless_spent-by P false go t h k = h

-- what both steps keep, their repetition keeps
module _ (P : Turn → Type 0) (rule : Packing) (p : ℕ)
    (puts : (t : Turn) (limit : Option ℕ) → P t → P (put_rest t p limit))
    (forms :
    (t : Turn) (f : Formed) → rest_of t p ≡ [] → form rule (tables_at t p).adv (tables_at t p).told ≡ Some f
    → P t → P (formed_rest t p f)) where
  rest_or_form-by : (rest : Turn → Option ℕ → Turn) → ((t : Turn) (l : Option ℕ) → P t → P (rest t l)) → (t : Turn)
      (limit : Option ℕ) (b : Bool) → nat_lt 0 (length (rest_of t p)) ≡ b → P t
      → P (rest_or_form rule rest t p limit b)
  rest_or_form-by rest keeps t limit true is h = keeps _ _ (puts t limit h)
  rest_or_form-by rest keeps t limit false is h =
      form_next-by P (λ u. rest u limit) (λ u. keeps u limit) p t
      (form rule (tables_at t p).adv (tables_at t p).told) (λ f e. forms t f (no_octets (rest_of t p) is) e h) h

  emit_turns-by : (turns : ℕ) (t : Turn) (limit : Option ℕ) → P t → P (emit_turns rule turns t p limit)
  unfolding emit_turns
  emit_turns-by zero t limit h = h
  emit_turns-by (suc turns) t limit h =
      unless_spent-by P (is_spent limit)
      (λ u. rest_or_form rule (λ v l. emit_turns rule turns v p l) u p limit (nat_lt 0 (length (rest_of u p)))) t
      (rest_or_form-by (λ v l. emit_turns rule turns v p l) (emit_turns-by turns) t limit
      (nat_lt 0 (length (rest_of t p))) refl h) h

-- ---- what is kept of a speaker

-- a session by its parts
abbrev session_by : State → Option ℕ → Option ℕ → ℕ → ℕ → Bool → Session
session_by state hold_at keepalive_at hold id wide =
    record { state = state; hold_at = hold_at; keepalive_at = keepalive_at; hold = hold; id = id; wide = wide }

module _ (setup : Setup) (q : ℕ) where
  -- the number of peers
  abbrev peers : ℕ
  peers = length (setup.config).peers

  -- prefixes are prefixes and octets are octets, and there is one of each list for each peer
  pub record IsKept (t : Turn) : Type 0 where
    pub routes : IsSound q (tables_at t q).told peers (routed t)
    pub waits : (p : ℕ) → AreOctets (wait_of t p)
    pub sessions : length (t.speaker).sessions ≡ peers
    pub rests : length (t.speaker).rests ≡ peers

  routes-kept : (t : Turn) (r : Routed) (told : Sections) → IsSound q told peers r → IsKept t
      → IsKept (with_routes t r)
  routes-kept t r told s k = record {
    routes = sound_itself q told peers r s;
    waits = k.waits;
    sessions = k.sessions;
    rests = k.rests;
  }

  set_rest-kept : (t : Turn) (p : ℕ) (piece : List ℕ) → IsKept t → IsKept (set_rest t p piece)
  set_rest-kept t p piece k = record {
    routes = k.routes;
    waits = k.waits;
    sessions = k.sessions;
    rests = length-set (t.speaker).rests (p - 1) piece ∙ k.rests;
  }

  gives-kept : (t : Turn) (os : List Output) → IsKept t → IsKept (gives t os)
  gives-kept t os k = record { routes = k.routes; waits = k.waits; sessions = k.sessions; rests = k.rests }

  set_wait-kept : (t : Turn) (p : ℕ) (piece : List ℕ) → AreOctets piece → IsKept t → IsKept (set_wait t p piece)
  set_wait-kept t p piece are k = record {
    routes = k.routes;
    waits = λ r. part_all (λ s. AreOctets s) (t.speaker).waits (p - 1) (r - 1) piece [] are (k.waits r);
    sessions = k.sessions;
    rests = k.rests;
  }

  set_session-kept : (t : Turn) (p : ℕ) (s : Owned) → IsKept t → IsKept (set_session t p s)
  set_session-kept t p s k = record {
    routes = k.routes;
    waits = k.waits;
    sessions = length-set (t.speaker).sessions (p - 1) s ∙ k.sessions;
    rests = k.rests;
  }

  control-kept : (t : Turn) (p : ℕ) (piece : List ℕ) → IsKept t → IsKept (control setup t p piece)
  unfolding control
  control-kept t p piece k =
      let u = gives t (put p (rest_of t p)) in
      gives-kept (set_rest u p []) (put p piece)
      (set_rest-kept u p [] (gives-kept t (put p (rest_of t p)) k))

  act-kept : (p : ℕ) (extra : List ℕ) (t : Turn) (a : Act) → IsKept t → IsKept (act setup p extra t a)
  unfolding act
  act-kept p extra t acts.SendOpen k =
      control-kept t p
      (wide_open_message ((setup.config).local).asn (setup.config).hold ((setup.config).local).id) k
  act-kept p extra t acts.SendKeepalive k = control-kept t p keepalive_message k
  act-kept p extra t (acts.SendNotice code subcode) k = control-kept t p (notice_message code subcode extra) k
  act-kept p extra t acts.Up k =
      let u = gives t (came_up p ∷ []) in
      routes-kept u (export_all setup (t.speaker).sessions (routed t) p) (tables_at t q).told
      (export_all-sound q (tables_at t q).told peers setup (t.speaker).sessions p (routed t) k.routes)
      (gives-kept t (came_up p ∷ []) k)
  act-kept p extra t acts.Down k =
      let u = gives t (went_down p ∷ []) in
      routes-kept u (lose setup (t.speaker).sessions (routed t) p)
      (at_tables (set_tables (routed t) p no_tables) q).told
      (lose-sound q (tables_at t q).told peers setup (t.speaker).sessions p (routed t) k.routes)
      (gives-kept t (went_down p ∷ []) k)
  act-kept p extra t acts.Close k =
      set_wait-kept (set_rest t p []) p [] tt (set_rest-kept t p [] k)

  acts-kept : (p : ℕ) (extra : List ℕ) (todo : List Act) (t : Turn) → IsKept t
      → IsKept (fold (act setup p extra) t todo)
  acts-kept p extra [] t k = k
  acts-kept p extra (a ∷ todo) t k = acts-kept p extra todo (act setup p extra t a) (act-kept p extra t a k)

  react-kept : (t : Turn) (p : ℕ) (st : Stimulus) (extra : List ℕ) → IsKept t → IsKept (react setup t p st extra)
  unfolding react
  react-kept t p st extra k =
      let s = session_at t p in
      let r = row s.own s.session (t.speaker).clock st in
      let after : Owned = record s { session = r.session } in
      acts-kept p extra r.acts (set_session t p after) (set_session-kept t p after k)

  -- ---- what the peer was told

  module _ (base : List ℕ) where
    -- all that was sent to the peer, after what was sent before
    abbrev bytes_of : Turn → List ℕ
    bytes_of t = base ++ flat_map (octets_to q) t.outputs

    -- the same by what is seen of it
    abbrev SeenTold : Seen → Type 0
    SeenTold s = IsToldIn ((s.session).session).state (base ++ s.octets) s.rest (s.tables).told

    abbrev IsTold : Turn → Type 0
    IsTold t = IsToldIn (state_of t q) (bytes_of t) (rest_of t q) (tables_at t q).told

    put-own : (piece : List ℕ) → flat_map (octets_to q) (put q piece) ≡ piece
    put-own [] = refl
    put-own (b ∷ piece) =
        ap (λ (c : Bool). (if c then b ∷ piece else []) ++ []) (eq-eqb q q refl) ∙ append-nil (b ∷ piece)

    sent-put : (t : Turn) (piece : List ℕ) → bytes_of (gives t (put q piece)) ≡ bytes_of t ++ piece
    sent-put t piece =
        let sent = flat_map (octets_to q) t.outputs in
        ap (λ (x : List ℕ). base ++ x) (flat_map-append (octets_to q) t.outputs (put q piece))
        ∙ ap (λ (x : List ℕ). base ++ (sent ++ x)) (put-own piece) ∙ sym (append_assoc base sent piece)

    control_sent : (t : Turn) (piece : List ℕ)
        → bytes_of (control setup t q piece) ≡ bytes_of t ++ rest_of t q ++ piece
    unfolding control
    control_sent t piece =
        sent-put (set_rest (gives t (put q (rest_of t q))) q []) piece
        ∙ ap (λ (x : List ℕ). x ++ piece) (sent-put t (rest_of t q))

    control_rest : (t : Turn) (piece : List ℕ) → q - 1 < length (t.speaker).rests
        → rest_of (control setup t q piece) q ≡ []
    unfolding control
    control_rest t piece fits = get_or-set_same (t.speaker).rests (q - 1) [] [] fits

    -- a control message comes after what is left
    control_tells : (t : Turn) (piece : List ℕ) (table : Sections) → q - 1 < length (t.speaker).rests
        → Tells (bytes_of t ++ rest_of t q ++ piece) table
        → let u = control setup t q piece in Tells (bytes_of u ++ rest_of u q) table
    control_tells t piece table fits tells =
        let u = control setup t q piece in
        let whole : bytes_of u ++ rest_of u q ≡ bytes_of t ++ rest_of t q ++ piece =
        ap (λ (r : List ℕ). bytes_of u ++ r) (control_rest t piece fits)
        ∙ append-nil (bytes_of u) ∙ control_sent t piece in
        subst (λ (x : List ℕ). Tells x table) (sym whole) tells

    control_told : (t : Turn) (piece : List ℕ) → (tables_at (control setup t q piece) q).told ≡ (tables_at t q).told
    unfolding control
    control_told t piece = refl

    -- an act of the peer's session
    abbrev acted : List ℕ → Turn → Act → Turn
    acted extra t a = act setup q extra t a

    -- an OPEN is the first that is sent
    open_told : (extra : List ℕ) (t : Turn) → q - 1 < length (t.speaker).rests → bytes_of t ≡ [] → rest_of t q ≡ []
        → (tables_at t q).told ≡ [] → let u = act setup q extra t acts.SendOpen in
        IsToldIn OpenSent (bytes_of u) (rest_of u q) (tables_at u q).told
    unfolding act
    open_told extra t fits no_bytes no_rest no_told =
        let config = setup.config in
        let opened = wide_open_message (config.local).asn config.hold (config.local).id in
        let u = control setup t q opened in
        let none : bytes_of t ++ rest_of t q ≡ [] = ap (λ (x : List ℕ). x ++ rest_of t q) no_bytes ∙ no_rest in
        let first : Tells (bytes_of t ++ rest_of t q) [] = subst (λ (x : List ℕ). Tells x []) (sym none) tells-nil in
        let next = tells-open (bytes_of t ++ rest_of t q) [] (config.local).asn config.hold (config.local).id first in
        let after = control_tells t opened [] fits next in
        let same : (tables_at u q).told ≡ [] = control_told t opened ∙ no_told in
        (subst (λ (x : Sections). Tells (bytes_of u ++ rest_of u q) x) (sym same) after, same)

    keepalive_told : (extra : List ℕ) (t : Turn) → q - 1 < length (t.speaker).rests
        → Tells (bytes_of t ++ rest_of t q) (tables_at t q).told
        → let u = act setup q extra t acts.SendKeepalive in
        Tells (bytes_of u ++ rest_of u q) (tables_at u q).told × ((tables_at u q).told ≡ (tables_at t q).told)
    unfolding act
    keepalive_told extra t fits tells =
        let u = control setup t q keepalive_message in
        let same = control_told t keepalive_message in
        let next = tells-keepalive (bytes_of t ++ rest_of t q) (tables_at t q).told tells in
        let after = control_tells t keepalive_message (tables_at t q).told fits next in
        (subst (λ (x : Sections). Tells (bytes_of u ++ rest_of u q) x) (sym same) after, same)

    up_told : (extra : List ℕ) (t : Turn) → Tells (bytes_of t ++ rest_of t q) (tables_at t q).told
        → let u = act setup q extra t acts.Up in Tells (bytes_of u ++ rest_of u q) (tables_at u q).told
    unfolding act
    up_told extra t tells =
        let v = gives t (came_up q ∷ []) in
        let u = act setup q extra t acts.Up in
        let same : (tables_at t q).told ≡ (tables_at u q).told =
        sym (ap (λ (k : Kept). k.told) (export_all-safe q setup (t.speaker).sessions q (routed t))) in
        let silent : flat_map (octets_to q) (t.outputs ++ came_up q ∷ []) ≡ flat_map (octets_to q) t.outputs =
        flat_map-append (octets_to q) t.outputs (came_up q ∷ []) ∙ append-nil (flat_map (octets_to q) t.outputs) in
        let bytes : bytes_of t ≡ bytes_of v = sym (ap (λ (x : List ℕ). base ++ x) silent) in
        subst (λ (x : Sections). Tells (bytes_of u ++ rest_of u q) x) same
        (subst (λ (x : List ℕ). Tells (x ++ rest_of t q) (tables_at t q).told) bytes tells)

    close_told : (extra : List ℕ) (t : Turn) → q - 1 < length (t.speaker).rests → (tables_at t q).told ≡ []
        → let u = act setup q extra t acts.Close in (rest_of u q ≡ []) × ((tables_at u q).told ≡ [])
    unfolding act
    close_told extra t fits none = (get_or-set_same (t.speaker).rests (q - 1) [] [] fits, none)

    down_told : (extra : List ℕ) (t : Turn) → q - 1 < length ((t.speaker).routing).tables
        → (tables_at (act setup q extra t acts.Down) q).told ≡ []
    unfolding act lose
    down_told extra t fits =
        let sessions = (t.speaker).sessions in
        let r = routed t in
        ap (λ (k : Kept). k.told)
        (settle_all-safe q setup sessions (keys_of (at_tables r q).adjin) (set_tables r q no_tables))
        ∙ ap (λ (x : Tables). x.told) (get_or-set_same (r.routing).tables (q - 1) no_tables no_tables fits)

    down_rests : (extra : List ℕ) (t : Turn)
        → ((act setup q extra t acts.Down).speaker).rests ≡ (t.speaker).rests
    unfolding act
    down_rests extra t = refl

    closing_told : (extra : List ℕ) (t : Turn) (state : State) → q - 1 < length (t.speaker).rests
        → q - 1 < length ((t.speaker).routing).tables → IsSilent state (tables_at t q).told
        → let u = fold (act setup q extra) t (closing state) in
        (rest_of u q ≡ []) × ((tables_at u q).told ≡ [])
    closing_told extra t Idle rests tables silent = close_told extra t rests silent
    closing_told extra t Connect rests tables silent = close_told extra t rests silent
    closing_told extra t OpenSent rests tables silent = close_told extra t rests silent
    closing_told extra t OpenConfirm rests tables silent = close_told extra t rests silent
    closing_told extra t Established rests tables silent =
        let u = act setup q extra t acts.Down in
        close_told extra u (subst (λ (rs : List (List ℕ)). q - 1 < length rs) (sym (down_rests extra t)) rests)
        (down_told extra t tables)

    -- the same after a NOTIFICATION
    notice_told : (extra : List ℕ) (t : Turn) (state : State) (code subcode : ℕ) → q - 1 < length (t.speaker).rests
        → q - 1 < length ((t.speaker).routing).tables → IsSilent state (tables_at t q).told
        → let u = fold (act setup q extra) (act setup q extra t (acts.SendNotice code subcode)) (closing state) in
        (rest_of u q ≡ []) × ((tables_at u q).told ≡ [])
    unfolding act control
    notice_told extra t state code subcode rests tables silent =
        let same = length-set (t.speaker).rests (q - 1) [] in
        closing_told extra (control setup t q (notice_message code subcode extra)) state (omega (arith, same, rests))
        tables silent

    -- what was told after the acts of a reaction
    abbrev After : List ℕ → Turn → Reaction → Type 0
    After extra t r =
        let u = fold (act setup q extra) t r.acts in
        IsToldIn (r.session).state (bytes_of u) (rest_of u q) (tables_at u q).told

    reacted : (extra : List ℕ) (t : Turn) (own : ℕ) (state : State) (a b : Option ℕ) (hold id : ℕ) (wide : Bool)
        (now : ℕ) (st : Stimulus) → q - 1 < length (t.speaker).rests → q - 1 < length ((t.speaker).routing).tables
        → Allows st state (bytes_of t) → IsToldIn state (bytes_of t) (rest_of t q) (tables_at t q).told
        → After extra t (row own (session_by state a b hold id wide) now st)
    unfolding row
    reacted extra t own Idle a b hold id wide now stimuli.Start rests tables fresh told = told
    reacted extra t own Idle a b hold id wide now other rests tables fresh told = told
    reacted extra t own Connect a b hold id wide now stimuli.Stop rests tables fresh told = told
    reacted extra t own Connect a b hold id wide now stimuli.LinkUp rests tables fresh told =
        open_told extra t rests fresh told.0 told.1
    reacted extra t own Connect a b hold id wide now other rests tables fresh told = told
    reacted extra t own OpenSent a b hold id wide now stimuli.Stop rests tables fresh told =
        notice_told extra t OpenSent _ _ rests tables told.1
    reacted extra t own OpenSent a b hold id wide now stimuli.LinkDown rests tables fresh told =
        closing_told extra t OpenSent rests tables told.1
    reacted extra t own OpenSent a b hold id wide now stimuli.Notified rests tables fresh told =
        closing_told extra t OpenSent rests tables told.1
    reacted extra t own OpenSent a b hold id wide now (stimuli.Fault code subcode) rests tables fresh told =
        notice_told extra t OpenSent code subcode rests tables told.1
    reacted extra t own OpenSent a b hold id wide now stimuli.HoldDue rests tables fresh told =
        notice_told extra t OpenSent _ _ rests tables told.1
    reacted extra t own OpenSent a b hold id wide now stimuli.Keepalive rests tables fresh told =
        notice_told extra t OpenSent _ _ rests tables told.1
    reacted extra t own OpenSent a b hold id wide now stimuli.Update rests tables fresh told =
        notice_told extra t OpenSent _ _ rests tables told.1
    reacted extra t own OpenSent a b hold id wide now (stimuli.OpenGood h i w) rests tables fresh told =
        let k = keepalive_told extra t rests told.0 in (k.0, k.1 ∙ told.1)
    reacted extra t own OpenSent a b hold id wide now other rests tables fresh told = told
    reacted extra t own OpenConfirm a b hold id wide now stimuli.Stop rests tables fresh told =
        notice_told extra t OpenConfirm _ _ rests tables told.1
    reacted extra t own OpenConfirm a b hold id wide now stimuli.LinkDown rests tables fresh told =
        closing_told extra t OpenConfirm rests tables told.1
    reacted extra t own OpenConfirm a b hold id wide now stimuli.Notified rests tables fresh told =
        closing_told extra t OpenConfirm rests tables told.1
    reacted extra t own OpenConfirm a b hold id wide now (stimuli.Fault code subcode) rests tables fresh told =
        notice_told extra t OpenConfirm code subcode rests tables told.1
    reacted extra t own OpenConfirm a b hold id wide now stimuli.HoldDue rests tables fresh told =
        notice_told extra t OpenConfirm _ _ rests tables told.1
    reacted extra t own OpenConfirm a b hold id wide now stimuli.Keepalive rests tables fresh told =
        up_told extra t told.0
    reacted extra t own OpenConfirm a b hold id wide now stimuli.Update rests tables fresh told =
        notice_told extra t OpenConfirm _ _ rests tables told.1
    reacted extra t own OpenConfirm a b hold id wide now (stimuli.OpenGood h i w) rests tables fresh told =
        notice_told extra t OpenConfirm _ _ rests tables told.1
    reacted extra t own OpenConfirm a b hold id wide now stimuli.OpenLate rests tables fresh told =
        notice_told extra t OpenConfirm _ _ rests tables told.1
    reacted extra t own OpenConfirm a b hold id wide now stimuli.KeepaliveDue rests tables fresh told =
        let k = keepalive_told extra t rests told.0 in (k.0, k.1 ∙ told.1)
    reacted extra t own OpenConfirm a b hold id wide now other rests tables fresh told = told
    reacted extra t own Established a b hold id wide now stimuli.Stop rests tables fresh told =
        notice_told extra t Established _ _ rests tables tt
    reacted extra t own Established a b hold id wide now stimuli.LinkDown rests tables fresh told =
        closing_told extra t Established rests tables tt
    reacted extra t own Established a b hold id wide now stimuli.Notified rests tables fresh told =
        closing_told extra t Established rests tables tt
    reacted extra t own Established a b hold id wide now (stimuli.Fault code subcode) rests tables fresh told =
        notice_told extra t Established code subcode rests tables tt
    reacted extra t own Established a b hold id wide now stimuli.HoldDue rests tables fresh told =
        notice_told extra t Established _ _ rests tables tt
    reacted extra t own Established a b hold id wide now (stimuli.OpenGood h i w) rests tables fresh told =
        notice_told extra t Established _ _ rests tables tt
    reacted extra t own Established a b hold id wide now stimuli.OpenLate rests tables fresh told =
        notice_told extra t Established _ _ rests tables tt
    reacted extra t own Established a b hold id wide now stimuli.KeepaliveDue rests tables fresh told =
        (keepalive_told extra t rests told).0
    reacted extra t own Established a b hold id wide now other rests tables fresh told = told

    react_told : (t : Turn) (st : Stimulus) (extra : List ℕ) → q - 1 < length (t.speaker).sessions
        → q - 1 < length (t.speaker).rests → q - 1 < length ((t.speaker).routing).tables
        → Allows st (state_of t q) (bytes_of t) → IsTold t → IsTold (react setup t q st extra)
    unfolding react
    react_told t st extra within rests tables fresh told =
        let s = session_at t q in
        let x = s.session in
        let r = row s.own x (t.speaker).clock st in
        let after : Owned = record s { session = r.session } in
        let none : Owned = record { own = 0; session = start_session } in
        let u = set_session t q after in
        let v = fold (act setup q extra) u r.acts in
        let same = (acts_keep setup q extra r.acts u).0 in
        let state_is : state_of v q ≡ (r.session).state =
        ap (λ (ss : List Owned). ((get_or ss (q - 1) none).session).state) same
        ∙ ap (λ (o : Owned). (o.session).state) (get_or-set_same (t.speaker).sessions (q - 1) after none within) in
        subst (λ (state : State). IsToldIn state (bytes_of v) (rest_of v q) (tables_at v q).told) (sym state_is)
        (reacted extra u s.own x.state x.hold_at x.keepalive_at x.hold x.id x.wide (t.speaker).clock st rests tables
        fresh told)

    -- ---- both

    pub record IsHeard (t : Turn) : Type 0 where
      pub kept : IsKept t
      pub told : IsTold t

    if_heard : (b : Bool) (t u : Turn) → IsHeard t → IsHeard u → IsHeard (if b then t else u)
    if_heard true t u h k = h
    if_heard false t u h k = k

    set_wait_heard : (t : Turn) (p : ℕ) (piece : List ℕ) → AreOctets piece → IsHeard t → IsHeard (set_wait t p piece)
    set_wait_heard t p piece are h = record { kept = set_wait-kept t p piece are h.kept; told = h.told }

    set_clock_heard : (t : Turn) (now : ℕ) → IsHeard t → IsHeard (set_clock t now)
    set_clock_heard t now h = record {
      kept = record {
        routes = (h.kept).routes;
        waits = (h.kept).waits;
        sessions = (h.kept).sessions;
        rests = (h.kept).rests;
      };
      told = h.told;
    }

    routes_heard : (t : Turn) (r : Routed) → IsSound q (tables_at t q).told peers r → IsHeard t
        → IsHeard (with_routes t r)
    routes_heard t r s h = record {
      kept = routes-kept t r (tables_at t q).told s h.kept;
      told =
          subst (λ (x : Sections). IsToldIn (state_of t q) (bytes_of t) (rest_of t q) x) (sym s.told_is) h.told;
    }

    -- a link that comes up when it was waited for
    abbrev IsFreshAt : Event → Turn → Type 0
    IsFreshAt (up p) t = (q == p) ≡ true → IsFresh (state_of t q) (bytes_of t)
    IsFreshAt (start p) t = Unit {0}
    IsFreshAt (stop p) t = Unit {0}
    IsFreshAt (down p) t = Unit {0}
    IsFreshAt (octets p bytes) t = Unit {0}
    IsFreshAt (time now) t = Unit {0}
    IsFreshAt (room p k) t = Unit {0}
    IsFreshAt (drain p) t = Unit {0}
    IsFreshAt rescan t = Unit {0}

    module _ (some_q : 1 ≤ q) (last_q : q ≤ peers) where
      -- ---- messages

      module _ (p : ℕ) (some_p : 1 ≤ p) where
        react_heard : (t : Turn) (st : Stimulus) (extra : List ℕ)
            → ((q == p) ≡ true → Allows st (state_of t q) (bytes_of t)) → IsHeard t
            → IsHeard (react setup t p st extra)
        react_heard t st extra fresh h = record {
          kept = react-kept t p st extra h.kept;
          told =
              elim (cases_Bool (q == p)) [
                | inl same ↦
                    subst (λ (r : ℕ). IsTold (react setup t r st extra)) (eqb-true q p same)
                    (react_told t st extra (omega (arith, (h.kept).sessions, some_q, last_q))
                    (omega (arith, (h.kept).rests, some_q, last_q))
                    (omega (arith, ((h.kept).routes).long, some_q, last_q)) (fresh same) h.told)
                | inr other ↦
                    let apart = not_near q p some_q some_p (eqb-false q p other) in
                    subst SeenTold (sym (react-unseen q setup p other apart st extra t)) h.told
              ];
        }

        refuse_heard : (t : Turn) (n : Notification) → IsHeard t → IsHeard (refuse setup t p n)
        unfolding refuse
        refuse_heard t n h = react_heard t (stimuli.Fault n.code n.subcode) n.extra (λ e. tt) h

        judged_open_heard : (t : Turn) (body : List ℕ) (fault : Option Notification) → IsHeard t
            → IsHeard (judged_open setup t p body fault)
        judged_open_heard t body None h =
            react_heard t
            (stimuli.OpenGood (open_seen4 body).hold (open_seen4 body).id (open_seen4 body).wide) [] (λ e. tt) h
        judged_open_heard t body (Some n) h = refuse_heard t n h

        open_in_heard : (t : Turn) (body : List ℕ) (state : State) → IsHeard t
            → IsHeard (open_in setup t p body state)
        unfolding open_in
        open_in_heard t body OpenSent h =
            judged_open_heard t body (judge_open4 body (entry_of setup.config p).asn) h
        open_in_heard t body Idle h = react_heard t stimuli.OpenLate [] (λ e. tt) h
        open_in_heard t body Connect h = react_heard t stimuli.OpenLate [] (λ e. tt) h
        open_in_heard t body OpenConfirm h = react_heard t stimuli.OpenLate [] (λ e. tt) h
        open_in_heard t body Established h = react_heard t stimuli.OpenLate [] (λ e. tt) h

        taken_update_heard : (t : Turn) (body : List ℕ) → AreOctets body → IsHeard t
            → IsHeard (taken_update setup t p body)
        taken_update_heard t body are h =
            let sessions = (t.speaker).sessions in
            let now = (t.speaker).clock in
            routes_heard t (update setup sessions now (routed t) p body)
            (update-sound q (tables_at t q).told peers setup sessions now p body are (routed t) (h.kept).routes) h

        judged_update_heard : (t : Turn) (body : List ℕ) (fault : Option Notification) → AreOctets body → IsHeard t
            → IsHeard (judged_update setup t p body fault)
        judged_update_heard t body None are h =
            taken_update_heard (react setup t p stimuli.Update []) body are
            (react_heard t stimuli.Update [] (λ e. tt) h)
        judged_update_heard t body (Some n) are h = refuse_heard t n h

        update_in_heard : (t : Turn) (body : List ℕ) (state : State) → AreOctets body → IsHeard t
            → IsHeard (update_in setup t p body state)
        unfolding update_in
        update_in_heard t body Established are h =
            judged_update_heard t body (judge (width_of (is_wide (t.speaker).sessions p)) body) are h
        update_in_heard t body Idle are h = react_heard t stimuli.Update [] (λ e. tt) h
        update_in_heard t body Connect are h = react_heard t stimuli.Update [] (λ e. tt) h
        update_in_heard t body OpenSent are h = react_heard t stimuli.Update [] (λ e. tt) h
        update_in_heard t body OpenConfirm are h = react_heard t stimuli.Update [] (λ e. tt) h

        message_in_heard : (t : Turn) (message : List ℕ) → AreOctets message → IsHeard t
            → IsHeard (message_in setup t p message)
        unfolding message_in
        message_in_heard t message are h =
            let kind = message_kind message in
            let body = message_body message in
            let notified = react setup t p stimuli.Notified [] in
            let kept = react setup t p stimuli.Keepalive [] in
            let updated = update_in setup t p body (state_of t p) in
            let opened = open_in setup t p body (state_of t p) in
            if_heard (kind == OPEN) opened
            (if kind == UPDATE then updated else if kind == NOTIFICATION then notified else kept)
            (open_in_heard t body (state_of t p) h)
            (if_heard (kind == UPDATE) updated (if kind == NOTIFICATION then notified else kept)
            (update_in_heard t body (state_of t p) (AreOctets-drop HEADER message are) h)
            (if_heard (kind == NOTIFICATION) notified kept (react_heard t stimuli.Notified [] (λ e. tt) h)
            (react_heard t stimuli.Keepalive [] (λ e. tt) h)))

        front_in_heard : (rest : Turn → Turn) → ((u : Turn) → IsHeard u → IsHeard (rest u)) → (t : Turn)
            (size : Option ℕ) (fault : Option Notification) → IsHeard t → IsHeard (front_in setup rest t p size fault)
        front_in_heard rest keeps t (Some n) fault h =
            let waits = (h.kept).waits p in
            let u = set_wait t p (drop n (wait_of t p)) in
            let message = take n (wait_of t p) in
            keeps (message_in setup u p message)
            (message_in_heard u message (AreOctets-take n (wait_of t p) waits)
            (set_wait_heard t p (drop n (wait_of t p)) (AreOctets-drop n (wait_of t p) waits) h))
        front_in_heard rest keeps t None None h = h
        front_in_heard rest keeps t None (Some fault) h = refuse_heard t fault h

        when_true_heard : (b : Bool) (go : Turn → Turn) (t : Turn) → IsHeard (go t) → IsHeard t
            → IsHeard (when_true setup b go t)
        when_true_heard true go t h k = h
        when_true_heard false go t h k = k

        take_turns_heard : (turns : ℕ) (t : Turn) → IsHeard t → IsHeard (take_turns setup turns t p)
        unfolding take_turns
        take_turns_heard zero t h = h
        take_turns_heard (suc turns) t h =
            when_true_heard (is_live (state_of t p))
            (λ u. front_in setup (λ v. take_turns setup turns v p) u p (message_size (wait_of u p))
            (front_fault (wait_of u p))) t
            (front_in_heard (λ v. take_turns setup turns v p) (take_turns_heard turns) t
            (message_size (wait_of t p)) (front_fault (wait_of t p)) h) h

        octets_in_heard : (t : Turn) (bytes : List ℕ) → AreOctets bytes → IsHeard t
            → IsHeard (octets_in setup t p bytes)
        unfolding octets_in
        octets_in_heard t bytes are h =
            let whole = wait_of t p ++ bytes in
            let u = set_wait t p whole in
            let are_whole = all-append (λ b. b < 256) (wait_of t p) bytes ((h.kept).waits p) are in
            if_heard (is_live (state_of t p)) (take_turns setup (length whole) u p) t
            (take_turns_heard (length whole) u (set_wait_heard t p whole are_whole h)) h

      -- ---- the clock

      fire_in_time_heard : (rest : Turn → Turn) → ((u : Turn) → IsHeard u → IsHeard (rest u)) → (t : Turn) (now : ℕ)
          (d : Due) (b : Bool) → 1 ≤ d.peer → IsHeard t → IsHeard (fire_in_time setup rest t now d b)
      fire_in_time_heard rest keeps t now d true some h =
          let u = set_clock t d.at in
          keeps (react setup u d.peer (stimulus_of d.timer) [])
          (react_heard d.peer some u (stimulus_of d.timer) [] (λ e. allows_timer d.timer (state_of u q) (bytes_of u))
          (set_clock_heard t d.at h))
      fire_in_time_heard rest keeps t now d false some h = set_clock_heard t now h

      fire_first_heard : (rest : Turn → Turn) → ((u : Turn) → IsHeard u → IsHeard (rest u)) → (t : Turn) (now : ℕ)
          (o : Option Due) → IsOfPeer o → IsHeard t → IsHeard (fire_first setup rest t now o)
      fire_first_heard rest keeps t now None some h = set_clock_heard t now h
      fire_first_heard rest keeps t now (Some d) some h =
          fire_in_time_heard rest keeps t now d (nat_le d.at now) some h

      time_turns_heard : (turns : ℕ) (t : Turn) (now : ℕ) → IsHeard t → IsHeard (time_turns setup turns t now)
      unfolding time_turns
      time_turns_heard zero t now h = set_clock_heard t now h
      time_turns_heard (suc turns) t now h =
          fire_first_heard (λ u. time_turns setup turns u now) (λ u k. time_turns_heard turns u now k) t now
          (first_due t) (first_of_peer t 1 (length (t.speaker).sessions) None (omega arith) tt) h

      time_to_heard : (t : Turn) (now : ℕ) → IsHeard t → IsHeard (time_to setup t now)
      unfolding time_to
      time_to_heard t now h = time_turns_heard _ t now h

      -- ---- telling

      put_rest-kept : (p : ℕ) (t : Turn) (limit : Option ℕ) → IsKept t → IsKept (put_rest t p limit)
      put_rest-kept p t limit k =
          let out = within limit (rest_of t p) in
          set_rest-kept (gives t (put p out)) p (drop (length out) (rest_of t p)) (gives-kept t (put p out) k)

      formed-kept : (p : ℕ) (t : Turn) (f : Formed) → AreTold f.told → IsKept t → IsKept (formed_rest t p f)
      formed-kept p t f are k =
          let old = ((k.routes).each p) in
          let tables = ((t.speaker).routing).tables in
          let x : Tables = record (tables_at t p) { told = f.told } in
          let new : AreSound x = record { adjin = old.adjin; adv = old.adv; told = are } in
          record {
            routes = record {
              best = (k.routes).best;
              each = λ r. part_all AreSound tables (p - 1) (r - 1) x no_tables new ((k.routes).each r);
              told_is = refl;
              long = length-set tables (p - 1) x ∙ (k.routes).long;
            };
            waits = k.waits;
            sessions = k.sessions;
            rests = length-set (t.speaker).rests (p - 1) f.message ∙ k.rests;
          }

      emit_turns-kept : (rule : Packing) (p turns : ℕ) (t : Turn) (limit : Option ℕ) → IsKept t
          → IsKept (emit_turns rule turns t p limit)
      emit_turns-kept rule p turns t limit k =
          emit_turns-by IsKept rule p (put_rest-kept p)
          (λ u f none is k. formed-kept p u f
          (form_tells rule (tables_at u p).adv (tables_at u p).told f ((k.routes).each p).adv ((k.routes).each p).told
          is).told_is k) turns t limit k

      if_kept : (b : Bool) (t u : Turn) → IsKept t → IsKept u → IsKept (if b then t else u)
      if_kept true t u h k = h
      if_kept false t u h k = k

      emit-kept : (rule : Packing) (p : ℕ) (t : Turn) (limit : Option ℕ) → IsKept t → IsKept (emit rule t p limit)
      unfolding emit
      emit-kept rule p t limit k =
          let turns = 2 + 2 * length (pending (tables_at t p).adv (tables_at t p).told) in
          if_kept (is_up (t.speaker).sessions p) (emit_turns rule turns t p limit) t
          (emit_turns-kept rule p turns t limit k) k

      -- the peer is being told, by the sessions as they are
      record IsTelling (sessions : List Owned) (t : Turn) : Type 0 where
        pub kept : IsKept t
        pub same : (t.speaker).sessions ≡ sessions
        pub tells : Tells (bytes_of t ++ rest_of t q) (tables_at t q).told

      fits_rests : (t : Turn) → IsKept t → q - 1 < length (t.speaker).rests
      fits_rests t k = omega (arith, k.rests, some_q, last_q)

      put_rest-telling : (sessions : List Owned) (t : Turn) (limit : Option ℕ) → IsTelling sessions t
          → IsTelling sessions (put_rest t q limit)
      put_rest-telling sessions t limit k =
          let rest = rest_of t q in
          let out = within limit rest in
          let left = drop (length out) rest in
          let u = put_rest t q limit in
          let whole : bytes_of u ++ rest_of u q ≡ bytes_of t ++ rest =
          ap (λ (x : List ℕ). bytes_of u ++ x) (get_or-set_same (t.speaker).rests (q - 1) left [] (fits_rests t k.kept))
          ∙ ap (λ (x : List ℕ). x ++ left) (sent-put t out)
          ∙ append_assoc (bytes_of t) out left
          ∙ ap (λ (x : List ℕ). bytes_of t ++ x) (within-drop limit rest) in
          record {
            kept = put_rest-kept q t limit k.kept;
            same = k.same;
            tells = subst (λ (x : List ℕ). Tells x (tables_at t q).told) (sym whole) k.tells;
          }

      formed-telling : (rule : Packing) (sessions : List Owned) (t : Turn) (f : Formed) → rest_of t q ≡ []
          → form rule (tables_at t q).adv (tables_at t q).told ≡ Some f → IsTelling sessions t
          → IsTelling sessions (formed_rest t q f)
      formed-telling rule sessions t f none is k =
          let routes = (k.kept).routes in
          let old = tables_at t q in
          let x : Tables = record old { told = f.told } in
          let u = formed_rest t q f in
          let message = form_tells rule old.adv old.told f (routes.each q).adv (routes.each q).told is in
          let fits : q - 1 < length ((t.speaker).routing).tables = omega (arith, routes.long, some_q, last_q) in
          let told : (tables_at u q).told ≡ f.told =
          ap (λ (y : Tables). y.told)
          (get_or-set_same ((t.speaker).routing).tables (q - 1) x no_tables fits) in
          let rest : rest_of u q ≡ f.message =
          get_or-set_same (t.speaker).rests (q - 1) f.message [] (fits_rests t k.kept) in
          let earlier : Tells (bytes_of t) old.told =
          subst (λ (s : List ℕ). Tells s old.told)
          (ap (λ (r : List ℕ). bytes_of t ++ r) none ∙ append-nil (bytes_of t)) k.tells in
          let later = message.tells (bytes_of t) earlier in
          record {
            kept = formed-kept q t f message.told_is k.kept;
            same = k.same;
            tells =
                subst (λ (y : Sections). Tells (bytes_of u ++ rest_of u q) y) (sym told)
                (subst (λ (r : List ℕ). Tells (bytes_of t ++ r) f.told) (sym rest) later);
          }

      if_told : (b : Bool) (t u : Turn) → (b ≡ true → IsTold t) → IsTold u → IsTold (if b then t else u)
      if_told true t u h k = h refl
      if_told false t u h k = k

      emit_own : (rule : Packing) (t : Turn) (limit : Option ℕ) → IsHeard t → IsTold (emit rule t q limit)
      unfolding emit
      emit_own rule t limit h =
          let turns = 2 + 2 * length (pending (tables_at t q).adv (tables_at t q).told) in
          let v = emit_turns rule turns t q limit in
          let sessions = (t.speaker).sessions in
          if_told (is_up sessions q) v t
          (λ is_up.
          let state = established_is (state_of t q) is_up in
          let now : Tells (bytes_of t ++ rest_of t q) (tables_at t q).told =
          subst (λ (s : State). IsToldIn s (bytes_of t) (rest_of t q) (tables_at t q).told) state h.told in
          let first : IsTelling sessions t = record { kept = h.kept; same = refl; tells = now } in
          let last = emit_turns-by (IsTelling sessions) rule q (put_rest-telling sessions)
          (formed-telling rule sessions) turns t limit first in
          let still : state_of v q ≡ Established =
          ap (λ (ss : List Owned). ((session_of ss q).session).state) last.same ∙ state in
          subst (λ (s : State). IsToldIn s (bytes_of v) (rest_of v q) (tables_at v q).told) (sym still) last.tells)
          h.told

      emit_heard : (rule : Packing) (p : ℕ) → 1 ≤ p → (t : Turn) (limit : Option ℕ) → IsHeard t
          → IsHeard (emit rule t p limit)
      emit_heard rule p some_p t limit h = record {
        kept = emit-kept rule p t limit h.kept;
        told =
            elim (cases_Bool (q == p)) [
              | inl same ↦
                  subst (λ (r : ℕ). IsTold (emit rule t r limit)) (eqb-true q p same) (emit_own rule t limit h)
              | inr other ↦
                  let apart = not_near q p some_q some_p (eqb-false q p other) in
                  subst SeenTold (sym (emit-unseen q setup p other apart rule limit t)) h.told
            ];
      }

      -- ---- an event

      -- each prefix that is known is a prefix
      known_are : IsSetup setup → (t : Turn) → IsKept t
          → AllByRecursion IsPrefix (known_prefixes setup (t.speaker).routing)
      known_are accepted t k =
          let tables = ((t.speaker).routing).tables in
          let each : (i : ℕ) → AreSound (get_or tables i no_tables) = λ i.
          let here : i + 1 - 1 ≡ i = omega arith in
          subst (λ (j : ℕ). AreSound (get_or tables j no_tables)) here ((k.routes).each (i + 1)) in
          all-append IsPrefix (setup.config).networks (flat_map (λ x. keys_of x.adjin ++ keys_of x.adv) tables)
          (AllByRecursion-All IsPrefix (setup.config).networks (accepted.0).networks)
          (keys_are tables (all_elements AreSound no_tables tables each))

      turn_heard : IsSetup setup → (rule : Packing) (t : Turn) (e : Event) → AreConfigured setup t.speaker e
          → IsInRange e → IsFreshAt e t → IsHeard t → IsHeard (turn rule setup t e)
      unfolding turn
      turn_heard accepted rule t (start p) fits is fresh h = react_heard p fits.0 t stimuli.Start [] (λ e. tt) h
      turn_heard accepted rule t (stop p) fits is fresh h = react_heard p fits.0 t stimuli.Stop [] (λ e. tt) h
      turn_heard accepted rule t (up p) fits is fresh h = react_heard p fits.0 t stimuli.LinkUp [] fresh h
      turn_heard accepted rule t (down p) fits is fresh h = react_heard p fits.0 t stimuli.LinkDown [] (λ e. tt) h
      turn_heard accepted rule t (octets p bytes) fits is fresh h = octets_in_heard p fits.0 t bytes is.0 h
      turn_heard accepted rule t (time now) fits is fresh h = time_to_heard t now h
      turn_heard accepted rule t (room p k) fits is fresh h = emit_heard rule p fits.0 t (Some k) h
      turn_heard accepted rule t (drain p) fits is fresh h = emit_heard rule p fits.0 t None h
      turn_heard accepted rule t rescan fits is fresh h =
          let sessions = (t.speaker).sessions in
          let known = known_prefixes setup (t.speaker).routing in
          routes_heard t (settle_all setup sessions (routed t) known)
          (settle_all-sound q (tables_at t q).told peers setup sessions known (known_are accepted t h.kept) (routed t)
          (h.kept).routes) h

  -- ---- a list of events

  -- what was sent in an event was sent before the next
  settled : (base : List ℕ) (t : Turn) → IsHeard base t
      → IsHeard (base ++ flat_map (octets_to q) t.outputs) (before t.speaker)
  settled base t h =
      let sent = base ++ flat_map (octets_to q) t.outputs in
      record {
        kept = record {
          routes = record {
            best = ((h.kept).routes).best;
            each = ((h.kept).routes).each;
            told_is = refl;
            long = ((h.kept).routes).long;
          };
          waits = (h.kept).waits;
          sessions = (h.kept).sessions;
          rests = (h.kept).rests;
        };
        told =
            subst (λ (x : List ℕ). IsToldIn (state_of t q) x (rest_of t q) (tables_at t q).told)
            (sym (append-nil sent)) h.told;
      }

  begins_connect : (s : Speaker) (e : Event) → begins s q e ≡ true → is_connect (state_in s q) ≡ true
  begins_connect s (up p) is = (and_parts (q == p) (is_connect (state_in s q)) is).1
  begins_connect s (start p) is = absurd (cc is)
  begins_connect s (stop p) is = absurd (cc is)
  begins_connect s (down p) is = absurd (cc is)
  begins_connect s (octets p bytes) is = absurd (cc is)
  begins_connect s (time now) is = absurd (cc is)
  begins_connect s (room p k) is = absurd (cc is)
  begins_connect s (drain p) is = absurd (cc is)
  begins_connect s rescan is = absurd (cc is)

  begun_by : (base : List ℕ) (s : Speaker) (b : Bool) → (b ≡ true → is_connect (state_in s q) ≡ true)
      → IsHeard base (before s) → IsHeard (if b then [] else base) (before s)
  begun_by base s true connects h = record {
    kept = h.kept;
    told =
        connect_any (state_in s q) (base ++ []) [] (rest_in s q) (tables_of s.routing q).told (connects refl) h.told;
  }
  begun_by base s false connects h = h

  fresh_at : (base : List ℕ) (s : Speaker) (e : Event)
      → IsFreshAt (if begins s q e then [] else base) e (before s)
  fresh_at base s (up p) = λ same.
      let earlier : List ℕ = if begins s q (up p) then [] else base in
      elim (cases_Bool (is_connect (state_in s q))) [
        | inl connect ↦
            let begun : begins s q (up p) ≡ true = rw (same, connect) refl in
            let none : earlier ≡ [] = ap (λ (b : Bool). let x : List ℕ = if b then [] else base in x) begun in
            fresh_nil (state_in s q) (earlier ++ []) (ap (λ (x : List ℕ). x ++ []) none)
        | inr other ↦ fresh_not (state_in s q) (earlier ++ []) other
      ]
  fresh_at base s (start p) = tt
  fresh_at base s (stop p) = tt
  fresh_at base s (down p) = tt
  fresh_at base s (octets p bytes) = tt
  fresh_at base s (time now) = tt
  fresh_at base s (room p k) = tt
  fresh_at base s (drain p) = tt
  fresh_at base s rescan = tt

  module _ (some_q : 1 ≤ q) (last_q : q ≤ peers) (accepted : IsSetup setup) (rule : Packing) where
    -- an event keeps it
    event_heard : (base : List ℕ) (s : Speaker) (e : Event) → AreConfigured setup s e → IsInRange e
        → IsHeard base (before s)
        → let h = event rule setup s e in let earlier = if begins s q e then [] else base in
        IsHeard (earlier ++ flat_map (octets_to q) h.outputs) (before h.speaker)
    unfolding event
    event_heard base s e fits is h =
        let earlier = if begins s q e then [] else base in
        let begun = begun_by base s (begins s q e) (begins_connect s e) h in
        settled earlier (turn rule setup (before s) e)
        (turn_heard earlier some_q last_q accepted rule (before s) e fits is (fresh_at base s e) begun)

    history_heard : (es : List Event) (base : List ℕ) (s : Speaker) → AreEvents rule setup s es
        → IsHeard base (before s)
        → IsHeard (sent_since rule setup q s base es) (before (history rule setup s es).speaker)
    unfolding history
    history_heard [] base s events h = h
    history_heard (e ∷ es) base s events h =
        let x = event rule setup s e in
        let earlier = if begins s q e then [] else base in
        history_heard es (earlier ++ flat_map (octets_to q) x.outputs) x.speaker events.2
        (event_heard base s e events.0 events.1 h)

    -- the speaker at the start
    start_heard : IsHeard [] (before (start_of setup))
    start_heard =
        let config = setup.config in
        let t = before (start_of setup) in
        let idle : state_of t q ≡ Idle =
        map_all (λ (o : Owned). (o.session).state ≡ Idle) _ _ config.peers (q - 1) refl refl in
        let none : rest_of t q ≡ [] = map_all (λ (s : List ℕ). s ≡ []) [] [] config.peers (q - 1) refl refl in
        let silent : (tables_at t q).told ≡ [] =
        map_all (λ (x : Tables). x.told ≡ []) no_tables no_tables config.peers (q - 1) refl refl in
        record {
          kept = record {
            routes = record {
              best =
                  best_are _ config.networks []
                  (AllByRecursion-All IsPrefix config.networks (accepted.0).networks) tt;
              each = λ p. map_all AreSound no_tables no_tables config.peers (p - 1) no_tables_sound no_tables_sound;
              told_is = refl;
              long = length-map config.peers (λ _. no_tables);
            };
            waits = λ p. map_all (λ s. AreOctets s) [] [] config.peers (p - 1) tt tt;
            sessions = length-map config.peers (λ _. _);
            rests = length-map config.peers (λ _. []);
          };
          told =
              subst (λ (s : State). IsToldIn s ([] ++ []) (rest_of t q) (tables_at t q).told) (sym idle)
              (none, silent);
        }

-- what an Established peer hears is what it was told
pub heard_is_told_holds : heard_is_told
heard_is_told_holds rule setup es p accepted events peer is_up =
    let h = history_heard setup p peer.0 peer.1 accepted rule es [] (start_of setup) events
    (start_heard setup p peer.0 peer.1 accepted rule) in
    let s = (history rule setup (start_of setup) es).speaker in
    let bytes = sent_since rule setup p (start_of setup) [] es in
    let rest = rest_in s p in
    let told = (tables_of s.routing p).told in
    let tells : Tells (bytes ++ [] ++ rest) told =
    subst (λ (state : State). IsToldIn state (bytes ++ []) rest told)
    (established_is (state_in s p) is_up) h.told in
    heard-tells (bytes ++ rest) told (subst (λ (x : List ℕ). Tells (x ++ rest) told) (append-nil bytes) tells)

-- the tables of a peer of a reached speaker
pub reached_sound : (rule : Packing) (setup : Setup) (s : Speaker) (p : ℕ) → IsSetup setup → IsReached rule setup s
    → IsPeer setup p → AreSound (tables_of s.routing p)
reached_sound rule setup s p accepted reached peer =
    let h = history_heard setup p peer.0 peer.1 accepted rule reached.0 [] (start_of setup) reached.1
    (start_heard setup p peer.0 peer.1 accepted rule) in
    subst (λ (x : Speaker). AreSound (tables_of x.routing p)) (sym reached.2) (((h.kept).routes).each p)

-- if nothing is pending, what was told is what is advertised
pub told_is_advertised_holds : told_is_advertised
told_is_advertised_holds rule setup s p accepted reached peer none =
    let t = tables_of s.routing p in
    let sound = reached_sound rule setup s p accepted reached peer in
    told-adv t.adv t.told (sound.adv).rising (sound.told).rising none

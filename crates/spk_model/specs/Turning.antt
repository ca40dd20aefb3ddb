-- What an event does: the half of the speaker that keeps sessions, timers, and what waits to be read or sent, over the
-- half that keeps routes (after RFC 4271, sections 6 and 8.2.2; the events themselves and how octets leave in parts
-- are this project's own).
use Rattle.std.specs.Prelude.{ℕ, zero, suc, ◌+◌, ◌-◌, ◌*◌, Bool, true, false, List, [], ◌∷◌, ◌++◌, length, map}
use Rattle.std.specs.Prelude.{flat_map, fold, take, drop, Option, Some, None, nat_lt, nat_le, ◌==◌, if◌then◌else◌}
use Rattle.std.specs.Option.{option_map}
use Rattle.std.specs.Map.{keys_of}
use Rattle.std.specs.List.{slice_index_or, slice_set}
use Rattle.xb_words.specs.Table.{with_value}
use Rattle.xb_domain.specs.declared.output.Packing.{Packing}
use Rattle.xb_domain.specs.Outputs.{Output, came_up, went_down, sent}
use Rattle.xb_domain.specs.Events.{Event, start, stop, up, down, octets, time, room, drain, rescan}
use Rattle.xb_values.specs.Prefixes.{Prefix, prefix_cmp}
use Rattle.xb_wire.specs.declared.numbers.TheConstants.{OPEN, UPDATE, NOTIFICATION}
use Rattle.xb_wire.specs.Messages.{Notification, message_size, front_fault, message_kind, message_body}
use Rattle.bgp_attr.specs.Paths.{width_of}
use Rattle.bgp_check.specs.Judgement.{judge}
use Rattle.bgp_open.specs.Opens.{judge_open4, open_seen4}
use Rattle.bgp_write.specs.Pending.{Formed, form, pending}
use Rattle.bgp_write.specs.Written.{wide_open_message, keepalive_message, notice_message}
use Rattle.bgp_fsm.specs.declared.State.{State}
use Rattle.bgp_fsm.specs.declared.State.TheVariants.{OpenSent, Established}
use Rattle.bgp_fsm.specs.declared.Stimulus.{Stimulus}
use Rattle.bgp_fsm.specs.declared.Stimulus.TheVariants as stimuli
use Rattle.bgp_fsm.specs.declared.Act.{Act}
use Rattle.bgp_fsm.specs.declared.Act.TheVariants as acts
use Rattle.bgp_fsm.specs.declared.Timer.{Timer}
use Rattle.bgp_fsm.specs.declared.Timer.TheVariants as timers
use Rattle.bgp_fsm.specs.Sessions.{Owned, row, is_live, due, start_session}
use Rattle.xbgp_maps.specs.Mappings.{empty_maps}
use Rattle.xbgp_manifest.specs.Manifests.{entry_shapes}
use Rattle.spk_model.specs.declared.host.Setup.{Setup}
use Rattle.spk_model.specs.Sources.{entry_of, local_route, session_of, is_up, is_wide, peer_numbers}
use Rattle.spk_model.specs.Choosing.{Trace}
use Rattle.spk_model.specs.Routing.{Routing, Routed, Tables, no_tables, tables_of, with_tables}
use Rattle.spk_model.specs.Routing.{settle_all, export_all, update, lose}

-- a speaker between two events
pub record Speaker : Type 0 where
  -- in seconds
  pub clock : ℕ
  -- of each peer
  pub sessions : List Owned
  -- for each peer what is left of a message that was sent in part
  pub rests : List (List ℕ)
  -- for each peer the octets that came and were not taken yet
  pub waits : List (List ℕ)
  pub routing : Routing

-- a speaker within an event: what it gave so far, and the chain runs so far
pub record Turn : Type 0 where
  pub speaker : Speaker
  pub outputs : List Output
  pub trace : Trace

-- what is left of a peer's message that was sent in part
abbrev pub rest_of : Turn → ℕ → List ℕ
rest_of t p = slice_index_or (t.speaker).rests (p - 1) []

-- something else is left of a message
abbrev pub set_rest : Turn → ℕ → List ℕ → Turn
set_rest t p piece = record t { speaker = record t.speaker { rests = slice_set (t.speaker).rests (p - 1) piece } }

-- the octets that came from a peer and were not taken yet
abbrev pub wait_of : Turn → ℕ → List ℕ
wait_of t p = slice_index_or (t.speaker).waits (p - 1) []

-- other octets wait
abbrev pub set_wait : Turn → ℕ → List ℕ → Turn
set_wait t p piece = record t { speaker = record t.speaker { waits = slice_set (t.speaker).waits (p - 1) piece } }

-- the session of a peer
abbrev pub session_at : Turn → ℕ → Owned
session_at t p = session_of (t.speaker).sessions p

-- a peer gets another session
abbrev pub set_session : Turn → ℕ → Owned → Turn
set_session t p s = record t { speaker = record t.speaker { sessions = slice_set (t.speaker).sessions (p - 1) s } }

-- the state of a peer's session
abbrev pub state_of : Turn → ℕ → State
state_of t p = ((session_at t p).session).state

-- the tables of a peer
abbrev pub tables_at : Turn → ℕ → Tables
tables_at t p = tables_of (t.speaker).routing p

-- the clock is set
abbrev pub set_clock : Turn → ℕ → Turn
set_clock t now = record t { speaker = record t.speaker { clock = now } }

-- outputs are given
abbrev pub gives : Turn → List Output → Turn
gives t os = record t { outputs = t.outputs ++ os }

-- octets leave for a peer, if there are any
abbrev pub put : ℕ → List ℕ → List Output
put p [] = []
put p (b ∷ piece) = sent p (b ∷ piece) ∷ []

-- the routes, for a step of the other half
abbrev pub routed : Turn → Routed
routed t = record { routing = (t.speaker).routing; trace = t.trace }

-- the routes after a step of the other half
abbrev pub with_routes : Turn → Routed → Turn
with_routes t r = record t { speaker = record t.speaker { routing = r.routing }; trace = r.trace }

module _ (setup : Setup) where
  -- ---- acts of a session

  -- a message that is no UPDATE leaves at once, after the rest of an UPDATE that was sent in part
  unfoldable pub control : Turn → ℕ → List ℕ → Turn
  control t p piece = gives (set_rest (gives t (put p (rest_of t p))) p []) (put p piece)

  -- an act, with the data of its NOTIFICATION (RFC 4271, sections 8.2.2 and 6)
  unfoldable pub act : ℕ → List ℕ → Turn → Act → Turn
  act p extra t acts.SendOpen =
      control t p
      (wide_open_message ((setup.config).local).asn (setup.config).hold ((setup.config).local).id)
  act p extra t acts.SendKeepalive = control t p keepalive_message
  act p extra t (acts.SendNotice code subcode) = control t p (notice_message code subcode extra)
  act p extra t acts.Up =
      with_routes (gives t (came_up p ∷ [])) (export_all setup (t.speaker).sessions (routed t) p)
  act p extra t acts.Down =
      with_routes (gives t (went_down p ∷ [])) (lose setup (t.speaker).sessions (routed t) p)
  act p extra t acts.Close = set_wait (set_rest t p []) p []

  -- a stimulus, with the data of a NOTIFICATION that it causes
  unfoldable pub react : Turn → ℕ → Stimulus → List ℕ → Turn
  react t p stimulus extra =
      let s = session_at t p in
      let r = row s.own s.session (t.speaker).clock stimulus in
      fold (act p extra) (set_session t p (record s { session = r.session })) r.acts

  -- ---- messages

  -- what came has a fault, for which the peer gets a NOTIFICATION (RFC 4271, section 6)
  unfoldable pub refuse : Turn → ℕ → Notification → Turn
  refuse t p n = react t p (stimuli.Fault n.code n.subcode) n.extra

  -- an OPEN with its first fault, if it has one
  abbrev pub judged_open : Turn → ℕ → List ℕ → Option Notification → Turn
  judged_open t p body None =
      react t p (stimuli.OpenGood (open_seen4 body).hold (open_seen4 body).id (open_seen4 body).wide) []
  judged_open t p body (Some n) = refuse t p n

  -- an OPEN is judged in OpenSent alone
  unfoldable pub open_in : Turn → ℕ → List ℕ → State → Turn
  open_in t p body OpenSent = judged_open t p body (judge_open4 body (entry_of setup.config p).asn)
  open_in t p body other = react t p stimuli.OpenLate []

  -- the routes of an UPDATE
  abbrev pub taken_update : Turn → ℕ → List ℕ → Turn
  taken_update t p body = with_routes t (update setup (t.speaker).sessions (t.speaker).clock (routed t) p body)

  -- an UPDATE with its first fault, if it has one
  abbrev pub judged_update : Turn → ℕ → List ℕ → Option Notification → Turn
  judged_update t p body None = taken_update (react t p stimuli.Update []) p body
  judged_update t p body (Some n) = refuse t p n

  -- an UPDATE is judged in Established alone, in the session's form
  unfoldable pub update_in : Turn → ℕ → List ℕ → State → Turn
  update_in t p body Established =
      judged_update t p body (judge (width_of (is_wide (t.speaker).sessions p)) body)
  update_in t p body other = react t p stimuli.Update []

  -- a message came, of one of four types
  unfoldable pub message_in : Turn → ℕ → List ℕ → Turn
  message_in t p message =
      if message_kind message == OPEN then open_in t p (message_body message) (state_of t p)
      else if message_kind message == UPDATE then update_in t p (message_body message) (state_of t p)
      else if message_kind message == NOTIFICATION then react t p stimuli.Notified []
      else react t p stimuli.Keepalive []

  -- the message at the front of what waits is taken, and then the rest; a fault there is refused
  abbrev pub front_in : (Turn → Turn) → Turn → ℕ → Option ℕ → Option Notification → Turn
  front_in rest t p (Some n) fault =
      rest (message_in (set_wait t p (drop n (wait_of t p))) p (take n (wait_of t p)))
  front_in rest t p None None = t
  front_in rest t p None (Some fault) = refuse t p fault

  -- a step is done, or nothing
  abbrev pub when_true : Bool → (Turn → Turn) → Turn → Turn
  when_true true go t = go t
  when_true false go t = t

  -- at most some messages are taken, as long as the session is live
  unfoldable pub take_turns : ℕ → Turn → ℕ → Turn
  take_turns zero t p = t
  take_turns (suc turns) t p =
      when_true (is_live (state_of t p))
      (λ u. front_in (λ v. take_turns turns v p) u p (message_size (wait_of u p)) (front_fault (wait_of u p))) t

  -- octets came: all messages that are whole are taken, each of which has at least one octet; octets for a session that
  -- is not live are dropped
  unfoldable pub octets_in : Turn → ℕ → List ℕ → Turn
  octets_in t p bytes =
      if is_live (state_of t p)
      then take_turns (length (wait_of t p ++ bytes)) (set_wait t p (wait_of t p ++ bytes)) p
      else t

-- ---- the clock

-- a timer that is due: when, and whose
pub record Due : Type 0 where
  pub at : ℕ
  pub peer : ℕ
  pub timer : Timer

-- the earlier of two, the first if both are due at one time
abbrev pub earlier_due : Option Due → Option Due → Option Due
earlier_due None b = b
earlier_due (Some a) None = Some a
earlier_due (Some a) (Some b) = if nat_lt b.at a.at then Some b else Some a

-- the timer of a peer that is due first
abbrev pub due_of : Turn → ℕ → Option Due
due_of t p = option_map (λ d. record { at = d.0; peer = p; timer = d.1 }) (due (session_at t p).session)

-- the first timer of all, by time and then by peer
abbrev pub first_due : Turn → Option Due
first_due t = fold (λ a p. earlier_due a (due_of t p)) None (peer_numbers (t.speaker).sessions)

-- what a timer is to its session
abbrev pub stimulus_of : Timer → Stimulus
stimulus_of timers.Hold = stimuli.HoldDue
stimulus_of timers.Keepalive = stimuli.KeepaliveDue

module _ (setup : Setup) where
  -- a timer fires, with the clock at its due time, and then the rest; if it is due later, the clock is set
  abbrev pub fire_in_time : (Turn → Turn) → Turn → ℕ → Due → Bool → Turn
  fire_in_time rest t now d true = rest (react setup (set_clock t d.at) d.peer (stimulus_of d.timer) [])
  fire_in_time rest t now d false = set_clock t now

  -- the same of the first timer, if any is set
  abbrev pub fire_first : (Turn → Turn) → Turn → ℕ → Option Due → Turn
  fire_first rest t now None = set_clock t now
  fire_first rest t now (Some d) = fire_in_time rest t now d (nat_le d.at now)

  -- at most some timers fire that are due at a time or before, each at its due time; then the clock is set
  unfoldable pub time_turns : ℕ → Turn → ℕ → Turn
  time_turns zero t now = set_clock t now
  time_turns (suc turns) t now = fire_first (λ u. time_turns turns u now) t now (first_due t)

  -- the clock becomes a time: all timers that are due by then fire; in each second each peer's two fire once at most
  unfoldable pub time_to : Turn → ℕ → Turn
  time_to t now = time_turns (2 * length (t.speaker).sessions * (now + 1 - (t.speaker).clock)) t now

-- ---- telling a peer (the messages are RFC 4271's, section 4.3; in which parts they leave is this project's own)

-- the front of octets, up to a limit if there is one
abbrev pub within : Option ℕ → List ℕ → List ℕ
within None piece = piece
within (Some k) piece = take k piece

-- a limit after some octets left
abbrev pub less : Option ℕ → ℕ → Option ℕ
less limit n = option_map (λ k. k - n) limit

-- no more octets may leave
abbrev pub is_spent : Option ℕ → Bool
is_spent None = false
is_spent (Some k) = k == 0

-- as much of the rest leaves as the limit allows
abbrev pub put_rest : Turn → ℕ → Option ℕ → Turn
put_rest t p limit =
    let out = within limit (rest_of t p) in
    set_rest (gives t (put p out)) p (drop (length out) (rest_of t p))

-- a message is formed: it is the rest, and the peer counts as told
abbrev pub formed_rest : Turn → ℕ → Formed → Turn
formed_rest t p f =
    let routing = with_tables (t.speaker).routing p (record (tables_at t p) { told = f.told }) in
    set_rest (record t { speaker = record t.speaker { routing = routing } }) p f.message

-- the next message is formed, and then the others, if there is one
abbrev pub form_next : (Turn → Turn) → Turn → ℕ → Option Formed → Turn
form_next rest t p None = t
form_next rest t p (Some f) = rest (formed_rest t p f)

-- the rest leaves if there is one, and else a message is formed
abbrev pub rest_or_form : Packing → (Turn → Option ℕ → Turn) → Turn → ℕ → Option ℕ → Bool → Turn
rest_or_form rule rest t p limit true = rest (put_rest t p limit) (less limit (length (rest_of t p)))
rest_or_form rule rest t p limit false =
    form_next (λ u. rest u limit) t p (form rule (tables_at t p).adv (tables_at t p).told)

-- a step is done, or nothing if no more octets may leave
abbrev pub unless_spent : Bool → (Turn → Turn) → Turn → Turn
unless_spent true go t = t
unless_spent false go t = go t

-- at most some steps: the rest leaves, then messages are formed and leave, until the limit is spent or nothing is left
unfoldable pub emit_turns : Packing → ℕ → Turn → ℕ → Option ℕ → Turn
emit_turns rule zero t p limit = t
emit_turns rule (suc turns) t p limit =
    unless_spent (is_spent limit)
    (λ u. rest_or_form rule (λ v l. emit_turns rule turns v p l) u p limit (nat_lt 0 (length (rest_of u p)))) t

-- what is left and what is pending leaves for an Established peer, up to a limit; each formed message tells one pending
-- prefix at least, and takes two steps
unfoldable pub emit : Packing → Turn → ℕ → Option ℕ → Turn
emit rule t p limit =
    if is_up (t.speaker).sessions p
    then emit_turns rule (2 + 2 * length (pending (tables_at t p).adv (tables_at t p).told)) t p limit
    else t

-- ---- all events

-- each prefix that has a candidate or is advertised
abbrev pub known_prefixes : Setup → Routing → List Prefix
known_prefixes setup r = (setup.config).networks ++ flat_map (λ t. keys_of t.adjin ++ keys_of t.adv) r.tables

-- what an event does
unfoldable pub turn : Packing → Setup → Turn → Event → Turn
turn rule setup t (start p) = react setup t p stimuli.Start []
turn rule setup t (stop p) = react setup t p stimuli.Stop []
turn rule setup t (up p) = react setup t p stimuli.LinkUp []
turn rule setup t (down p) = react setup t p stimuli.LinkDown []
turn rule setup t (octets p bytes) = octets_in setup t p bytes
turn rule setup t (time now) = time_to setup t now
turn rule setup t (room p k) = emit rule t p (Some k)
turn rule setup t (drain p) = emit rule t p None
turn rule setup t rescan =
    with_routes t
    (settle_all setup (t.speaker).sessions (routed t) (known_prefixes setup (t.speaker).routing))

-- a speaker before an event
abbrev pub before : Speaker → Turn
before s = record { speaker = s; outputs = []; trace = [] }

-- the speaker after events, and what they gave
pub record Happened : Type 0 where
  pub speaker : Speaker
  pub outputs : List Output

-- one event
unfoldable pub event : Packing → Setup → Speaker → Event → Happened
event rule setup s e =
    let t = turn rule setup (before s) e in
    record { speaker = t.speaker; outputs = t.outputs }

-- the chain runs of an event, in order
unfoldable pub trace : Packing → Setup → Speaker → Event → Trace
trace rule setup s e = (turn rule setup (before s) e).trace

-- a list of events, one after another
unfoldable pub history : Packing → Setup → Speaker → List Event → Happened
history rule setup s [] = record { speaker = s; outputs = [] }
history rule setup s (e ∷ es) =
    let first = event rule setup s e in
    let others = history rule setup first.speaker es in
    record { speaker = others.speaker; outputs = first.outputs ++ others.outputs }

-- the routes at the start: the local networks are best, and there are no faults and no entries of maps
abbrev pub start_routing : Setup → Routing
start_routing setup = record {
  best =
      fold (λ b p. with_value prefix_cmp b p (record { source = 0; route = local_route setup.config })) []
      (setup.config).networks;
  engine = record { maps = empty_maps (entry_shapes (setup.manifest).maps); faults = [] };
  tables = map (λ _. no_tables) (setup.config).peers;
}

-- the speaker at the start: the clock is 0, all sessions are Idle, and nothing waits
abbrev pub start_of : Setup → Speaker
start_of setup = record {
  clock = 0;
  sessions = map (λ _. record { own = (setup.config).hold; session = start_session }) (setup.config).peers;
  rests = map (λ _. []) (setup.config).peers;
  waits = map (λ _. []) (setup.config).peers;
  routing = start_routing setup;
}

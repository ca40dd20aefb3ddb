-- The session machine, by its rows (after RFC 4271, sections 8.2.2 and 10, simplified: no Active state, no
-- ConnectRetry timer, and fixed first values of the timers). What a session does is `row`, by its state and then by
-- the stimulus; the definitions before it are the rows' parts, and `due` says which timer is due first.
use Rattle.std.specs.Prelude.{◌≡◌, ℕ, ◌+◌, ◌/◌, min, Bool, true, false, List, [], ◌∷◌, ◌++◌, Option, Some, None, nat_le}
use Rattle.std.specs.Prelude.{◌==◌, if◌then◌else◌}
use Rattle.bgp_fsm.specs.declared.State.{State}
use Rattle.bgp_fsm.specs.declared.State.TheVariants.{Idle, Connect, OpenSent, OpenConfirm, Established}
use Rattle.bgp_fsm.specs.declared.Stimulus.{Stimulus}
use Rattle.bgp_fsm.specs.declared.Stimulus.TheVariants.{Start, Stop, LinkUp, LinkDown, OpenGood, OpenLate, Keepalive}
use Rattle.bgp_fsm.specs.declared.Stimulus.TheVariants.{Update, Notified, Fault, HoldDue, KeepaliveDue}
use Rattle.bgp_fsm.specs.declared.Act.{Act}
use Rattle.bgp_fsm.specs.declared.Act.TheVariants.{SendOpen, SendKeepalive, SendNotice, Up, Down, Close}
use Rattle.bgp_fsm.specs.declared.Timer.{Timer}
use Rattle.bgp_fsm.specs.declared.Timer.TheVariants as timers
use Rattle.bgp_fsm.specs.declared.session.TheConstants.{OPEN_WAIT}
use Rattle.xb_wire.specs.declared.numbers.TheConstants.{CEASE, FSM_ERROR, HOLD_TIMER_EXPIRED, UNSPECIFIC}

-- the state, the due times of both timers, the hold time in use, the peer's identifier, and whether AS numbers have
-- four octets (RFC 6793, section 3)
pub record Session : Type 0 where
  pub state : State
  pub hold_at : Option ℕ
  pub keepalive_at : Option ℕ
  pub hold : ℕ
  pub id : ℕ
  pub wide : Bool

-- what a session does, and the session after it
pub record Reaction : Type 0 where
  pub acts : List Act
  pub session : Session

-- a session with the hold time that its speaker is configured with
pub record Owned : Type 0 where
  pub own : ℕ
  pub session : Session

-- a session before its first start: idle, with no timer set
abbrev pub start_session : Session
start_session = record { state = Idle; hold_at = None; keepalive_at = None; hold = 0; id = 0; wide = false }

-- the states in which messages of the peer are read (this project's own word)
abbrev pub is_live : State → Bool
is_live Idle = false
is_live Connect = false
is_live OpenSent = true
is_live OpenConfirm = true
is_live Established = true

-- when a timer that is set now is due, `wait` seconds later; None if the hold time is 0 (RFC 4271, section 4.2)
abbrev pub due_in : ℕ → ℕ → ℕ → Option ℕ
due_in hold now wait = if hold == 0 then None else Some (now + wait)

-- nothing is done
abbrev pub stay : Session → Reaction
stay s = record { acts = []; session = s }

-- the session goes to another state, and does nothing else
abbrev pub enter : State → Session → Reaction
enter state s = record { acts = []; session = record s { state = state } }

-- what a session does when it is closed: it goes down if it was up
abbrev pub down_if_up : State → List Act
down_if_up Established = Down ∷ []
down_if_up Idle = []
down_if_up Connect = []
down_if_up OpenSent = []
down_if_up OpenConfirm = []

-- the session is closed after some acts, with both timers off
abbrev pub close : List Act → Session → Reaction
close first s = record {
  acts = first ++ down_if_up s.state ++ Close ∷ [];
  session = record s { state = Idle; hold_at = None; keepalive_at = None };
}

-- the session is closed with a NOTIFICATION
abbrev pub close_with : ℕ → ℕ → Session → Reaction
close_with code subcode s = close (SendNotice code subcode ∷ []) s

-- an OPEN is sent, and the peer's is awaited (RFC 4271, section 8.2.2)
abbrev pub open_sent : ℕ → Session → Reaction
open_sent now s = record {
  acts = SendOpen ∷ [];
  session = record s { state = OpenSent; hold_at = Some (now + OPEN_WAIT); keepalive_at = None };
}

-- the hold time in use is the smaller of the two, and a KEEPALIVE is due after a third of it (RFC 4271, sections 4.2
-- and 4.4)
abbrev pub open_confirm : ℕ → ℕ → ℕ → Bool → ℕ → Session → Reaction
open_confirm own hold id wide now s =
    let h = min own hold in
    record {
      acts = SendKeepalive ∷ [];
      session = record {
        state = OpenConfirm;
        hold_at = due_in h now h;
        keepalive_at = due_in h now (h / 3);
        hold = h;
        id = id;
        wide = wide;
      };
    }

-- the hold timer is set anew
abbrev pub held_on : ℕ → Session → Session
held_on now s = record s { hold_at = due_in s.hold now s.hold }

-- the session comes up
abbrev pub established : ℕ → Session → Reaction
established now s = record { acts = Up ∷ []; session = record (held_on now s) { state = Established } }

-- a KEEPALIVE is sent, and its timer set anew
abbrev pub keepalive_sent : ℕ → Session → Reaction
keepalive_sent now s = record {
  acts = SendKeepalive ∷ [];
  session = record s { keepalive_at = due_in s.hold now (s.hold / 3) };
}

-- the rows of Idle
abbrev pub idle_row : Session → Stimulus → Reaction
idle_row s Start = enter Connect s
idle_row s other = stay s

-- the rows of Connect
abbrev pub connect_row : ℕ → Session → Stimulus → Reaction
connect_row now s Stop = enter Idle s
connect_row now s LinkUp = open_sent now s
connect_row now s other = stay s

-- the rows that all live states share (RFC 4271, sections 6.5 and 6.7 for the codes; a fault has its own)
abbrev pub live_row : Session → Stimulus → Reaction
live_row s Stop = close_with CEASE UNSPECIFIC s
live_row s LinkDown = close [] s
live_row s Notified = close [] s
live_row s (Fault code subcode) = close_with code subcode s
live_row s HoldDue = close_with HOLD_TIMER_EXPIRED UNSPECIFIC s
live_row s other = stay s

-- the rows of OpenSent (RFC 4271, section 6.6 for the code)
abbrev pub open_sent_row : ℕ → ℕ → Session → Stimulus → Reaction
open_sent_row own now s (OpenGood hold id wide) = open_confirm own hold id wide now s
open_sent_row own now s Keepalive = close_with FSM_ERROR UNSPECIFIC s
open_sent_row own now s Update = close_with FSM_ERROR UNSPECIFIC s
open_sent_row own now s other = live_row s other

-- the rows of OpenConfirm
abbrev pub open_confirm_row : ℕ → Session → Stimulus → Reaction
open_confirm_row now s Keepalive = established now s
open_confirm_row now s (OpenGood hold id wide) = close_with FSM_ERROR UNSPECIFIC s
open_confirm_row now s OpenLate = close_with FSM_ERROR UNSPECIFIC s
open_confirm_row now s Update = close_with FSM_ERROR UNSPECIFIC s
open_confirm_row now s KeepaliveDue = keepalive_sent now s
open_confirm_row now s other = live_row s other

-- the rows of Established
abbrev pub established_row : ℕ → Session → Stimulus → Reaction
established_row now s Keepalive = stay (held_on now s)
established_row now s Update = stay (held_on now s)
established_row now s (OpenGood hold id wide) = close_with FSM_ERROR UNSPECIFIC s
established_row now s OpenLate = close_with FSM_ERROR UNSPECIFIC s
established_row now s KeepaliveDue = keepalive_sent now s
established_row now s other = live_row s other

-- the rows of a state
abbrev pub row_at : State → ℕ → Session → ℕ → Stimulus → Reaction
row_at Idle own s now stimulus = idle_row s stimulus
row_at Connect own s now stimulus = connect_row now s stimulus
row_at OpenSent own s now stimulus = open_sent_row own now s stimulus
row_at OpenConfirm own s now stimulus = open_confirm_row now s stimulus
row_at Established own s now stimulus = established_row now s stimulus

-- what a session does at a stimulus, by the speaker's configured hold time and the time
unfoldable pub row : ℕ → Session → ℕ → Stimulus → Reaction
row own s now stimulus = row_at s.state own s now stimulus

-- the acts are those of a reaction, and the session is the one after it
pub record Reacts (reaction : Reaction) (old new : Owned) (done : List Act) : Type 0 where
  pub acts : done ≡ reaction.acts
  pub after : new ≡ record old { session = reaction.session }

-- the earlier of the two timers, the hold timer if both are due at once
abbrev pub earlier : Option ℕ → Option ℕ → Option (ℕ × Timer)
earlier None None = None
earlier (Some h) None = Some (h, timers.Hold)
earlier None (Some k) = Some (k, timers.Keepalive)
earlier (Some h) (Some k) = if nat_le h k then Some (h, timers.Hold) else Some (k, timers.Keepalive)

-- the timer that is due first, with its due time
unfoldable pub due : Session → Option (ℕ × Timer)
due s = earlier s.hold_at s.keepalive_at

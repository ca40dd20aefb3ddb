-- A live session ends exactly with the act Close, and a fault closes it.
use Rattle.std.proofs.Common.{◌≡◌, refl, ℕ, Bool, true, false, not, List, [], ◌∷◌, Option}
use Rattle.bgp_fsm.specs.declared.State.{State}
use Rattle.bgp_fsm.specs.declared.State.TheVariants.{Idle, Connect, OpenSent, OpenConfirm, Established}
use Rattle.bgp_fsm.specs.declared.Stimulus.{Stimulus}
use Rattle.bgp_fsm.specs.declared.Stimulus.TheVariants.{Start, Stop, LinkUp, LinkDown, OpenGood, OpenLate, Keepalive}
use Rattle.bgp_fsm.specs.declared.Stimulus.TheVariants.{Update, Notified, Fault, HoldDue, KeepaliveDue}
use Rattle.bgp_fsm.specs.declared.Act.{Act}
use Rattle.bgp_fsm.specs.declared.Act.TheVariants as acts
use Rattle.bgp_fsm.specs.Sessions.{Session, row, is_live, close}

-- Close is one of the acts
abbrev pub has_close : List Act → Bool
has_close [] = false
has_close (acts.SendOpen ∷ more) = has_close more
has_close (acts.SendKeepalive ∷ more) = has_close more
has_close (acts.SendNotice code subcode ∷ more) = has_close more
has_close (acts.Up ∷ more) = has_close more
has_close (acts.Down ∷ more) = has_close more
has_close (acts.Close ∷ more) = true

-- a session by its parts
abbrev session_by : State → Option ℕ → Option ℕ → ℕ → ℕ → Bool → Session
session_by state hold_at keepalive_at hold id wide =
    record { state = state; hold_at = hold_at; keepalive_at = keepalive_at; hold = hold; id = id; wide = wide }

row_live_by : (own : ℕ) (state : State) (a b : Option ℕ) (hold id : ℕ) (wide : Bool) (now : ℕ) (st : Stimulus)
    → is_live state ≡ true
    → is_live ((row own (session_by state a b hold id wide) now st).session).state
    ≡ not (has_close (row own (session_by state a b hold id wide) now st).acts)
unfolding row
row_live_by own Idle a b hold id wide now st live = cc
row_live_by own Connect a b hold id wide now st live = cc
row_live_by own OpenSent a b hold id wide now Start live = refl
row_live_by own OpenSent a b hold id wide now Stop live = refl
row_live_by own OpenSent a b hold id wide now LinkUp live = refl
row_live_by own OpenSent a b hold id wide now LinkDown live = refl
row_live_by own OpenSent a b hold id wide now (OpenGood h i w) live = refl
row_live_by own OpenSent a b hold id wide now OpenLate live = refl
row_live_by own OpenSent a b hold id wide now Keepalive live = refl
row_live_by own OpenSent a b hold id wide now Update live = refl
row_live_by own OpenSent a b hold id wide now Notified live = refl
row_live_by own OpenSent a b hold id wide now (Fault code subcode) live = refl
row_live_by own OpenSent a b hold id wide now HoldDue live = refl
row_live_by own OpenSent a b hold id wide now KeepaliveDue live = refl
row_live_by own OpenConfirm a b hold id wide now Start live = refl
row_live_by own OpenConfirm a b hold id wide now Stop live = refl
row_live_by own OpenConfirm a b hold id wide now LinkUp live = refl
row_live_by own OpenConfirm a b hold id wide now LinkDown live = refl
row_live_by own OpenConfirm a b hold id wide now (OpenGood h i w) live = refl
row_live_by own OpenConfirm a b hold id wide now OpenLate live = refl
row_live_by own OpenConfirm a b hold id wide now Keepalive live = refl
row_live_by own OpenConfirm a b hold id wide now Update live = refl
row_live_by own OpenConfirm a b hold id wide now Notified live = refl
row_live_by own OpenConfirm a b hold id wide now (Fault code subcode) live = refl
row_live_by own OpenConfirm a b hold id wide now HoldDue live = refl
row_live_by own OpenConfirm a b hold id wide now KeepaliveDue live = refl
row_live_by own Established a b hold id wide now Start live = refl
row_live_by own Established a b hold id wide now Stop live = refl
row_live_by own Established a b hold id wide now LinkUp live = refl
row_live_by own Established a b hold id wide now LinkDown live = refl
row_live_by own Established a b hold id wide now (OpenGood h i w) live = refl
row_live_by own Established a b hold id wide now OpenLate live = refl
row_live_by own Established a b hold id wide now Keepalive live = refl
row_live_by own Established a b hold id wide now Update live = refl
row_live_by own Established a b hold id wide now Notified live = refl
row_live_by own Established a b hold id wide now (Fault code subcode) live = refl
row_live_by own Established a b hold id wide now HoldDue live = refl
row_live_by own Established a b hold id wide now KeepaliveDue live = refl

-- a live session stays live exactly if it is not closed
pub row_live : (own : ℕ) (s : Session) (now : ℕ) (st : Stimulus) → is_live s.state ≡ true
    → is_live ((row own s now st).session).state ≡ not (has_close (row own s now st).acts)
row_live own s now st live = row_live_by own s.state s.hold_at s.keepalive_at s.hold s.id s.wide now st live

row_fault_by : (own : ℕ) (state : State) (a b : Option ℕ) (hold id : ℕ) (wide : Bool) (now code subcode : ℕ)
    → is_live state ≡ true
    → has_close (row own (session_by state a b hold id wide) now (Fault code subcode)).acts ≡ true
unfolding row
row_fault_by own Idle a b hold id wide now code subcode live = cc
row_fault_by own Connect a b hold id wide now code subcode live = cc
row_fault_by own OpenSent a b hold id wide now code subcode live = refl
row_fault_by own OpenConfirm a b hold id wide now code subcode live = refl
row_fault_by own Established a b hold id wide now code subcode live = refl

-- a fault closes a live session
pub row_fault : (own : ℕ) (s : Session) (now code subcode : ℕ) → is_live s.state ≡ true
    → has_close (row own s now (Fault code subcode)).acts ≡ true
row_fault own s now code subcode live =
    row_fault_by own s.state s.hold_at s.keepalive_at s.hold s.id s.wide now code subcode live

fault_row_by : (own : ℕ) (state : State) (a b : Option ℕ) (hold id : ℕ) (wide : Bool) (now code subcode : ℕ)
    → is_live state ≡ true
    → row own (session_by state a b hold id wide) now (Fault code subcode)
    ≡ close (acts.SendNotice code subcode ∷ []) (session_by state a b hold id wide)
unfolding row
fault_row_by own Idle a b hold id wide now code subcode live = cc
fault_row_by own Connect a b hold id wide now code subcode live = cc
fault_row_by own OpenSent a b hold id wide now code subcode live = refl
fault_row_by own OpenConfirm a b hold id wide now code subcode live = refl
fault_row_by own Established a b hold id wide now code subcode live = refl

-- what a live session does at a fault
pub fault_row : (own : ℕ) (s : Session) (now code subcode : ℕ) → is_live s.state ≡ true
    → row own s now (Fault code subcode) ≡ close (acts.SendNotice code subcode ∷ []) s
fault_row own s now code subcode live =
    fault_row_by own s.state s.hold_at s.keepalive_at s.hold s.id s.wide now code subcode live

down_row_by : (own : ℕ) (state : State) (a b : Option ℕ) (hold id : ℕ) (wide : Bool) (now : ℕ) → is_live state ≡ true
    → row own (session_by state a b hold id wide) now LinkDown ≡ close [] (session_by state a b hold id wide)
unfolding row
down_row_by own Idle a b hold id wide now live = cc
down_row_by own Connect a b hold id wide now live = cc
down_row_by own OpenSent a b hold id wide now live = refl
down_row_by own OpenConfirm a b hold id wide now live = refl
down_row_by own Established a b hold id wide now live = refl

-- what a live session does if its link is lost
pub down_row : (own : ℕ) (s : Session) (now : ℕ) → is_live s.state ≡ true → row own s now LinkDown ≡ close [] s
down_row own s now live = down_row_by own s.state s.hold_at s.keepalive_at s.hold s.id s.wide now live

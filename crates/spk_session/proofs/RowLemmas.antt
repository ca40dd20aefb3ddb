-- What the rows of the session machine say of closing.
use Rattle.std.proofs.Common.{◌≡◌, ◌<◌, ◌-◌, refl, sym, ◌∙◌, ap, subst, ℕ, Bool, true, false, List, [], ◌∷◌}
use Rattle.std.proofs.Common.{◌++◌, length, arith}
use Rattle.std.specs.Prelude.{◌||◌, slice_index_or}
use Rattle.std.proofs.lemmas.List.{get_or-set_same, get_or-replicate}
use Rattle.bgp_fsm.specs.declared.State.{State}
use Rattle.bgp_fsm.specs.declared.State.TheVariants.{Idle, Connect, OpenSent, OpenConfirm, Established}
use Rattle.bgp_fsm.specs.declared.Stimulus.{Stimulus}
use Rattle.bgp_fsm.specs.declared.Stimulus.TheVariants as stimuli
use Rattle.bgp_fsm.specs.declared.Act.{Act}
use Rattle.bgp_fsm.specs.declared.Act.TheVariants.{SendNotice, Close}
use Rattle.bgp_fsm.specs.Sessions.{Session, Owned, Reaction, row, row_at, close, close_with, down_if_up, held_on}
use Rattle.bgp_fsm.specs.Sessions.{stay, is_live}
use Rattle.xb_wire.specs.declared.numbers.TheConstants.{CEASE, FSM_ERROR, HOLD_TIMER_EXPIRED, UNSPECIFIC}
use Rattle.spk_model.specs.Sources.{session_of, is_wide}
use Rattle.spk_session.specs.declared.links.Links.{Links}
use Rattle.spk_session.specs.Meaning.{HasPeer, IsEven, IsCalm, flag_of, state_in}
use Rattle.spk_session.specs.Acting.{is_close, closes, flags_after, reaction_of, reacted, LeftBy, IsLeft}

or_true : (b : Bool) → (b || true) ≡ true
or_true true = refl
or_true false = refl

true_or : (a b : Bool) → a ≡ true → (a || b) ≡ true
true_or true b e = refl
true_or false b e = cc

closes_down : (state : State) → closes (down_if_up state ++ Close ∷ []) ≡ true
closes_down Idle = refl
closes_down Connect = refl
closes_down OpenSent = refl
closes_down OpenConfirm = refl
closes_down Established = refl

-- a session that is closed does `Close`, whatever comes first
closes_after : (first : List Act) (state : State) → closes (first ++ down_if_up state ++ Close ∷ []) ≡ true
closes_after [] state = closes_down state
closes_after (a ∷ first) state = ap (λ (b : Bool). is_close a || b) (closes_after first state) ∙ or_true (is_close a)

-- a reaction closes, or leaves a live session
abbrev pub Goes : Reaction → Type 0
Goes r = (closes r.acts || is_live (r.session).state) ≡ true

goes_closed : (first : List Act) (s : Session) → Goes (close first s)
goes_closed first s = true_or (closes (close first s).acts) false (closes_after first s.state)

goes_with : (code subcode : ℕ) (s : Session) → Goes (close_with code subcode s)
goes_with code subcode s = goes_closed (SendNotice code subcode ∷ []) s

goes_at : (state : State) (own : ℕ) (s : Session) (now : ℕ) (what : Stimulus) → is_live state ≡ true
    → is_live s.state ≡ true → Goes (row_at state own s now what)
goes_at Idle own s now what live lives = cc
goes_at Connect own s now what live lives = cc
goes_at OpenSent own s now stimuli.Start live lives = lives
goes_at OpenSent own s now stimuli.Stop live lives = goes_with CEASE UNSPECIFIC s
goes_at OpenSent own s now stimuli.LinkUp live lives = lives
goes_at OpenSent own s now stimuli.LinkDown live lives = goes_closed [] s
goes_at OpenSent own s now (stimuli.OpenGood hold id wide) live lives = refl
goes_at OpenSent own s now stimuli.OpenLate live lives = lives
goes_at OpenSent own s now stimuli.Keepalive live lives = goes_with FSM_ERROR UNSPECIFIC s
goes_at OpenSent own s now stimuli.Update live lives = goes_with FSM_ERROR UNSPECIFIC s
goes_at OpenSent own s now stimuli.Notified live lives = goes_closed [] s
goes_at OpenSent own s now (stimuli.Fault code subcode) live lives = goes_with code subcode s
goes_at OpenSent own s now stimuli.HoldDue live lives = goes_with HOLD_TIMER_EXPIRED UNSPECIFIC s
goes_at OpenSent own s now stimuli.KeepaliveDue live lives = lives
goes_at OpenConfirm own s now stimuli.Start live lives = lives
goes_at OpenConfirm own s now stimuli.Stop live lives = goes_with CEASE UNSPECIFIC s
goes_at OpenConfirm own s now stimuli.LinkUp live lives = lives
goes_at OpenConfirm own s now stimuli.LinkDown live lives = goes_closed [] s
goes_at OpenConfirm own s now (stimuli.OpenGood hold id wide) live lives = goes_with FSM_ERROR UNSPECIFIC s
goes_at OpenConfirm own s now stimuli.OpenLate live lives = goes_with FSM_ERROR UNSPECIFIC s
goes_at OpenConfirm own s now stimuli.Keepalive live lives = refl
goes_at OpenConfirm own s now stimuli.Update live lives = goes_with FSM_ERROR UNSPECIFIC s
goes_at OpenConfirm own s now stimuli.Notified live lives = goes_closed [] s
goes_at OpenConfirm own s now (stimuli.Fault code subcode) live lives = goes_with code subcode s
goes_at OpenConfirm own s now stimuli.HoldDue live lives = goes_with HOLD_TIMER_EXPIRED UNSPECIFIC s
goes_at OpenConfirm own s now stimuli.KeepaliveDue live lives = lives
goes_at Established own s now stimuli.Start live lives = lives
goes_at Established own s now stimuli.Stop live lives = goes_with CEASE UNSPECIFIC s
goes_at Established own s now stimuli.LinkUp live lives = lives
goes_at Established own s now stimuli.LinkDown live lives = goes_closed [] s
goes_at Established own s now (stimuli.OpenGood hold id wide) live lives = goes_with FSM_ERROR UNSPECIFIC s
goes_at Established own s now stimuli.OpenLate live lives = goes_with FSM_ERROR UNSPECIFIC s
goes_at Established own s now stimuli.Keepalive live lives = lives
goes_at Established own s now stimuli.Update live lives = lives
goes_at Established own s now stimuli.Notified live lives = goes_closed [] s
goes_at Established own s now (stimuli.Fault code subcode) live lives = goes_with code subcode s
goes_at Established own s now stimuli.HoldDue live lives = goes_with HOLD_TIMER_EXPIRED UNSPECIFIC s
goes_at Established own s now stimuli.KeepaliveDue live lives = lives

-- a live session stays live, or its transport is closed
pub goes_on : (own : ℕ) (s : Session) (now : ℕ) (what : Stimulus) → is_live s.state ≡ true → Goes (row own s now what)
unfolding row
goes_on own s now what live = goes_at s.state own s now what live live

fault_at : (state : State) (own : ℕ) (s : Session) (now code subcode : ℕ) → is_live state ≡ true
    → closes (row_at state own s now (stimuli.Fault code subcode)).acts ≡ true
fault_at Idle own s now code subcode live = cc
fault_at Connect own s now code subcode live = cc
fault_at OpenSent own s now code subcode live = closes_down s.state
fault_at OpenConfirm own s now code subcode live = closes_down s.state
fault_at Established own s now code subcode live = closes_down s.state

-- a fault closes the transport of a live session
pub fault_closes : (own : ℕ) (s : Session) (now code subcode : ℕ) → is_live s.state ≡ true
    → closes (row own s now (stimuli.Fault code subcode)).acts ≡ true
unfolding row
fault_closes own s now code subcode live = fault_at s.state own s now code subcode live

-- an UPDATE in Established sets the hold timer anew
pub update_stays : (own : ℕ) (s : Session) (now : ℕ) → s.state ≡ Established
    → row own s now stimuli.Update ≡ stay (held_on now s)
unfolding row
update_stays own s now is = ap (λ (x : State). row_at x own s now stimuli.Update) is

-- the session of a peer after it was written
pub session_after : (l new : Links) (p : ℕ) (what : Stimulus) → HasPeer l p → (new.sessions).items ≡ reacted l p what
    → session_of (new.sessions).items p
    ≡ record (session_of (l.sessions).items p) { session = (reaction_of l p what).session }
session_after l new p what peer is =
    let inside : p - 1 < length (l.sessions).items = omega (arith, peer.0, peer.1) in
    ap (λ (ss : List Owned). session_of ss p) is
    ∙ get_or-set_same (l.sessions).items (p - 1)
    (record (session_of (l.sessions).items p) { session = (reaction_of l p what).session }) (session_of [] p) inside

left_by : (b : Bool) (l new : Links) (p : ℕ) → IsEven l → HasPeer l p → IsCalm l
    → (b || is_live (state_in new p)) ≡ true → (new.dropped).items ≡ flags_after p b (l.dropped).items → IsLeft p l new
left_by true l new p even peer calm goes flags =
    let inside : p - 1 < length (l.dropped).items = omega (arith, even.flags, peer.0, peer.1) in
    let up : flag_of new p ≡ true =
    ap (λ (ds : List Bool). slice_index_or ds (p - 1) false) flags
    ∙ get_or-set_same (l.dropped).items (p - 1) true false inside in
    subst (λ (f : Bool). LeftBy f p l new) (sym up) flags
left_by false l new p even peer calm goes flags =
    let inside : p - 1 < length (l.sessions).items = omega (arith, peer.0, peer.1) in
    let down : flag_of new p ≡ false =
    ap (λ (ds : List Bool). slice_index_or ds (p - 1) false) (flags ∙ calm)
    ∙ get_or-replicate (length (l.sessions).items) (p - 1) false false inside in
    subst (λ (f : Bool). LeftBy f p l new) (sym down) (flags, goes)

-- after a stimulus to a live session either its flag is set, or it is live
pub left_after : (l new : Links) (p : ℕ) (what : Stimulus) → IsEven l → HasPeer l p → IsCalm l
    → is_live (state_in l p) ≡ true → (new.sessions).items ≡ reacted l p what
    → (new.dropped).items ≡ flags_after p (closes (reaction_of l p what).acts) (l.dropped).items → IsLeft p l new
left_after l new p what even peer calm live is flags =
    let s : Owned = session_of (l.sessions).items p in
    let goes : Goes (reaction_of l p what) = goes_on s.own s.session l.clock what live in
    let after = session_after l new p what peer is in
    left_by (closes (reaction_of l p what).acts) l new p even peer calm
    (ap (λ (x : Owned). closes (reaction_of l p what).acts || is_live (x.session).state) after ∙ goes) flags

-- an UPDATE in Established leaves the form of the session
pub wide_after : (l new : Links) (p : ℕ) → HasPeer l p → state_in l p ≡ Established
    → (new.sessions).items ≡ reacted l p stimuli.Update
    → is_wide (new.sessions).items p ≡ is_wide (l.sessions).items p
wide_after l new p peer is goes =
    let s : Owned = session_of (l.sessions).items p in
    ap (λ (x : Owned). (x.session).wide) (session_after l new p stimuli.Update peer goes)
    ∙ ap (λ (r : Reaction). (r.session).wide) (update_stays s.own s.session l.clock is)

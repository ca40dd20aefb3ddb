-- What a message does, and the octets that wait after it: they stay, or the session is closed and they are dropped.
use Rattle.std.proofs.Common.{◌≡◌, refl, sym, ap, ◌∙◌, ℕ, ◌-◌, ◌<◌, Bool, true, false, not, List, [], ◌∷◌, length}
use Rattle.std.proofs.Common.{Option, Some, None, fold, get_or}
use Rattle.std.proofs.lemmas.Bool.{cases_Bool, ltb-true, ltb-false}
use Rattle.std.proofs.Common.{inl, inr}
use Rattle.std.proofs.lemmas.List.{get_or-set_same, get_or_past, set-set, length-set}
use Rattle.std.specs.Prelude.{◌==◌, nat_lt, if◌then◌else◌}
use Rattle.xb_wire.specs.declared.numbers.TheConstants.{OPEN, UPDATE, NOTIFICATION}
use Rattle.xb_wire.specs.Messages.{Notification, message_kind, message_body}
use Rattle.bgp_attr.specs.Paths.{width_of}
use Rattle.bgp_check.specs.Judgement.{judge}
use Rattle.bgp_open.specs.Opens.{judge_open4, open_seen4}
use Rattle.bgp_fsm.specs.declared.State.{State}
use Rattle.bgp_fsm.specs.declared.State.TheVariants.{Idle, Connect, OpenSent, OpenConfirm, Established}
use Rattle.bgp_fsm.specs.declared.Stimulus.{Stimulus}
use Rattle.bgp_fsm.specs.declared.Stimulus.TheVariants as stimuli
use Rattle.bgp_fsm.specs.declared.Act.{Act}
use Rattle.bgp_fsm.specs.declared.Act.TheVariants as acts
use Rattle.bgp_fsm.specs.Sessions.{Owned, row, is_live, start_session}
use Rattle.spk_model.specs.declared.host.Setup.{Setup}
use Rattle.spk_model.specs.Sources.{entry_of, is_wide}
use Rattle.spk_model.specs.Turning.{Turn, control, act, react, refuse, judged_open, open_in, taken_update}
use Rattle.spk_model.specs.Turning.{judged_update}
use Rattle.spk_model.specs.Turning.{update_in, message_in, state_of, session_at, set_session, set_rest, set_wait}
use Rattle.spk_model.specs.Turning.{wait_of}
use Rattle.spk_model.proofs.RowLemmas.{has_close, row_live, row_fault}

-- the octets that wait for a peer can be read back
pub wait_of-set_wait : (t : Turn) (p : ℕ) (x : List ℕ) → p - 1 < length (t.speaker).waits
    → wait_of (set_wait t p x) p ≡ x
wait_of-set_wait t p x within = get_or-set_same (t.speaker).waits (p - 1) x [] within

-- the later of two lists of octets waits
pub set_wait-set_wait : (t : Turn) (p : ℕ) (x y : List ℕ) → set_wait (set_wait t p x) p y ≡ set_wait t p y
set_wait-set_wait t p x y =
    ap (λ (ws : List (List ℕ)). record t { speaker = record t.speaker { waits = ws } })
    (set-set (t.speaker).waits (p - 1) x y)

-- a live session is one of a configured peer
pub live_within : (t : Turn) (p : ℕ) → is_live (state_of t p) ≡ true → p - 1 < length (t.speaker).sessions
live_within t p live =
    elim (cases_Bool (nat_lt (p - 1) (length (t.speaker).sessions))) [
      | inl within ↦ ltb-true (p - 1) (length (t.speaker).sessions) within
      | inr over ↦
          let past = ltb-false (p - 1) (length (t.speaker).sessions) over in
          let none = get_or_past (t.speaker).sessions (p - 1) (record { own = 0; session = start_session }) past in
          let dead : is_live (state_of t p) ≡ false = ap (λ (s : Owned). is_live (s.session).state) none in
          let wrong : true ≡ false = sym live ∙ dead in
          cc wrong
    ]

-- a step of a peer's session either leaves what waits, and the session stays live, or drops it, and the session ends
pub record Leaves (p : ℕ) (f : Turn → Turn) (t : Turn) : Type 0 where
  pub closed : Bool
  pub live : is_live (state_of (f t) p) ≡ not closed
  pub same : (x : List ℕ) → f (set_wait t p x) ≡ (if closed then f t else set_wait (f t) p x)
  pub long : length ((f t).speaker).waits ≡ length (t.speaker).waits

-- the same of a step that is chosen by a test
leaves_if : (p : ℕ) (b : Bool) (f g : Turn → Turn) (t : Turn) → Leaves p f t → Leaves p g t
    → Leaves p (λ u. if b then f u else g u) t
leaves_if p true f g t x y = record { closed = x.closed; live = x.live; same = x.same; long = x.long }
leaves_if p false f g t x y = record { closed = y.closed; live = y.live; same = y.same; long = y.long }

-- and of a step after which another is done that leaves sessions and octets
then_same : (p : ℕ) (f g : Turn → Turn) (t : Turn) (x : List ℕ) (closed : Bool)
    → ((u : Turn) (y : List ℕ) → g (set_wait u p y) ≡ set_wait (g u) p y)
    → f (set_wait t p x) ≡ (if closed then f t else set_wait (f t) p x)
    → g (f (set_wait t p x)) ≡ (if closed then g (f t) else set_wait (g (f t)) p x)
then_same p f g t x true keeps e = ap g e
then_same p f g t x false keeps e = ap g e ∙ keeps (f t) x

-- the acts of a peer's session at a stimulus
abbrev pub acts_at : Turn → ℕ → Stimulus → List Act
acts_at t p st = (row (session_at t p).own (session_at t p).session (t.speaker).clock st).acts

module _ (setup : Setup) where
  -- acts leave what waits, except Close
  acts_leave : (p : ℕ) (extra x : List ℕ) (todo : List Act) (t : Turn)
      → fold (act setup p extra) (set_wait t p x) todo
      ≡ (if has_close todo then fold (act setup p extra) t todo else set_wait (fold (act setup p extra) t todo) p x)
  unfolding act control
  acts_leave p extra x [] t = refl
  acts_leave p extra x (acts.SendOpen ∷ more) t = acts_leave p extra x more (act setup p extra t acts.SendOpen)
  acts_leave p extra x (acts.SendKeepalive ∷ more) t = acts_leave p extra x more
      (act setup p extra t acts.SendKeepalive)
  acts_leave p extra x (acts.SendNotice code subcode ∷ more) t =
      acts_leave p extra x more (act setup p extra t (acts.SendNotice code subcode))
  acts_leave p extra x (acts.Up ∷ more) t = acts_leave p extra x more (act setup p extra t acts.Up)
  acts_leave p extra x (acts.Down ∷ more) t = acts_leave p extra x more (act setup p extra t acts.Down)
  acts_leave p extra x (acts.Close ∷ more) t =
      ap (λ (u : Turn). fold (act setup p extra) u more) (set_wait-set_wait (set_rest t p []) p x [])

  -- acts leave the sessions, and the number of lists that wait
  pub acts_keep : (p : ℕ) (extra : List ℕ) (todo : List Act) (t : Turn)
      → (((fold (act setup p extra) t todo).speaker).sessions ≡ (t.speaker).sessions)
      × (length ((fold (act setup p extra) t todo).speaker).waits ≡ length (t.speaker).waits)
  unfolding act control
  acts_keep p extra [] t = (refl, refl)
  acts_keep p extra (acts.SendOpen ∷ more) t = acts_keep p extra more (act setup p extra t acts.SendOpen)
  acts_keep p extra (acts.SendKeepalive ∷ more) t = acts_keep p extra more (act setup p extra t acts.SendKeepalive)
  acts_keep p extra (acts.SendNotice code subcode ∷ more) t =
      acts_keep p extra more (act setup p extra t (acts.SendNotice code subcode))
  acts_keep p extra (acts.Up ∷ more) t = acts_keep p extra more (act setup p extra t acts.Up)
  acts_keep p extra (acts.Down ∷ more) t = acts_keep p extra more (act setup p extra t acts.Down)
  acts_keep p extra (acts.Close ∷ more) t =
      let k = acts_keep p extra more (act setup p extra t acts.Close) in
      (k.0, k.1 ∙ length-set (t.speaker).waits (p - 1) [])

  -- a stimulus of a live session
  pub react_live : (p : ℕ) (st : Stimulus) (extra : List ℕ) (t : Turn) → is_live (state_of t p) ≡ true
      → is_live (state_of (react setup t p st extra) p) ≡ not (has_close (acts_at t p st))
  unfolding react
  react_live p st extra t live =
      let s = session_at t p in
      let r = row s.own s.session (t.speaker).clock st in
      let after : Owned = record s { session = r.session } in
      let none : Owned = record { own = 0; session = start_session } in
      let k = acts_keep p extra r.acts (set_session t p after) in
      ap (λ (ss : List Owned). is_live ((get_or ss (p - 1) none).session).state) k.0
      ∙ ap (λ (o : Owned). is_live (o.session).state)
      (get_or-set_same (t.speaker).sessions (p - 1) after none (live_within t p live))
      ∙ row_live s.own s.session (t.speaker).clock st live

  pub react_same : (p : ℕ) (st : Stimulus) (extra : List ℕ) (t : Turn) (x : List ℕ)
      → react setup (set_wait t p x) p st extra
      ≡ (if has_close (acts_at t p st) then react setup t p st extra else set_wait (react setup t p st extra) p x)
  unfolding react
  react_same p st extra t x =
      let s = session_at t p in
      let r = row s.own s.session (t.speaker).clock st in
      acts_leave p extra x r.acts (set_session t p (record s { session = r.session }))

  pub react_long : (p : ℕ) (st : Stimulus) (extra : List ℕ) (t : Turn)
      → length ((react setup t p st extra).speaker).waits ≡ length (t.speaker).waits
  unfolding react
  react_long p st extra t =
      let s = session_at t p in
      let r = row s.own s.session (t.speaker).clock st in
      (acts_keep p extra r.acts (set_session t p (record s { session = r.session }))).1

  react_leaves : (p : ℕ) (st : Stimulus) (extra : List ℕ) (t : Turn) → is_live (state_of t p) ≡ true
      → Leaves p (λ u. react setup u p st extra) t
  react_leaves p st extra t live = record {
    closed = has_close (acts_at t p st);
    live = react_live p st extra t live;
    same = react_same p st extra t;
    long = react_long p st extra t;
  }

  -- a fault of a live session ends it
  pub refuse_ends : (p : ℕ) (n : Notification) (t : Turn) → is_live (state_of t p) ≡ true
      → (is_live (state_of (refuse setup t p n) p) ≡ false)
      × ((x : List ℕ) → refuse setup (set_wait t p x) p n ≡ refuse setup t p n)
  unfolding refuse
  refuse_ends p n t live =
      let s = session_at t p in
      let st = stimuli.Fault n.code n.subcode in
      let u = react setup t p st n.extra in
      let closes = row_fault s.own s.session (t.speaker).clock n.code n.subcode live in (
        react_live p st n.extra t live ∙ ap not closes,
        λ x. react_same p st n.extra t x ∙ ap (λ (b : Bool). if b then u else set_wait u p x) closes,
      )

  refuse_leaves : (p : ℕ) (n : Notification) (t : Turn) → is_live (state_of t p) ≡ true
      → Leaves p (λ u. refuse setup u p n) t
  unfolding refuse
  refuse_leaves p n t live =
      let l = react_leaves p (stimuli.Fault n.code n.subcode) n.extra t live in
      record { closed = l.closed; live = l.live; same = l.same; long = l.long }

  judged_open_leaves : (p : ℕ) (body : List ℕ) (fault : Option Notification) (t : Turn) → is_live (state_of t p) ≡ true
      → Leaves p (λ u. judged_open setup u p body fault) t
  judged_open_leaves p body None t live =
      let seen = open_seen4 body in
      let l = react_leaves p (stimuli.OpenGood seen.hold seen.id seen.wide) [] t live in
      record { closed = l.closed; live = l.live; same = l.same; long = l.long }
  judged_open_leaves p body (Some n) t live =
      let l = refuse_leaves p n t live in
      record { closed = l.closed; live = l.live; same = l.same; long = l.long }

  open_late_leaves : (p : ℕ) (t : Turn) → is_live (state_of t p) ≡ true
      → Leaves p (λ u. react setup u p stimuli.OpenLate []) t
  open_late_leaves p t live = react_leaves p stimuli.OpenLate [] t live

  open_in_leaves : (p : ℕ) (body : List ℕ) (state : State) (t : Turn) → is_live (state_of t p) ≡ true
      → Leaves p (λ u. open_in setup u p body state) t
  unfolding open_in
  open_in_leaves p body OpenSent t live =
      let l = judged_open_leaves p body (judge_open4 body (entry_of setup.config p).asn) t live in
      record { closed = l.closed; live = l.live; same = l.same; long = l.long }
  open_in_leaves p body Idle t live =
      let l = open_late_leaves p t live in
      record { closed = l.closed; live = l.live; same = l.same; long = l.long }
  open_in_leaves p body Connect t live =
      let l = open_late_leaves p t live in
      record { closed = l.closed; live = l.live; same = l.same; long = l.long }
  open_in_leaves p body OpenConfirm t live =
      let l = open_late_leaves p t live in
      record { closed = l.closed; live = l.live; same = l.same; long = l.long }
  open_in_leaves p body Established t live =
      let l = open_late_leaves p t live in
      record { closed = l.closed; live = l.live; same = l.same; long = l.long }

  judged_update_leaves : (p : ℕ) (body : List ℕ) (fault : Option Notification) (t : Turn)
      → is_live (state_of t p) ≡ true
      → Leaves p (λ u. judged_update setup u p body fault) t
  judged_update_leaves p body None t live =
      let l = react_leaves p stimuli.Update [] t live in
      record {
        closed = l.closed;
        live = l.live;
        same = λ x. then_same p (λ u. react setup u p stimuli.Update []) (λ u. taken_update setup u p body) t x l.closed
            (λ u y. refl) (l.same x);
        long = l.long;
      }
  judged_update_leaves p body (Some n) t live =
      let l = refuse_leaves p n t live in
      record { closed = l.closed; live = l.live; same = l.same; long = l.long }

  update_leaves : (p : ℕ) (t : Turn) → is_live (state_of t p) ≡ true
      → Leaves p (λ u. react setup u p stimuli.Update []) t
  update_leaves p t live = react_leaves p stimuli.Update [] t live

  update_in_leaves : (p : ℕ) (body : List ℕ) (state : State) (t : Turn) → is_live (state_of t p) ≡ true
      → Leaves p (λ u. update_in setup u p body state) t
  unfolding update_in
  update_in_leaves p body Established t live =
      let l = judged_update_leaves p body (judge (width_of (is_wide (t.speaker).sessions p)) body) t live in
      record { closed = l.closed; live = l.live; same = l.same; long = l.long }
  update_in_leaves p body Idle t live =
      let l = update_leaves p t live in
      record { closed = l.closed; live = l.live; same = l.same; long = l.long }
  update_in_leaves p body Connect t live =
      let l = update_leaves p t live in
      record { closed = l.closed; live = l.live; same = l.same; long = l.long }
  update_in_leaves p body OpenSent t live =
      let l = update_leaves p t live in
      record { closed = l.closed; live = l.live; same = l.same; long = l.long }
  update_in_leaves p body OpenConfirm t live =
      let l = update_leaves p t live in
      record { closed = l.closed; live = l.live; same = l.same; long = l.long }

  -- a message in a live session
  pub message_in_leaves : (p : ℕ) (message : List ℕ) (t : Turn) → is_live (state_of t p) ≡ true
      → Leaves p (λ u. message_in setup u p message) t
  unfolding message_in
  message_in_leaves p message t live =
      let kind = message_kind message in
      let body = message_body message in
      let state = state_of t p in
      let notified = λ (u : Turn). react setup u p stimuli.Notified [] in
      let kept = λ (u : Turn). react setup u p stimuli.Keepalive [] in
      let others = leaves_if p (kind == NOTIFICATION) notified kept t
      (react_leaves p stimuli.Notified [] t live) (react_leaves p stimuli.Keepalive [] t live) in
      let rest = leaves_if p (kind == UPDATE) (λ u. update_in setup u p body state)
      (λ u. if kind == NOTIFICATION then notified u else kept u) t (update_in_leaves p body state t live) others in
      let l = leaves_if p (kind == OPEN) (λ u. open_in setup u p body state)
      (λ u. if kind == UPDATE then update_in setup u p body state
      else if kind == NOTIFICATION then notified u else kept u) t (open_in_leaves p body state t live) rest in
      record { closed = l.closed; live = l.live; same = l.same; long = l.long }

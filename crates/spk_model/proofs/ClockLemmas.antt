-- Only an event of the clock moves the clock.
use Rattle.std.proofs.Common.{◌≡◌, refl, ◌∙◌, ℕ, zero, suc, Bool, true, false, List, [], ◌∷◌, Option, Some, None, fold}
use Rattle.std.proofs.Common.{length}
use Rattle.std.specs.Prelude.{if◌then◌else◌, nat_lt, take, drop}
use Rattle.xb_domain.specs.Events.{Event, start, stop, up, down, octets, time, room, drain, rescan}
use Rattle.xb_domain.specs.declared.output.Packing.{Packing}
use Rattle.xb_wire.specs.Messages.{Notification, message_size, front_fault}
use Rattle.bgp_write.specs.Pending.{Formed}
use Rattle.bgp_fsm.specs.declared.Act.{Act}
use Rattle.bgp_fsm.specs.declared.Act.TheVariants as acts
use Rattle.bgp_fsm.specs.declared.State.{State}
use Rattle.bgp_fsm.specs.declared.State.TheVariants.{Idle, Connect, OpenSent, OpenConfirm, Established}
use Rattle.bgp_fsm.specs.declared.Stimulus.{Stimulus}
use Rattle.bgp_fsm.specs.Sessions.{is_live, row}
use Rattle.replay_log.specs.Logs.{clock_after}
use Rattle.spk_model.specs.declared.host.Setup.{Setup}
use Rattle.spk_model.specs.Turning.{Speaker, Turn, Due, control, act, react, refuse, judged_open, open_in}
use Rattle.spk_model.specs.Turning.{judged_update, update_in, message_in, front_in, when_true, take_turns, octets_in}
use Rattle.spk_model.specs.Turning.{fire_in_time, fire_first, time_turns, time_to, form_next, rest_or_form}
use Rattle.spk_model.specs.Turning.{unless_spent, emit_turns, emit, is_spent, rest_of, wait_of, set_wait, state_of}
use Rattle.spk_model.specs.Turning.{session_at, set_session, turn, before, event}

abbrev clock_of : Turn → ℕ
clock_of t = (t.speaker).clock

either : (b : Bool) (t u : Turn) (n : ℕ) → clock_of t ≡ n → clock_of u ≡ n → clock_of (if b then t else u) ≡ n
either true t u n p q = p
either false t u n p q = q

folded : {A : Type 0} (f : Turn → A → Turn) → ((t : Turn) (a : A) → clock_of (f t a) ≡ clock_of t)
    → (t : Turn) (xs : List A) → clock_of (fold f t xs) ≡ clock_of t
folded f keeps t [] = refl
folded f keeps t (x ∷ xs) = folded f keeps (f t x) xs ∙ keeps t x

module _ (setup : Setup) where
  act_keeps : (p : ℕ) (extra : List ℕ) (t : Turn) (a : Act) → clock_of (act setup p extra t a) ≡ clock_of t
  unfolding control act
  act_keeps p extra t acts.SendOpen = refl
  act_keeps p extra t acts.SendKeepalive = refl
  act_keeps p extra t (acts.SendNotice code subcode) = refl
  act_keeps p extra t acts.Up = refl
  act_keeps p extra t acts.Down = refl
  act_keeps p extra t acts.Close = refl

  react_keeps : (t : Turn) (p : ℕ) (s : Stimulus) (extra : List ℕ) → clock_of (react setup t p s extra) ≡ clock_of t
  unfolding react
  react_keeps t p s extra =
      let owned = session_at t p in
      let reaction = row owned.own owned.session (t.speaker).clock s in
      folded (act setup p extra) (act_keeps p extra)
      (set_session t p (record owned { session = reaction.session })) reaction.acts

  refuse_keeps : (t : Turn) (p : ℕ) (n : Notification) → clock_of (refuse setup t p n) ≡ clock_of t
  unfolding refuse
  refuse_keeps t p n = react_keeps t p _ _

  judged_open_keeps : (t : Turn) (p : ℕ) (body : List ℕ) (fault : Option Notification)
      → clock_of (judged_open setup t p body fault) ≡ clock_of t
  judged_open_keeps t p body None = react_keeps t p _ _
  judged_open_keeps t p body (Some n) = refuse_keeps t p n

  open_in_keeps : (t : Turn) (p : ℕ) (body : List ℕ) (s : State) → clock_of (open_in setup t p body s) ≡ clock_of t
  unfolding open_in
  open_in_keeps t p body OpenSent = judged_open_keeps t p body _
  open_in_keeps t p body Idle = react_keeps t p _ _
  open_in_keeps t p body Connect = react_keeps t p _ _
  open_in_keeps t p body OpenConfirm = react_keeps t p _ _
  open_in_keeps t p body Established = react_keeps t p _ _

  judged_update_keeps : (t : Turn) (p : ℕ) (body : List ℕ) (fault : Option Notification)
      → clock_of (judged_update setup t p body fault) ≡ clock_of t
  judged_update_keeps t p body None = react_keeps t p _ _
  judged_update_keeps t p body (Some n) = refuse_keeps t p n

  update_in_keeps : (t : Turn) (p : ℕ) (body : List ℕ) (s : State) → clock_of (update_in setup t p body s) ≡ clock_of t
  unfolding update_in
  update_in_keeps t p body Established = judged_update_keeps t p body _
  update_in_keeps t p body Idle = react_keeps t p _ _
  update_in_keeps t p body Connect = react_keeps t p _ _
  update_in_keeps t p body OpenSent = react_keeps t p _ _
  update_in_keeps t p body OpenConfirm = react_keeps t p _ _

  message_in_keeps : (t : Turn) (p : ℕ) (message : List ℕ) → clock_of (message_in setup t p message) ≡ clock_of t
  unfolding message_in
  message_in_keeps t p message =
      either _ _ _ _ (open_in_keeps t p _ _)
      (either _ _ _ _ (update_in_keeps t p _ _) (either _ _ _ _ (react_keeps t p _ _) (react_keeps t p _ _)))

  front_in_keeps : (rest : Turn → Turn) → ((t : Turn) → clock_of (rest t) ≡ clock_of t)
      → (t : Turn) (p : ℕ) (size : Option ℕ) (fault : Option Notification)
      → clock_of (front_in setup rest t p size fault) ≡ clock_of t
  front_in_keeps rest keeps t p (Some n) fault =
      keeps (message_in setup (set_wait t p (drop n (wait_of t p))) p (take n (wait_of t p)))
      ∙ message_in_keeps (set_wait t p (drop n (wait_of t p))) p (take n (wait_of t p))
  front_in_keeps rest keeps t p None None = refl
  front_in_keeps rest keeps t p None (Some fault) = refuse_keeps t p fault

  when_true_keeps : (b : Bool) (go : Turn → Turn) (t : Turn) → clock_of (go t) ≡ clock_of t
      → clock_of (when_true setup b go t) ≡ clock_of t
  when_true_keeps true go t h = h
  when_true_keeps false go t h = refl

  take_turns_keeps : (turns : ℕ) (t : Turn) (p : ℕ) → clock_of (take_turns setup turns t p) ≡ clock_of t
  unfolding take_turns
  take_turns_keeps zero t p = refl
  take_turns_keeps (suc turns) t p =
      when_true_keeps (is_live (state_of t p))
      (λ u. front_in setup (λ v. take_turns setup turns v p) u p (message_size (wait_of u p))
      (front_fault (wait_of u p))) t
      (front_in_keeps (λ v. take_turns setup turns v p) (λ v. take_turns_keeps turns v p) t p _ _)

  octets_in_keeps : (t : Turn) (p : ℕ) (bytes : List ℕ) → clock_of (octets_in setup t p bytes) ≡ clock_of t
  unfolding octets_in
  octets_in_keeps t p bytes = either _ _ _ _ (take_turns_keeps _ _ p) refl

  -- whatever fires before, the clock is set in the end
  fire_in_time_sets : (rest : Turn → Turn) (now : ℕ) → ((t : Turn) → clock_of (rest t) ≡ now)
      → (t : Turn) (d : Due) (b : Bool) → clock_of (fire_in_time setup rest t now d b) ≡ now
  fire_in_time_sets rest now sets t d true = sets _
  fire_in_time_sets rest now sets t d false = refl

  fire_first_sets : (rest : Turn → Turn) (now : ℕ) → ((t : Turn) → clock_of (rest t) ≡ now)
      → (t : Turn) (d : Option Due) → clock_of (fire_first setup rest t now d) ≡ now
  fire_first_sets rest now sets t None = refl
  fire_first_sets rest now sets t (Some d) = fire_in_time_sets rest now sets t d _

  time_turns_sets : (turns : ℕ) (t : Turn) (now : ℕ) → clock_of (time_turns setup turns t now) ≡ now
  unfolding time_turns
  time_turns_sets zero t now = refl
  time_turns_sets (suc turns) t now =
      fire_first_sets (λ u. time_turns setup turns u now) now (λ u. time_turns_sets turns u now) t _

  time_to_sets : (t : Turn) (now : ℕ) → clock_of (time_to setup t now) ≡ now
  unfolding time_to
  time_to_sets t now = time_turns_sets _ t now

form_next_keeps : (rest : Turn → Turn) → ((t : Turn) → clock_of (rest t) ≡ clock_of t) → (t : Turn) (p : ℕ)
    (f : Option Formed) → clock_of (form_next rest t p f) ≡ clock_of t
form_next_keeps rest keeps t p None = refl
form_next_keeps rest keeps t p (Some f) = keeps _

rest_or_form_keeps : (rule : Packing) (rest : Turn → Option ℕ → Turn)
    → ((t : Turn) (l : Option ℕ) → clock_of (rest t l) ≡ clock_of t)
    → (t : Turn) (p : ℕ) (limit : Option ℕ) (b : Bool) → clock_of (rest_or_form rule rest t p limit b) ≡ clock_of t
rest_or_form_keeps rule rest keeps t p limit true = keeps _ _
rest_or_form_keeps rule rest keeps t p limit false = form_next_keeps (λ u. rest u limit) (λ u. keeps u limit) t p _

unless_spent_keeps : (b : Bool) (go : Turn → Turn) (t : Turn) → clock_of (go t) ≡ clock_of t
    → clock_of (unless_spent b go t) ≡ clock_of t
unless_spent_keeps true go t h = refl
unless_spent_keeps false go t h = h

emit_turns_keeps : (rule : Packing) (turns : ℕ) (t : Turn) (p : ℕ) (limit : Option ℕ)
    → clock_of (emit_turns rule turns t p limit) ≡ clock_of t
unfolding emit_turns
emit_turns_keeps rule zero t p limit = refl
emit_turns_keeps rule (suc turns) t p limit =
    unless_spent_keeps (is_spent limit)
    (λ u. rest_or_form rule (λ v l. emit_turns rule turns v p l) u p limit (nat_lt 0 (length (rest_of u p)))) t
    (rest_or_form_keeps rule (λ v l. emit_turns rule turns v p l) (λ v l. emit_turns_keeps rule turns v p l) t p limit
    (nat_lt 0 (length (rest_of t p))))

emit_keeps : (rule : Packing) (t : Turn) (p : ℕ) (limit : Option ℕ) → clock_of (emit rule t p limit) ≡ clock_of t
unfolding emit
emit_keeps rule t p limit = either _ _ _ _ (emit_turns_keeps rule _ t p limit) refl

turn_clock : (rule : Packing) (setup : Setup) (t : Turn) (e : Event)
    → clock_of (turn rule setup t e) ≡ clock_after (clock_of t) e
unfolding turn
turn_clock rule setup t (start p) = react_keeps setup t p _ _
turn_clock rule setup t (stop p) = react_keeps setup t p _ _
turn_clock rule setup t (up p) = react_keeps setup t p _ _
turn_clock rule setup t (down p) = react_keeps setup t p _ _
turn_clock rule setup t (octets p bytes) = octets_in_keeps setup t p bytes
turn_clock rule setup t (time now) = time_to_sets setup t now
turn_clock rule setup t (room p k) = emit_keeps rule t p _
turn_clock rule setup t (drain p) = emit_keeps rule t p _
turn_clock rule setup t rescan = refl

-- the clock after an event
pub event_clock : (rule : Packing) (setup : Setup) (s : Speaker) (e : Event)
    → ((event rule setup s e).speaker).clock ≡ clock_after s.clock e
unfolding event
event_clock rule setup s e = turn_clock rule setup (before s) e

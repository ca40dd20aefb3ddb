-- A message that is refused does what the loss of the link does at its first octet, and sends a NOTIFICATION.
use Rattle.std.proofs.Common.{◌≡◌, refl, sym, ap, ◌∙◌, inl, inr, ℕ, zero, suc, ◌-◌, ◌<◌, ◌≤◌, true, false}
use Rattle.std.proofs.Common.{List, [], ◌∷◌, ◌++◌, length, take, drop, append_assoc, Some, fold, arith}
use Rattle.std.proofs.lemmas.List.{append-nil, set-set}
use Rattle.std.specs.Prelude.{◌==◌, if◌then◌else◌}
use Rattle.xb_domain.specs.Outputs.{Output}
use Rattle.xb_wire.specs.declared.numbers.TheConstants.{OPEN, UPDATE, NOTIFICATION}
use Rattle.xb_wire.specs.Messages.{Notification, message_kind, message_body, message_size, front_fault}
use Rattle.xb_wire.proofs.MessageLemmas.{message_size_is_size, HasMessageLength-size}
use Rattle.xb_wire.proofs.FrontLemmas.{message_kind-take}
use Rattle.bgp_attr.specs.Paths.{width_of}
use Rattle.bgp_check.specs.Judgement.{judge}
use Rattle.bgp_open.specs.Opens.{judge_open4}
use Rattle.bgp_fsm.specs.declared.State.{State}
use Rattle.bgp_fsm.specs.declared.State.TheVariants.{Idle, Connect, OpenSent, OpenConfirm, Established}
use Rattle.bgp_fsm.specs.declared.Stimulus.TheVariants as stimuli
use Rattle.bgp_fsm.specs.declared.Act.TheVariants as acts
use Rattle.bgp_fsm.specs.Sessions.{Owned, Reaction, is_live, down_if_up, close}
use Rattle.spk_model.specs.declared.host.Setup.{Setup}
use Rattle.spk_model.specs.Sources.{entry_of, is_wide, session_of}
use Rattle.spk_model.specs.Turning.{Speaker, Turn, put, control, act, react, refuse, judged_open, open_in}
use Rattle.spk_model.specs.Turning.{judged_update}
use Rattle.spk_model.specs.Turning.{update_in, message_in, octets_in, take_turns, session_at, set_session, set_rest}
use Rattle.spk_model.specs.Turning.{set_wait}
use Rattle.spk_model.specs.Turning.{wait_of, state_of, before, event, history, turn}
use Rattle.spk_model.specs.Laws.{damage, Refuses, notice_of, rest_in, wait_in, state_in}
use Rattle.spk_model.proofs.RowLemmas.{fault_row, down_row}
use Rattle.spk_model.proofs.EarlierLemmas.{after, fold-after, act-after}
use Rattle.spk_model.proofs.WaitLemmas.{wait_of-set_wait, set_wait-set_wait, refuse_ends}
use Rattle.spk_model.proofs.PieceLemmas.{take_turns-dead, take_turns-message, take_turns-fault, octets_in-live}
use Rattle.xb_wire.proofs.FaultLemmas.{front_fault_long}
use Rattle.spk_model.proofs.PieceLemmas.{octets_in-pieces}
use Rattle.spk_model.proofs.ReachedLemmas.{octets_in_long, waits_long}

-- the later of two rests is left
set_rest-set_rest : (t : Turn) (p : ℕ) (x y : List ℕ) → set_rest (set_rest t p x) p y ≡ set_rest t p y
set_rest-set_rest t p x y =
    ap (λ (rs : List (List ℕ)). record t { speaker = record t.speaker { rests = rs } })
    (set-set (t.speaker).rests (p - 1) x y)

-- the state of a session, by the sessions
state_same : (p : ℕ) (v t : Turn) → (v.speaker).sessions ≡ (t.speaker).sessions → state_of v p ≡ state_of t p
state_same p v t same = ap (λ (ss : List Owned). ((session_of ss p).session).state) same

module _ (setup : Setup) (p : ℕ) where
  -- a session is closed
  abbrev closing : List ℕ → State → Turn → Turn
  closing extra state t = fold (act setup p extra) t (down_if_up state ++ acts.Close ∷ [])

  -- what is left of a message makes no difference to it, nor does the data of a NOTIFICATION
  closing_same : (extra : List ℕ) (state : State) (t : Turn)
      → closing extra state (set_rest t p []) ≡ closing [] state t
  unfolding act
  closing_same extra Idle t = ap (λ (u : Turn). set_wait u p []) (set_rest-set_rest t p [] [])
  closing_same extra Connect t = ap (λ (u : Turn). set_wait u p []) (set_rest-set_rest t p [] [])
  closing_same extra OpenSent t = ap (λ (u : Turn). set_wait u p []) (set_rest-set_rest t p [] [])
  closing_same extra OpenConfirm t = ap (λ (u : Turn). set_wait u p []) (set_rest-set_rest t p [] [])
  closing_same extra Established t =
      ap (λ (u : Turn). set_wait u p []) (set_rest-set_rest (act setup p [] t acts.Down) p [] [])

  -- the turn in which a session is closed
  abbrev ending : Turn → Turn
  ending t = set_session t p (record (session_at t p) { session = (close [] (session_at t p).session).session })

  refuse_is : (t : Turn) (n : Notification) → is_live (state_of t p) ≡ true
      → refuse setup t p n ≡ closing n.extra (state_of t p) (control setup (ending t) p (notice_of n))
  unfolding refuse react act
  refuse_is t n live =
      let s = session_at t p in
      ap (λ (r : Reaction). fold (act setup p n.extra) (set_session t p (record s { session = r.session })) r.acts)
      (fault_row s.own s.session (t.speaker).clock n.code n.subcode live)

  down_is : (t : Turn) → is_live (state_of t p) ≡ true
      → react setup t p stimuli.LinkDown [] ≡ closing [] (state_of t p) (ending t)
  unfolding react
  down_is t live =
      let s = session_at t p in
      ap (λ (r : Reaction). fold (act setup p []) (set_session t p (record s { session = r.session })) r.acts)
      (down_row s.own s.session (t.speaker).clock live)

  -- what a refusal sends before it does what the loss of the link does
  abbrev told : Speaker → Notification → List Output
  told s n = put p (rest_in s p) ++ put p (notice_of n)

  refuse_down : (s : Speaker) (n : Notification) → is_live (state_in s p) ≡ true
      → refuse setup (before s) p n ≡ after (told s n) [] (react setup (before s) p stimuli.LinkDown [])
  unfolding control
  refuse_down s n live =
      let t = before s in
      let u = ending t in
      let state = state_of t p in
      let todo = down_if_up state ++ acts.Close ∷ [] in
      refuse_is t n live
      ∙ ap (λ (os : List Output). closing n.extra state (record (set_rest u p []) { outputs = os }))
      (sym (append-nil (told s n)))
      ∙ fold-after (act setup p n.extra) (act-after setup p n.extra) todo (told s n) [] (set_rest u p [])
      ∙ ap (after (told s n) []) (closing_same n.extra state u)
      ∙ ap (after (told s n) []) (sym (down_is t live))

  -- ---- what is refused at the front

  opened : (t : Turn) (message : List ℕ) → message_kind message ≡ OPEN
      → message_in setup t p message ≡ open_in setup t p (message_body message) (state_of t p)
  unfolding message_in
  opened t message kind =
      ap (λ (k : ℕ). if k == OPEN then open_in setup t p (message_body message) (state_of t p)
      else if k == UPDATE then update_in setup t p (message_body message) (state_of t p)
      else if k == NOTIFICATION then react setup t p stimuli.Notified []
      else react setup t p stimuli.Keepalive []) kind

  updated : (t : Turn) (message : List ℕ) → message_kind message ≡ UPDATE
      → message_in setup t p message ≡ update_in setup t p (message_body message) (state_of t p)
  unfolding message_in
  updated t message kind =
      ap (λ (k : ℕ). if k == OPEN then open_in setup t p (message_body message) (state_of t p)
      else if k == UPDATE then update_in setup t p (message_body message) (state_of t p)
      else if k == NOTIFICATION then react setup t p stimuli.Notified []
      else react setup t p stimuli.Keepalive []) kind

  open_refused : (t : Turn) (body : List ℕ) (n : Notification)
      → judge_open4 body (entry_of setup.config p).asn ≡ Some n → open_in setup t p body OpenSent ≡ refuse setup t p n
  unfolding open_in
  open_refused t body n judged = ap (judged_open setup t p body) judged

  update_refused : (t : Turn) (body : List ℕ) (n : Notification)
      → judge (width_of (is_wide (t.speaker).sessions p)) body ≡ Some n
      → update_in setup t p body Established ≡ refuse setup t p n
  unfolding update_in
  update_refused t body n judged = ap (judged_update setup t p body) judged

  -- turns that begin with a fault
  turns_fault : (turns : ℕ) (t : Turn) (w : List ℕ) (n : Notification) → 0 < turns → is_live (state_of t p) ≡ true
      → wait_of t p ≡ w → front_fault w ≡ Some n → take_turns setup turns t p ≡ refuse setup t p n
  turns_fault zero t w n some live is fault = absurd (omega (arith, some))
  turns_fault (suc turns) t w n some live is fault = take_turns-fault setup p turns t w n live is fault

  -- turns that begin with a message that ends the session
  turns_end : (turns k : ℕ) (t v : Turn) (w : List ℕ) → 0 < turns → is_live (state_of t p) ≡ true → wait_of t p ≡ w
      → message_size w ≡ Some k → message_in setup (set_wait t p (drop k w)) p (take k w) ≡ v
      → is_live (state_of v p) ≡ false → take_turns setup turns t p ≡ v
  turns_end zero k t v w some live is size gives dead = absurd (omega (arith, some))
  turns_end (suc turns) k t v w some live is size gives dead =
      take_turns-message setup p turns k t w live is size
      ∙ ap (λ (u : Turn). take_turns setup turns u p) gives
      ∙ take_turns-dead setup p turns v dead

  -- a message at the front that is refused
  message_refused : (t : Turn) (k : ℕ) (w : List ℕ) (n : Notification) → is_live (state_of t p) ≡ true
      → p - 1 < length (t.speaker).waits → message_size w ≡ Some k
      → ((u : Turn) → (u.speaker).sessions ≡ (t.speaker).sessions
      → message_in setup u p (take k w) ≡ refuse setup u p n)
      → take_turns setup (length w) (set_wait t p w) p ≡ refuse setup t p n
  message_refused t k w n live within size refuses =
      let ends = refuse_ends setup p n t live in
      let bounds = message_size_is_size w k size in
      let some : 0 < k = bounds.0 in
      let fits : k ≤ length w = bounds.1 in
      turns_end (length w) k (set_wait t p w) (refuse setup t p n) w (omega (arith, some, fits)) live
      (wait_of-set_wait t p w within) size
      (ap (λ (u : Turn). message_in setup u p (take k w)) (set_wait-set_wait t p w (drop k w))
      ∙ refuses (set_wait t p (drop k w)) refl
      ∙ ends.1 (drop k w))
      ends.0

  refused : (s : Speaker) (y : List ℕ) (n : Notification) → p - 1 < length s.waits
      → Refuses setup s p (wait_in s p ++ y) n → octets_in setup (before s) p y ≡ refuse setup (before s) p n
  refused s y n within r =
      let t = before s in
      let live : is_live (state_of t p) ≡ true = r.0 in
      let w = wait_of t p ++ y in
      let u = set_wait t p w in
      octets_in-live setup p t y live
      ∙ elim (r.1) [
        | inl fault ↦
            let long = front_fault_long w n fault in
            turns_fault (length w) u w n (omega (arith, long)) live (wait_of-set_wait t p w within) fault
            ∙ (refuse_ends setup p n t live).1 w
        | inr sized ↦
            let k = sized.0 in
            let size : message_size w ≡ Some k = sized.1 in
            let kept = message_kind-take w k (HasMessageLength-size w k size).header in
            message_refused t k w n live within size (λ v same. elim (sized.2) [
              | inl o ↦
                  opened v (take k w) (kept ∙ o.0)
                  ∙ ap (open_in setup v p (message_body (take k w))) (state_same p v t same ∙ o.1)
                  ∙ open_refused v (message_body (take k w)) n o.2
              | inr o ↦
                  updated v (take k w) (kept ∙ o.0)
                  ∙ ap (update_in setup v p (message_body (take k w))) (state_same p v t same ∙ o.1)
                  ∙ update_refused v (message_body (take k w)) n
                  (ap (λ (ss : List Owned). judge (width_of (is_wide ss p)) (message_body (take k w))) same ∙ o.2)
            ])
      ]

  -- octets that are refused, at the beginning of an event
  octets_refused : (s : Speaker) (y : List ℕ) (n : Notification) → p - 1 < length s.waits
      → Refuses setup s p (wait_in s p ++ y) n
      → octets_in setup (before s) p y ≡ after (told s n) [] (react setup (before s) p stimuli.LinkDown [])
  octets_refused s y n within r = refused s y n within r ∙ refuse_down s n r.0

-- the same after octets that are not refused
pub damage_holds : damage
unfolding event history turn
damage_holds rule setup s p [] y n reached peer refuses =
    let long = waits_long rule setup s reached in
    let e = octets_refused setup p s y n (omega (arith, long, peer)) refuses in
    (ap (λ (t : Turn). t.speaker) e, ap (λ (t : Turn). t.outputs) e)
damage_holds rule setup s p (b ∷ x) y n reached peer refuses =
    let v = octets_in setup (before s) p (b ∷ x) in
    let long = waits_long rule setup s reached in
    let longer = octets_in_long setup (before s) p (b ∷ x) in
    let e = octets_in-pieces setup p s (b ∷ x) y
    ∙ ap (after v.outputs v.trace) (octets_refused setup p v.speaker y n (omega (arith, long, longer, peer)) refuses) in
    let lost = react setup (before v.speaker) p stimuli.LinkDown [] in
    let a = put p (rest_in v.speaker p) in
    let c = put p (notice_of n) in (
      ap (λ (t : Turn). t.speaker) e,
      ap (λ (t : Turn). t.outputs) e
          ∙ sym (append_assoc v.outputs (a ++ c) lost.outputs)
          ∙ ap (λ (os : List Output). os ++ lost.outputs) (sym (append_assoc v.outputs a c))
          ∙ ap (λ (os : List Output). os ++ a ++ c ++ lost.outputs) (sym (append-nil v.outputs)),
    )

-- What a message does, by its type and its fault.
use Rattle.std.proofs.Common.{◌≡◌, ◌<◌, ◌-◌, ap, sym, ◌∙◌, ℕ, List, [], length}
use Rattle.std.proofs.Common.{arith, inl, inr, ◌⊎◌}
use Rattle.std.specs.Prelude.{slice_index_or, ◌==◌, if◌then◌else◌}
use Rattle.std.proofs.lemmas.List.{get_or_default}
use Rattle.xb_wire.specs.Messages.{Notification, message_kind, message_body}
use Rattle.bgp_attr.specs.Paths.{width_of}
use Rattle.bgp_check.specs.Judgement.{judge}
use Rattle.bgp_open.specs.Opens.{judge_open4}
use Rattle.bgp_fsm.specs.declared.State.{State}
use Rattle.bgp_fsm.specs.declared.State.TheVariants.{Idle, Connect, OpenSent, OpenConfirm, Established}
use Rattle.bgp_fsm.specs.Sessions.{Owned}
use Rattle.bgp_fsm.specs.declared.Stimulus.TheVariants as stimuli
use Rattle.spk_model.specs.declared.host.Setup.{Setup}
use Rattle.spk_model.specs.Sources.{session_of, entry_of, is_wide}
use Rattle.spk_model.specs.Turning.{Turn, message_in, react, refuse, open_in, judged_open, update_in, judged_update}
use Rattle.spk_model.specs.Turning.{state_of}
use Rattle.spk_session.specs.declared.links.Links.{Links}
use Rattle.spk_session.specs.Meaning.{Core, Does, HasPeer, state_in, turn_of}
use Rattle.spk_session.proofs.Following.{does_same}

-- a fault is the stimulus of its code
pub refused : (p : ℕ) (n : Notification) (a b : Core)
    → Does (λ s t. react s t p (stimuli.Fault n.code n.subcode) n.extra) a b → Does (λ s t. refuse s t p n) a b
unfolding refuse
refused p n a b d = record { ready = d.ready; setup = d.setup; speaker = d.speaker; outputs = d.outputs }

-- the session that was read is that of the peer
pub session_read : (l : Links) (p : ℕ) (own : Owned) → HasPeer l p → own ≡ slice_index_or (l.sessions).items (p - 1) own
    → own ≡ session_of (l.sessions).items p
session_read l p own peer is =
    let inside : p - 1 < length (l.sessions).items = omega (arith, peer.0, peer.1) in
    is ∙ get_or_default (l.sessions).items (p - 1) own (session_of [] p) inside

-- its state
pub state_read : (l : Links) (p : ℕ) (own : Owned) (s : State) → HasPeer l p
    → own ≡ slice_index_or (l.sessions).items (p - 1) own → s ≡ (own.session).state → state_in l p ≡ s
state_read l p own s peer is e =
    sym (e ∙ ap (λ (x : Owned). (x.session).state) (session_read l p own peer is))

judged_so : (setup : Setup) (t : Turn) (p : ℕ) (body : List ℕ) (state : State) → state ≡ OpenSent
    → judged_open setup t p body (judge_open4 body (entry_of setup.config p).asn) ≡ open_in setup t p body state
unfolding open_in
judged_so setup t p body state is = sym (ap (λ (s : State). open_in setup t p body s) is)

-- an OPEN in OpenSent is judged
pub opened : (p : ℕ) (body : List ℕ) (a b : Core) → state_in a.links p ≡ OpenSent
    → Does (λ s t. judged_open s t p body (judge_open4 body (entry_of (s.config) p).asn)) a b
    → Does (λ s t. open_in s t p body (state_of t p)) a b
opened p body a b is d =
    does_same (λ s t. judged_open s t p body (judge_open4 body (entry_of (s.config) p).asn))
    (λ s t. open_in s t p body (state_of t p)) a b
    (λ waits trace. judged_so a.setup (turn_of waits trace a) p body (state_in a.links p) is) d

-- one of four states
abbrev pub IsOneOf : State → State → State → State → State → Type 0
IsOneOf s a b c d = (s ≡ a) ⊎ ((s ≡ b) ⊎ ((s ≡ c) ⊎ (s ≡ d)))

late_so : (setup : Setup) (t : Turn) (p : ℕ) (body : List ℕ) (state : State)
    → IsOneOf state Idle Connect OpenConfirm Established
    → react setup t p stimuli.OpenLate [] ≡ open_in setup t p body state
unfolding open_in
late_so setup t p body state (inl e) = sym (ap (λ (s : State). open_in setup t p body s) e)
late_so setup t p body state (inr (inl e)) = sym (ap (λ (s : State). open_in setup t p body s) e)
late_so setup t p body state (inr (inr (inl e))) = sym (ap (λ (s : State). open_in setup t p body s) e)
late_so setup t p body state (inr (inr (inr e))) = sym (ap (λ (s : State). open_in setup t p body s) e)

-- an OPEN in another state
pub opened_late : (p : ℕ) (body : List ℕ) (a b : Core) (s : State) → state_in a.links p ≡ s
    → IsOneOf s Idle Connect OpenConfirm Established → Does (λ s t. react s t p stimuli.OpenLate []) a b
    → Does (λ s t. open_in s t p body (state_of t p)) a b
opened_late p body a b s is other d =
    does_same (λ s t. react s t p stimuli.OpenLate []) (λ s t. open_in s t p body (state_of t p)) a b
    (λ waits trace. late_so a.setup (turn_of waits trace a) p body s other
    ∙ ap (λ (x : State). open_in a.setup (turn_of waits trace a) p body x) (sym is)) d

update_so : (setup : Setup) (t : Turn) (p : ℕ) (body : List ℕ) (state : State) → state ≡ Established
    → judged_update setup t p body (judge (width_of (is_wide (t.speaker).sessions p)) body)
    ≡ update_in setup t p body state
unfolding update_in
update_so setup t p body state is = sym (ap (λ (s : State). update_in setup t p body s) is)

-- an UPDATE in Established is judged
pub updated : (p : ℕ) (body : List ℕ) (a b : Core) → state_in a.links p ≡ Established
    → Does (λ s t. judged_update s t p body (judge (width_of (is_wide (t.speaker).sessions p)) body)) a b
    → Does (λ s t. update_in s t p body (state_of t p)) a b
updated p body a b is d =
    does_same (λ s t. judged_update s t p body (judge (width_of (is_wide (t.speaker).sessions p)) body))
    (λ s t. update_in s t p body (state_of t p)) a b
    (λ waits trace. update_so a.setup (turn_of waits trace a) p body (state_in a.links p) is) d

early_so : (setup : Setup) (t : Turn) (p : ℕ) (body : List ℕ) (state : State)
    → IsOneOf state Idle Connect OpenSent OpenConfirm
    → react setup t p stimuli.Update [] ≡ update_in setup t p body state
unfolding update_in
early_so setup t p body state (inl e) = sym (ap (λ (s : State). update_in setup t p body s) e)
early_so setup t p body state (inr (inl e)) = sym (ap (λ (s : State). update_in setup t p body s) e)
early_so setup t p body state (inr (inr (inl e))) = sym (ap (λ (s : State). update_in setup t p body s) e)
early_so setup t p body state (inr (inr (inr e))) = sym (ap (λ (s : State). update_in setup t p body s) e)

-- an UPDATE in another state
pub updated_early : (p : ℕ) (body : List ℕ) (a b : Core) (s : State) → state_in a.links p ≡ s
    → IsOneOf s Idle Connect OpenSent OpenConfirm → Does (λ s t. react s t p stimuli.Update []) a b
    → Does (λ s t. update_in s t p body (state_of t p)) a b
updated_early p body a b s is other d =
    does_same (λ s t. react s t p stimuli.Update []) (λ s t. update_in s t p body (state_of t p)) a b
    (λ waits trace. early_so a.setup (turn_of waits trace a) p body s other
    ∙ ap (λ (x : State). update_in a.setup (turn_of waits trace a) p body x) (sym is)) d

-- what a message does, by its type and its body
abbrev pub by_kind : Setup → ℕ → ℕ → List ℕ → Turn → Turn
by_kind setup p kind body t =
    if kind == 1 then open_in setup t p body (state_of t p)
    else if kind == 2 then update_in setup t p body (state_of t p)
    else if kind == 3 then react setup t p stimuli.Notified []
    else react setup t p stimuli.Keepalive []

message_so : (setup : Setup) (t : Turn) (p kind : ℕ) (body message : List ℕ) → message_kind message ≡ kind
    → message_body message ≡ body → by_kind setup p kind body t ≡ message_in setup t p message
unfolding message_in
message_so setup t p kind body message is same =
    ap (λ (k : ℕ). by_kind setup p k body t) (sym is)
    ∙ ap (λ (x : List ℕ). by_kind setup p (message_kind message) x t) (sym same)

-- a message of a type with a body
pub message_taken : (p kind type : ℕ) (body : List ℕ) (a b : Core) → kind ≡ type
    → Does (λ s t. by_kind s p type body t) a b → (message : List ℕ) → message_kind message ≡ kind
    → message_body message ≡ body → Does (λ s t. message_in s t p message) a b
message_taken p kind type body a b is d message kinds bodies =
    does_same (λ s t. by_kind s p type body t) (λ s t. message_in s t p message) a b
    (λ waits trace. message_so a.setup (turn_of waits trace a) p type body message (kinds ∙ is) bodies) d

-- A message, a fault and nothing at the front of what waits.
use Rattle.std.proofs.Common.{◌≡◌, ◌≤◌, ◌<◌, ◌-◌, refl, sym, ◌∙◌, ap, ℕ, zero, suc, Bool, true, false, List}
use Rattle.std.proofs.Common.{[], ◌∷◌, ◌++◌, length, take, drop, Option, Some, None, arith, Vec}
use Rattle.std.specs.Prelude.{if◌then◌else◌}
use Rattle.std.specs.List.{slice_set, slice_index_or}
use Rattle.std.specs.declared.alloc.Global.{Global}
use Rattle.std.proofs.lemmas.List.{set-set, get_or-set_same, length-drop}
use Rattle.xb_wire.specs.Messages.{Notification, message_size, front_fault}
use Rattle.xb_wire.proofs.MessageLemmas.{message_size_is_size}
use Rattle.bgp_fsm.specs.Sessions.{is_live}
use Rattle.spk_model.specs.declared.host.Setup.{Setup}
use Rattle.spk_model.specs.Choosing.{Trace}
use Rattle.spk_model.specs.Turning.{Turn, wait_of, set_wait, state_of, take_turns, octets_in, message_in}
use Rattle.spk_model.specs.Turning.{refuse, front_in, when_true}
use Rattle.spk_session.specs.Meaning.{Core, Does, IsReady, IsCalm, state_in, speaker_of, turn_of, kept}
use Rattle.spk_session.specs.Taking.{Ends, Comes, IsDrained, Receives}
use Rattle.spk_session.proofs.Dropping.{kept-calm}
use Rattle.spk_session.proofs.Following.{turn_by_parts}

-- a turn of a core, with what waits put at a peer
abbrev pub turn_at : List (List ℕ) → ℕ → List ℕ → Trace → Core → Turn
turn_at waits p left trace c = turn_of (slice_set waits (p - 1) left) trace c

-- a turn with other octets that wait
abbrev pub turn_with : Trace → Core → List (List ℕ) → Turn
turn_with trace c ws = record {
  speaker = record {
    clock = (c.links).clock;
    sessions = ((c.links).sessions).items;
    rests = ((c.links).rests).items;
    waits = ws;
    routing = c.routing;
  };
  outputs = (c.links).outputs;
  trace = trace;
}

pub calm_kept : (c : Core) (waits : List (List ℕ)) → IsCalm c.links → kept ((c.links).dropped).items waits ≡ waits
calm_kept c waits calm = ap (λ (ds : List Bool). kept ds waits) calm
    ∙ kept-calm (length ((c.links).sessions).items) waits

pub wait_there : (c : Core) (waits : List (List ℕ)) (p : ℕ) (left : List ℕ) (trace : Trace) → IsCalm c.links
    → p - 1 < length waits → wait_of (turn_at waits p left trace c) p ≡ left
wait_there c waits p left trace calm inside =
    ap (λ (ws : List (List ℕ)). slice_index_or ws (p - 1) []) (calm_kept c (slice_set waits (p - 1) left) calm)
    ∙ get_or-set_same waits (p - 1) left [] inside

pub wait_set : (c : Core) (waits : List (List ℕ)) (p : ℕ) (left other : List ℕ) (trace : Trace) → IsCalm c.links
    → set_wait (turn_at waits p left trace c) p other ≡ turn_at waits p other trace c
wait_set c waits p left other trace calm =
    ap (λ (ws : List (List ℕ)). turn_with trace c (slice_set ws (p - 1) other))
    (calm_kept c (slice_set waits (p - 1) left) calm)
    ∙ ap (turn_with trace c) (set-set waits (p - 1) left other)
    ∙ ap (turn_with trace c) (sym (calm_kept c (slice_set waits (p - 1) other) calm))

-- a live session takes a message at the front
pub message_turn : (c : Core) (waits : List (List ℕ)) (p n m : ℕ) (left : List ℕ) (trace : Trace) → IsCalm c.links
    → p - 1 < length waits → is_live (state_in c.links p) ≡ true → message_size left ≡ Some n
    → take_turns c.setup (suc m) (turn_at waits p left trace c) p ≡ take_turns c.setup m
    (message_in c.setup (turn_at waits p (drop n left) trace c) p (take n left)) p
unfolding take_turns
message_turn c waits p n m left trace calm inside live is =
    let t : Turn = turn_at waits p left trace c in
    let w : wait_of t p ≡ left = wait_there c waits p left trace calm inside in
    ap (λ (b : Bool). when_true c.setup b (λ u. front_in c.setup (λ v. take_turns c.setup m v p) u p
    (message_size (wait_of u p)) (front_fault (wait_of u p))) t) live
    ∙ ap (λ (o : Option ℕ). front_in c.setup (λ v. take_turns c.setup m v p) t p o (front_fault (wait_of t p)))
    (ap message_size w ∙ is)
    ∙ ap (λ (x : List ℕ). take_turns c.setup m (message_in c.setup (set_wait t p (drop n x)) p (take n x)) p) w
    ∙ ap (λ (u : Turn). take_turns c.setup m (message_in c.setup u p (take n left)) p)
    (wait_set c waits p left (drop n left) trace calm)

-- a live session refuses a header at the front
pub fault_turn : (c : Core) (waits : List (List ℕ)) (p m : ℕ) (f : Notification) (left : List ℕ) (trace : Trace)
    → IsCalm c.links → p - 1 < length waits → is_live (state_in c.links p) ≡ true → message_size left ≡ None
    → front_fault left ≡ Some f
    → take_turns c.setup (suc m) (turn_at waits p left trace c) p ≡ refuse c.setup (turn_at waits p left trace c) p f
unfolding take_turns
fault_turn c waits p m f left trace calm inside live none is =
    let t : Turn = turn_at waits p left trace c in
    let w : wait_of t p ≡ left = wait_there c waits p left trace calm inside in
    ap (λ (b : Bool). when_true c.setup b (λ u. front_in c.setup (λ v. take_turns c.setup m v p) u p
    (message_size (wait_of u p)) (front_fault (wait_of u p))) t) live
    ∙ ap (λ (o : Option ℕ). front_in c.setup (λ v. take_turns c.setup m v p) t p o (front_fault (wait_of t p)))
    (ap message_size w ∙ none)
    ∙ ap (λ (o : Option Notification). front_in c.setup (λ v. take_turns c.setup m v p) t p None o) (ap front_fault w
    ∙ is)

live_or_not : (s : Setup) (b : Bool) (go : Turn → Turn) (t : Turn) → go t ≡ t → when_true s b go t ≡ t
live_or_not s true go t e = e
live_or_not s false go t e = refl

-- if neither a message nor a fault is at the front, nothing is done
pub still_turn : (c : Core) (waits : List (List ℕ)) (p m : ℕ) (left : List ℕ) (trace : Trace) → IsCalm c.links
    → p - 1 < length waits → message_size left ≡ None → front_fault left ≡ None
    → take_turns c.setup m (turn_at waits p left trace c) p ≡ turn_at waits p left trace c
unfolding take_turns
still_turn c waits p zero left trace calm inside none good = refl
still_turn c waits p (suc m) left trace calm inside none good =
    let t : Turn = turn_at waits p left trace c in
    let w : wait_of t p ≡ left = wait_there c waits p left trace calm inside in
    live_or_not c.setup (is_live (state_of t p)) (λ u. front_in c.setup (λ v. take_turns c.setup m v p) u p
    (message_size (wait_of u p)) (front_fault (wait_of u p))) t
    (ap (λ (o : Option ℕ). front_in c.setup (λ v. take_turns c.setup m v p) t p o (front_fault (wait_of t p)))
    (ap message_size w ∙ none)
    ∙ ap (λ (o : Option Notification). front_in c.setup (λ v. take_turns c.setup m v p) t p None o) (ap front_fault w
    ∙ good))

no_turns : (c : Core) (t : Turn) (p : ℕ) → take_turns c.setup 0 t p ≡ t
unfolding take_turns
no_turns c t p = refl

pub ends_here : (c : Core) (p : ℕ) (left : List ℕ) → IsReady c → IsCalm c.links → message_size left ≡ None
    → front_fault left ≡ None → Ends p left c left c
ends_here c p left ready calm none good =
    record {
      ready = ready;
      calm = calm;
      setup = refl;
      speaker = λ waits trace m few inside. ap (λ (t : Turn). t.speaker)
          (still_turn c waits p m left trace calm inside none good);
      outputs = λ waits trace m few inside. ap (λ (t : Turn). t.outputs)
          (still_turn c waits p m left trace calm inside none good);
    }

-- other flags
abbrev pub flagged : Core → Vec Bool Global → Core
flagged c ds = record c { links = record c.links { dropped = ds } }

-- after a step of a core, other flags with other buffers say the same
abbrev pub Same : ℕ → List ℕ → Core → List ℕ → Vec Bool Global → Type 0
Same p left b left' ds = (waits : List (List ℕ))
    → kept ((b.links).dropped).items (slice_set waits (p - 1) left) ≡ kept ds.items (slice_set waits (p - 1) left')

met : (step : Setup → Turn → Turn) (a b : Core) (ds : Vec Bool Global) (waits : List (List ℕ)) (p : ℕ)
    (left left' : List ℕ) (trace : Trace) → Does step a b → Same p left b left' ds
    → step a.setup (turn_at waits p left trace a) ≡ turn_at waits p left'
    (step a.setup (turn_at waits p left trace a)).trace (flagged b ds)
met step a b ds waits p left left' trace d same =
    let t : Turn = step a.setup (turn_at waits p left trace a) in
    turn_by_parts t (speaker_of (slice_set waits (p - 1) left) b) (b.links).outputs
    (d.speaker (slice_set waits (p - 1) left) trace) (d.outputs (slice_set waits (p - 1) left) trace)
    ∙ ap (turn_with t.trace b) (same waits)

message_comes_at : (m : ℕ) (a b : Core) (ds : Vec Bool Global) (waits : List (List ℕ)) (p n : ℕ) (left left' : List ℕ)
    (trace : Trace) (end : List ℕ) (last : Core)
    → IsCalm a.links → p - 1 < length waits → is_live (state_in a.links p) ≡ true → message_size left ≡ Some n
    → Does (λ setup t. message_in setup t p (take n left)) a b → Same p (drop n left) b left' ds
    → length left' ≤ length (drop n left)
    → Ends p left' (flagged b ds) end last → length left ≤ m
    → ((take_turns a.setup m (turn_at waits p left trace a) p).speaker ≡ speaker_of
    (slice_set waits (p - 1) end) last) × ((take_turns a.setup m (turn_at waits p left trace a) p).outputs ≡
    (last.links).outputs)
message_comes_at zero a b ds waits p n left left' trace end last calm inside live is d same fewer e few =
    let size = message_size_is_size left n is in
    absurd (omega (arith, size.0, size.1, few))
message_comes_at (suc m) a b ds waits p n left left' trace end last calm inside live is d same fewer e few =
    let size = message_size_is_size left n is in
    let enough : length left' ≤ m = omega (arith, size.0, size.1, few, fewer, length-drop n left) in
    let t : Turn = message_in a.setup (turn_at waits p (drop n left) trace a) p (take n left) in
    let all : take_turns a.setup (suc m) (turn_at waits p left trace a) p ≡ take_turns ((flagged b ds).setup) m
    (turn_at waits p left' t.trace (flagged b ds)) p =
    message_turn a waits p n m left trace calm inside live is
    ∙ ap (λ (u : Turn). take_turns a.setup m u p) (met (λ setup t. message_in setup t p (take n left)) a b ds waits p
    (drop n left) left' trace d same)
    ∙ ap (λ (s : Setup). take_turns s m (turn_at waits p left' t.trace (flagged b ds)) p) (sym d.setup) in (
      ap (λ (u : Turn). u.speaker) all ∙ e.speaker waits t.trace m enough inside,
      ap (λ (u : Turn). u.outputs) all
          ∙ e.outputs waits t.trace m enough inside,
    )

-- a message was taken: what is to come from there on is what was to come
pub message_comes : (a b : Core) (ds : Vec Bool Global) (p n : ℕ) (left left' : List ℕ)
    → IsCalm a.links → is_live (state_in a.links p) ≡ true → message_size left ≡ Some n
    → Does (λ setup t. message_in setup t p (take n left)) a b → Same p (drop n left) b left' ds
    → length left' ≤ length (drop n left)
    → Comes p left a left' (flagged b ds)
message_comes a b ds p n left left' calm live is d same fewer end last e =
    record {
      ready = e.ready;
      calm = e.calm;
      setup = e.setup ∙ d.setup;
      speaker = λ waits trace m few inside. (message_comes_at m a b ds waits p n left left' trace end last calm inside
          live is d same fewer e few).0;
      outputs = λ waits trace m few inside. (message_comes_at m a b ds waits p n left left' trace end last calm inside
          live is d same fewer e few).1;
    }

fault_comes_at : (m : ℕ) (a b : Core) (ds : Vec Bool Global) (waits : List (List ℕ)) (p : ℕ) (f : Notification)
    (left : List ℕ) (trace : Trace) (end : List ℕ) (last : Core)
    → IsCalm a.links → p - 1 < length waits → is_live (state_in a.links p) ≡ true → message_size left ≡ None
    → front_fault left ≡ Some f
    → Does (λ setup t. refuse setup t p f) a b → Same p left b [] ds
    → Ends p [] (flagged b ds) end last → 1 ≤ length left → length left ≤ m
    → ((take_turns a.setup m (turn_at waits p left trace a) p).speaker ≡ speaker_of
    (slice_set waits (p - 1) end) last) × ((take_turns a.setup m (turn_at waits p left trace a) p).outputs ≡
    (last.links).outputs)
fault_comes_at zero a b ds waits p f left trace end last calm inside live none is d same e some few =
    absurd (omega (arith, some, few))
fault_comes_at (suc m) a b ds waits p f left trace end last calm inside live none is d same e some few =
    let t : Turn = refuse a.setup (turn_at waits p left trace a) p f in
    let enough : 0 ≤ 0 = omega arith in
    let all : take_turns a.setup (suc m) (turn_at waits p left trace a) p ≡ take_turns ((flagged b ds).setup) 0
    (turn_at waits p [] t.trace (flagged b ds)) p =
    fault_turn a waits p m f left trace calm inside live none is
    ∙ met (λ setup t. refuse setup t p f) a b ds waits p left [] trace d same
    ∙ sym (no_turns (flagged b ds) (turn_at waits p [] t.trace (flagged b ds)) p) in (
      ap (λ (u : Turn). u.speaker) all ∙ e.speaker waits t.trace 0 enough inside,
      ap (λ (u : Turn). u.outputs) all
          ∙ e.outputs waits t.trace 0 enough inside,
    )

some_left : (left : List ℕ) (f : Notification) → front_fault left ≡ Some f → 1 ≤ length left
some_left [] f e = cc
some_left (x ∷ left) f e = omega arith

-- a header was refused
pub fault_comes : (a b : Core) (ds : Vec Bool Global) (p : ℕ) (f : Notification) (left : List ℕ)
    → IsCalm a.links → is_live (state_in a.links p) ≡ true → message_size left ≡ None → front_fault left ≡ Some f
    → Does (λ setup t. refuse setup t p f) a b → Same p left b [] ds → Comes p left a [] (flagged b ds)
fault_comes a b ds p f left calm live none is d same end last e =
    let some : 1 ≤ length left = some_left left f is in
    record {
      ready = e.ready;
      calm = e.calm;
      setup = e.setup ∙ d.setup;
      speaker = λ waits trace m few inside. (fault_comes_at m a b ds waits p f left trace end last calm inside live
          none is d same e some few).0;
      outputs = λ waits trace m few inside. (fault_comes_at m a b ds waits p f left trace end last calm inside live
          none is d same e some few).1;
    }

octets_turn : (c : Core) (waits : List (List ℕ)) (p : ℕ) (w bytes : List ℕ) (trace : Trace) → IsCalm c.links
    → p - 1 < length waits → is_live (state_in c.links p) ≡ true
    → octets_in c.setup (turn_at waits p w trace c) p bytes ≡ take_turns c.setup (length (w ++ bytes))
    (turn_at waits p (w ++ bytes) trace c) p
unfolding octets_in
octets_turn c waits p w bytes trace calm inside live =
    let t : Turn = turn_at waits p w trace c in
    ap (λ (b : Bool). if b then take_turns c.setup (length ((wait_of t p) ++ bytes))
    (set_wait t p ((wait_of t p) ++ bytes)) p else t) live
    ∙ ap (λ (x : List ℕ). take_turns c.setup (length (x ++ bytes)) (set_wait t p (x ++ bytes)) p)
    (wait_there c waits p w trace calm inside)
    ∙ ap (λ (u : Turn). take_turns c.setup (length (w ++ bytes)) u p) (wait_set c waits p w (w ++ bytes) trace calm)

octets_idle : (c : Core) (waits : List (List ℕ)) (p : ℕ) (w bytes : List ℕ) (trace : Trace)
    → is_live (state_in c.links p) ≡ false
    → octets_in c.setup (turn_at waits p w trace c) p bytes ≡ turn_at waits p w trace c
unfolding octets_in
octets_idle c waits p w bytes trace idle =
    let t : Turn = turn_at waits p w trace c in
    ap (λ (b : Bool). if b then take_turns c.setup (length ((wait_of t p) ++ bytes))
    (set_wait t p ((wait_of t p) ++ bytes)) p else t) idle

pub received : (c : Core) (p : ℕ) (w bytes w' : List ℕ) (c' : Core) → IsCalm c.links
    → is_live (state_in c.links p) ≡ true → IsDrained w' → Ends p (w ++ bytes) c w' c' → Receives p bytes w c w' c'
received c p w bytes w' c' calm live drained e =
    let enough : length (w ++ bytes) ≤ length (w ++ bytes) = omega arith in
    record {
      ready = e.ready;
      calm = e.calm;
      drained = drained;
      setup = e.setup;
      speaker = λ waits trace inside. ap (λ (u : Turn). u.speaker)
          (octets_turn c waits p w bytes trace calm inside live)
          ∙ e.speaker waits trace (length (w ++ bytes)) enough inside;
      outputs = λ waits trace inside. ap (λ (u : Turn). u.outputs)
          (octets_turn c waits p w bytes trace calm inside live)
          ∙ e.outputs waits trace (length (w ++ bytes)) enough inside;
    }

pub ignored : (c : Core) (p : ℕ) (w bytes : List ℕ) → IsReady c → IsCalm c.links
    → is_live (state_in c.links p) ≡ false → IsDrained w → Receives p bytes w c w c
ignored c p w bytes ready calm idle drained =
    record {
      ready = ready;
      calm = calm;
      drained = drained;
      setup = refl;
      speaker = λ waits trace inside. ap (λ (u : Turn). u.speaker) (octets_idle c waits p w bytes trace idle);
      outputs = λ waits trace inside. ap (λ (u : Turn). u.outputs) (octets_idle c waits p w bytes trace idle);
    }

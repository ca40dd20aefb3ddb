-- What it is to take messages from the front of what waits for a peer, which is in a buffer beside both halves (this
-- project's own).
use Rattle.std.specs.Prelude.{◌≡◌, ℕ, ◌-◌, ◌≤◌, ◌<◌, Bool, true, false, List, [], ◌++◌, length, None}
use Rattle.std.specs.List.{slice_set}
use Rattle.xb_wire.specs.declared.numbers.TheConstants.{MAX_MESSAGE}
use Rattle.xb_wire.specs.Messages.{message_size, front_fault}
use Rattle.bgp_fsm.specs.Sessions.{is_live}
use Rattle.spk_model.specs.Choosing.{Trace}
use Rattle.spk_model.specs.Turning.{take_turns, octets_in}
use Rattle.spk_session.specs.declared.wire.Front.{Front}
use Rattle.spk_session.specs.declared.wire.Front.TheVariants.{Took, Waits, Dropped}
use Rattle.spk_session.specs.Meaning.{Core, IsReady, IsCalm, state_in, speaker_of, turn_of}

-- taking all that can be taken of some octets ends with others, and another core; how often a message may be taken does
-- not matter if it is often enough
pub record Ends (p : ℕ) (left : List ℕ) (c : Core) (left' : List ℕ) (c' : Core) : Type 0 where
  pub ready : IsReady c'
  pub calm : IsCalm c'.links
  pub setup : c'.setup ≡ c.setup
  pub speaker : (waits : List (List ℕ)) (trace : Trace) (m : ℕ) → length left ≤ m → p - 1 < length waits
      → (take_turns c.setup m (turn_of (slice_set waits (p - 1) left) trace c) p).speaker
      ≡ speaker_of (slice_set waits (p - 1) left') c'
  pub outputs : (waits : List (List ℕ)) (trace : Trace) (m : ℕ) → length left ≤ m → p - 1 < length waits
      → (take_turns c.setup m (turn_of (slice_set waits (p - 1) left) trace c) p).outputs ≡ (c'.links).outputs

-- what is still to come is the same from here and from there
abbrev pub Comes : ℕ → List ℕ → Core → List ℕ → Core → Type 0
Comes p left c left' c' = (end : List ℕ) (last : Core) → Ends p left' c' end last → Ends p left c end last

-- the octets begin with no message and no fault
pub record IsDrained (waits : List ℕ) : Type 0 where
  pub none : message_size waits ≡ None
  pub good : front_fault waits ≡ None
  pub short : length waits < MAX_MESSAGE

-- a core that goes on with a peer
pub record IsOpen (p : ℕ) (old new : Core) : Type 0 where
  pub ready : IsReady new
  pub calm : IsCalm new.links
  pub setup : new.setup ≡ old.setup
  pub live : is_live (state_in new.links p) ≡ true

-- a peer was closed, and its octets dropped
pub record IsClosed (p : ℕ) (w : List ℕ) (c : Core) (w' : List ℕ) (c' : Core) : Type 0 where
  pub ready : IsReady c'
  pub calm : IsCalm c'.links
  pub gone : w' ≡ []
  pub comes : (tail : List ℕ) → Comes p (w ++ tail) c [] c'

-- a message was taken
pub record IsTaken (p : ℕ) (w : List ℕ) (c : Core) (w' : List ℕ) (c' : Core) : Type 0 where
  pub open' : IsOpen p c c'
  pub less : length w' < length w
  pub comes : (tail : List ℕ) → Comes p (w ++ tail) c (w' ++ tail) c'

-- nothing can be taken
pub record IsStill (w : List ℕ) (c : Core) (w' : List ℕ) (c' : Core) : Type 0 where
  pub same : w' ≡ w
  pub core : c' ≡ c
  pub drained : IsDrained w

-- what became of the front
abbrev pub FrontBy : Front → ℕ → List ℕ → Core → List ℕ → Core → Type 0
FrontBy Took p w c w' c' = IsTaken p w c w' c'
FrontBy Waits p w c w' c' = IsStill w c w' c'
FrontBy Dropped p w c w' c' = IsClosed p w c w' c'

-- all that could be taken was taken, and the session is live
pub record IsAll (p : ℕ) (w : List ℕ) (c : Core) (w' : List ℕ) (c' : Core) : Type 0 where
  pub open' : IsOpen p c c'
  pub drained : IsDrained w'
  pub comes : (tail : List ℕ) → Comes p (w ++ tail) c (w' ++ tail) c'

-- all that could be taken was taken, and the session is live or was closed
abbrev pub AllBy : Bool → ℕ → List ℕ → Core → List ℕ → Core → Type 0
AllBy true p w c w' c' = IsAll p w c w' c'
AllBy false p w c w' c' = IsClosed p w c w' c'

-- both halves and the buffer went on as the definition says of octets that come
pub record Receives (p : ℕ) (bytes : List ℕ) (w : List ℕ) (c : Core) (w' : List ℕ) (c' : Core) : Type 0 where
  pub ready : IsReady c'
  pub calm : IsCalm c'.links
  pub drained : IsDrained w'
  pub setup : c'.setup ≡ c.setup
  pub speaker : (waits : List (List ℕ)) (trace : Trace) → p - 1 < length waits
      → (octets_in c.setup (turn_of (slice_set waits (p - 1) w) trace c) p bytes).speaker
      ≡ speaker_of (slice_set waits (p - 1) w') c'
  pub outputs : (waits : List (List ℕ)) (trace : Trace) → p - 1 < length waits
      → (octets_in c.setup (turn_of (slice_set waits (p - 1) w) trace c) p bytes).outputs ≡ (c'.links).outputs

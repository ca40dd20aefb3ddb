-- Which abstract speaker the two halves of a host are, and what it is for a function to follow a definition (this
-- project's own).
use Rattle.std.specs.Prelude.{◌≡◌, ℕ, ◌-◌, ◌≤◌, Bool, true, false, List, [], ◌∷◌, length, replicate}
use Rattle.std.specs.List.{slice_index_or}
use Rattle.xb_wire.specs.declared.numbers.TheConstants.{MAX_MESSAGE}
use Rattle.bgp_fsm.specs.declared.State.{State}
use Rattle.xbgp_config.specs.declared.limits.TheConstants.{MAX_PEERS}
use Rattle.spk_model.specs.declared.host.Setup.{Setup}
use Rattle.spk_model.specs.Choosing.{Trace}
use Rattle.spk_model.specs.Sources.{session_of}
use Rattle.spk_model.specs.Routing.{Routing}
use Rattle.spk_model.specs.Turning.{Speaker, Turn}
use Rattle.spk_session.specs.declared.links.Links.{Links}

-- what is kept of the peers, with what is seen of the half that keeps routes
pub record Core : Type 0 where
  pub setup : Setup
  pub routing : Routing
  pub links : Links

-- the same by its parts
abbrev pub core_of : Setup → Routing → Links → Core
core_of setup routing links = record { setup = setup; routing = routing; links = links }

-- octets that wait, or none if they are to be dropped
abbrev pub kept_one : Bool → List ℕ → List ℕ
kept_one true piece = []
kept_one false piece = piece

-- what waits, except of the peers whose octets are to be dropped
abbrev pub kept : List Bool → List (List ℕ) → List (List ℕ)
kept [] waits = waits
kept (d ∷ ds) [] = []
kept (d ∷ ds) (w ∷ waits) = kept_one d w ∷ kept ds waits

-- the speaker, by the octets in the buffers of the peers, which are kept apart
abbrev pub speaker_of : List (List ℕ) → Core → Speaker
speaker_of waits c = record {
  clock = (c.links).clock;
  sessions = ((c.links).sessions).items;
  rests = ((c.links).rests).items;
  waits = kept ((c.links).dropped).items waits;
  routing = c.routing;
}

-- that speaker within an event, whatever chains ran before
abbrev pub turn_of : List (List ℕ) → Trace → Core → Turn
turn_of waits trace c = record { speaker = speaker_of waits c; outputs = (c.links).outputs; trace = trace }

-- each list has an item for each peer, and there is room for any message
pub record IsEven (l : Links) : Type 0 where
  pub few : length (l.sessions).items ≤ MAX_PEERS
  pub rests : length (l.rests).items ≡ length (l.sessions).items
  pub flags : length (l.dropped).items ≡ length (l.sessions).items
  pub room : MAX_MESSAGE ≤ (l.message).capacity

-- the peers are those that are configured
pub record IsReady (c : Core) : Type 0 where
  pub even : IsEven c.links
  pub count : length ((c.links).sessions).items ≡ length ((c.setup).config).peers

-- no octets are to be dropped
abbrev pub IsCalm : Links → Type 0
IsCalm l = (l.dropped).items ≡ replicate (length (l.sessions).items) false

-- the number of a peer
abbrev pub HasPeer : Links → ℕ → Type 0
HasPeer l p = (1 ≤ p) × (p ≤ length (l.sessions).items)

-- the octets of a peer are to be dropped
abbrev pub flag_of : Links → ℕ → Bool
flag_of l p = slice_index_or (l.dropped).items (p - 1) false

-- the state of a peer's session
abbrev pub state_in : Links → ℕ → State
state_in l p = ((session_of (l.sessions).items p).session).state

-- both halves went on as a definition says, whatever is in the buffers and whatever chains ran before
pub record Does (step : Setup → Turn → Turn) (old new : Core) : Type 0 where
  pub ready : IsReady new
  pub setup : new.setup ≡ old.setup
  pub speaker : (waits : List (List ℕ)) (trace : Trace)
      → (step old.setup (turn_of waits trace old)).speaker ≡ speaker_of waits new
  pub outputs : (waits : List (List ℕ)) (trace : Trace)
      → (step old.setup (turn_of waits trace old)).outputs ≡ (new.links).outputs

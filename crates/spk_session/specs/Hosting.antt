-- What a host keeps between two events, and what an event does to it (this project's own).
use Rattle.std.specs.Prelude.{◌≡◌, ℕ, List, [], map, length}
use Rattle.std.specs.List.{All}
use Rattle.xb_domain.specs.declared.output.Packing.{Packing}
use Rattle.xb_domain.specs.Events.{Event}
use Rattle.bgp_frame.specs.Waiting.{Waiting}
use Rattle.spk_model.specs.Choosing.{Trace}
use Rattle.spk_model.specs.Turning.{Speaker, turn}
use Rattle.spk_session.specs.Meaning.{Core, IsReady, IsCalm, speaker_of, turn_of}
use Rattle.spk_session.specs.Taking.{IsDrained}

-- the octets in the buffers of all peers
abbrev pub waits_of : List Waiting → List (List ℕ)
waits_of frames = map (λ f. f.waits) frames

-- no message and no fault can be taken from a buffer
abbrev pub AreDrained : List (List ℕ) → Type 0
AreDrained waits = All IsDrained waits

-- between two events there is a buffer for each peer, from which nothing can be taken, and no output
pub record IsSound (frames : List Waiting) (c : Core) : Type 0 where
  pub ready : IsReady c
  pub calm : IsCalm c.links
  pub silent : (c.links).outputs ≡ []
  pub count : length frames ≡ length ((c.links).sessions).items
  pub drained : AreDrained (waits_of frames)

-- the speaker that a host shows
abbrev pub shown : List Waiting → Core → Speaker
shown frames c = speaker_of (waits_of frames) c

-- buffers and both halves went on as the definition says of an event, if the flags are looked at
pub record Turns (rule : Packing) (event : Event) (frames : List Waiting) (old : Core) (frames' : List Waiting)
    (new : Core) : Type 0 where
  pub ready : IsReady new
  pub setup : new.setup ≡ old.setup
  pub count : length frames' ≡ length frames
  pub drained : AreDrained (waits_of frames')
  pub speaker : (trace : Trace)
      → (turn rule old.setup (turn_of (waits_of frames) trace old) event).speaker ≡ speaker_of (waits_of frames') new
  pub outputs : (trace : Trace)
      → (turn rule old.setup (turn_of (waits_of frames) trace old) event).outputs ≡ (new.links).outputs

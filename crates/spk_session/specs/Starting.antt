-- What is kept of the peers before the first event (this project's own).
use Rattle.std.specs.Prelude.{◌≡◌, ℕ, [], replicate, false}
use Rattle.xb_wire.specs.declared.numbers.TheConstants.{MAX_MESSAGE}
use Rattle.bgp_fsm.specs.Sessions.{Owned, start_session}
use Rattle.spk_session.specs.declared.links.Links.{Links}

-- an idle session of a speaker with a hold time
abbrev pub own_session : ℕ → Owned
own_session hold = record { own = hold; session = start_session }

-- all sessions are idle, nothing was sent in part, and nothing is to be dropped
pub record IsStart (hold count : ℕ) (l : Links) : Type 0 where
  pub clock : l.clock ≡ 0
  pub sessions : (l.sessions).items ≡ replicate count (own_session hold)
  pub rests : (l.rests).items ≡ replicate count []
  pub flags : (l.dropped).items ≡ replicate count false
  pub silent : l.outputs ≡ []
  pub room : (l.message).capacity ≡ MAX_MESSAGE

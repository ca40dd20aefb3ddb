-- What the acts of a session leave of the flags and of the sessions (this project's own).
use Rattle.std.specs.Prelude.{◌≡◌, ℕ, ◌-◌, Bool, true, false, List, [], ◌∷◌, ◌++◌, ◌||◌}
use Rattle.std.specs.List.{slice_index_or, slice_set}
use Rattle.std.specs.Vec.{with_item}
use Rattle.bgp_fsm.specs.declared.Act.{Act}
use Rattle.bgp_fsm.specs.declared.Act.TheVariants.{SendOpen, SendKeepalive, SendNotice, Up, Down, Close}
use Rattle.bgp_fsm.specs.declared.Stimulus.{Stimulus}
use Rattle.bgp_fsm.specs.Sessions.{Owned, Reaction, row, is_live}
use Rattle.spk_model.specs.Sources.{session_of}
use Rattle.spk_model.specs.Turning.{put}
use Rattle.spk_session.specs.declared.links.Links.{Links}
use Rattle.spk_session.specs.Meaning.{flag_of, state_in}

-- what is left of a message that was sent to a peer in part
abbrev pub rest_in : Links → ℕ → List ℕ
rest_in l p = slice_index_or (l.rests).items (p - 1) []

-- a message went to a peer, after the rest
abbrev pub sent_to : ℕ → List ℕ → Links → Links
sent_to p piece l = record l {
  rests = with_item l.rests (p - 1) [];
  outputs = (l.outputs ++ put p (rest_in l p)) ++ put p piece;
}

-- a message was written
abbrev pub written : List ℕ → Links → Links
written piece l = record l { message = record l.message { octets = piece } }

-- a message was written and went to a peer
abbrev pub sends : ℕ → List ℕ → Links → Links
sends p piece l = sent_to p piece (written piece l)

-- the transport of a peer is closed: the rest goes, and what waits is to be dropped
abbrev pub closed : ℕ → Links → Links
closed p l = record l { rests = with_item l.rests (p - 1) []; dropped = with_item l.dropped (p - 1) true }

-- an act closes the transport
abbrev pub is_close : Act → Bool
is_close SendOpen = false
is_close SendKeepalive = false
is_close (SendNotice code subcode) = false
is_close Up = false
is_close Down = false
is_close Close = true

-- one of some acts closes it
abbrev pub closes : List Act → Bool
closes [] = false
closes (a ∷ acts) = is_close a || closes acts

-- a flag is set after some acts
abbrev pub flags_after : ℕ → Bool → List Bool → List Bool
flags_after p true flags = slice_set flags (p - 1) true
flags_after p false flags = flags

-- what the session of a peer does at a stimulus
abbrev pub reaction_of : Links → ℕ → Stimulus → Reaction
reaction_of l p what =
    let s = session_of (l.sessions).items p in
    row s.own s.session l.clock what

-- the sessions after it
abbrev pub reacted : Links → ℕ → Stimulus → List Owned
reacted l p what =
    slice_set (l.sessions).items (p - 1)
    (record (session_of (l.sessions).items p) { session = (reaction_of l p what).session })

-- after a message either the flag of the peer is set, or no flag changed and the session is live
abbrev pub LeftBy : Bool → ℕ → Links → Links → Type 0
LeftBy true p old new = (new.dropped).items ≡ slice_set (old.dropped).items (p - 1) true
LeftBy false p old new = ((new.dropped).items ≡ (old.dropped).items) × (is_live (state_in new p) ≡ true)

-- the same by the flag of the peer
abbrev pub IsLeft : ℕ → Links → Links → Type 0
IsLeft p old new = LeftBy (flag_of new p) p old new

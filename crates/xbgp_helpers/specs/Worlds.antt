-- What a program sees and edits, as plain data (this project's own). A part that a point lacks is empty, and no helper
-- that is allowed there asks for it.
use Rattle.std.specs.Prelude.{ℕ, List, [], ◌∷◌, slice_index}
use Rattle.xb_domain.specs.declared.side.Side.{Side}
use Rattle.xb_values.specs.Prefixes.{Prefix}
use Rattle.bgp_attr.specs.Routes.{Route}
use Rattle.xbgp_maps.specs.Mappings.{Mapping}

-- the world of a program
pub record World : Type 0 where
  -- route 0: the edited route; at decision the old one, and at encode the one to be encoded
  pub route : Route
  -- route 1: the new one at decision, the best route before export at outbound and encode
  pub other : Route
  -- the sender at receive and inbound, the receiver at outbound and encode
  pub peer : Side
  -- the sources of route 0 and of route 1
  pub source : Side
  pub other_source : Side
  -- the speaker
  pub local : Side
  pub prefix : Prefix
  -- the clock
  pub now : ℕ
  pub maps : List Mapping
  -- the map writes of this chain run
  pub writes : ℕ
  -- the write buffer
  pub buffer : List ℕ
  -- how many octets of the heap this program run has taken
  pub mark : ℕ

-- a side of no party, and a prefix for points that have none
abbrev pub nobody : Side
nobody = record { number = 0; asn = 0; address = 0; id = 0; kind = 0 }

abbrev pub nowhere : Prefix
nowhere = record { addr = 0; len = 0 }

-- a field of a side by its number, 0 to 4, or of the speaker, 5 to 7
abbrev pub field_of : Side → Side → ℕ → ℕ
field_of side local field =
    let fields =
    side.number ∷ side.asn ∷ side.address ∷ side.id ∷ side.kind ∷ local.asn ∷ local.address ∷ local.id ∷ [] in
    slice_index fields field

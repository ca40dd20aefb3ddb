-- The events that a number and a count give (this project's own).
use Rattle.std.specs.Prelude.{ℕ, zero, suc, ◌+◌, ◌*◌, ◌%◌, ◌^◌, false, List, [], ◌∷◌, ◌++◌, map, flat_map, ◌==◌}
use Rattle.std.specs.Prelude.{if◌then◌else◌}
use Rattle.xb_words.specs.Octets.{four_octets}
use Rattle.xb_values.specs.Prefixes.{Prefix, prefix_of, prefix_octets}
use Rattle.xb_wire.specs.Messages.{update_message}
use Rattle.xb_domain.specs.Events.{Event, start, up, octets, drain}
use Rattle.bgp_attr.specs.declared.codes.TheConstants.{ORIGIN, AS_PATH, NEXT_HOP, LOCAL_PREF}
use Rattle.bgp_attr.specs.declared.flags.TheConstants.{WELL_KNOWN}
use Rattle.bgp_attr.specs.Routes.{Route, Attribute, canon}
use Rattle.bgp_attr.specs.Paths.{segment_octets}
use Rattle.bgp_write.specs.Written.{open_message, keepalive_message}
use Rattle.xbgp_config.specs.WorkConfig.{work_peer, work_peers, is_work_internal}
use Rattle.work_gen.specs.Draws.{Drawn, draw, drawn, ◌>>=◌}

-- the OPEN of a peer: without capabilities, so that its paths have two octets a number, and without a hold time
unfoldable pub open_of : ℕ → List ℕ
open_of p = open_message (work_peer p).asn 0 (work_peer p).address

-- the events by which a peer's session comes up
abbrev pub session_events : ℕ → List Event
session_events p = start p ∷ up p ∷ octets p (open_of p) ∷ octets p keepalive_message ∷ []

-- all that is pending for each peer is taken
abbrev pub drains : List Event
drains = map drain work_peers

-- the prefix 172.(16 + a).b.0/24 of an update
abbrev pub network : ℕ → ℕ → Prefix
network a b = prefix_of (172 * 2 ^ 24 + (16 + a) * 2 ^ 16 + b * 2 ^ 8) 24

unfoldable pub drawn_network : ℕ → Drawn Prefix
drawn_network = do
  a ← draw 16
  b ← draw 256
  drawn (network a b)

-- AS numbers from 1 to 64000
abbrev pub as_numbers : ℕ → ℕ → Drawn (List ℕ)
as_numbers zero = drawn []
as_numbers (suc n) = do
  a ← draw 64000
  others ← as_numbers n
  drawn ((1 + a) ∷ others)

-- up to three of them
unfoldable pub drawn_numbers : ℕ → Drawn (List ℕ)
drawn_numbers = do
  n ← draw 4
  as_numbers n

-- an attribute that is not optional
abbrev pub well_known : ℕ → List ℕ → ℕ × Attribute
well_known code value = (code, record { flags = WELL_KNOWN; value = value })

-- the AS numbers of a path from a peer: those that were drawn, after its own if it is external
abbrev pub path_numbers : ℕ → List ℕ → List ℕ
path_numbers p ns = if is_work_internal p then ns else (work_peer p).asn ∷ ns

-- the value of a path that is one sequence, or empty
abbrev pub path_value : List ℕ → List ℕ
path_value [] = []
path_value (n ∷ ns) = segment_octets 2 (record { is_set = false; numbers = n ∷ ns })

-- the degree of preference of an internal peer's route: 100, 110 or 120
abbrev pub internal_preference : ℕ → Drawn Route
internal_preference = do
  d ← draw 3
  drawn (well_known LOCAL_PREF (four_octets (100 + 10 * d)) ∷ [])

-- an external peer's route has none
unfoldable pub drawn_preference : ℕ → ℕ → Drawn Route
drawn_preference p x = if is_work_internal p then internal_preference x else drawn [] x

-- the route that a peer announces
abbrev pub route : ℕ → ℕ → List ℕ → Route → Route
route p origin ns preference =
    well_known ORIGIN (origin ∷ []) ∷ well_known AS_PATH (path_value (path_numbers p ns))
    ∷ well_known NEXT_HOP (four_octets (work_peer p).address) ∷ preference

unfoldable pub drawn_route : ℕ → ℕ → Drawn Route
drawn_route p = do
  origin ← draw 3
  ns ← drawn_numbers
  preference ← drawn_preference p
  drawn (route p origin ns preference)

-- the UPDATE that announces a prefix with a section, and the one that withdraws it
abbrev pub announcement : List ℕ → Prefix → List ℕ
announcement section prefix =
    update_message (record { withdrawn = []; section = section; nlri = prefix_octets prefix })

abbrev pub withdrawal : Prefix → List ℕ
withdrawal prefix = update_message (record { withdrawn = prefix_octets prefix; section = []; nlri = [] })

-- the message that announces a prefix
abbrev pub drawn_announcement : ℕ → Prefix → ℕ → Drawn (List ℕ)
drawn_announcement p prefix = do
  r ← drawn_route p
  drawn (announcement (canon r) prefix)

-- the message of a kind, of which there are four: 0 withdraws, the others announce
abbrev pub message_of_kind : ℕ → ℕ → Prefix → ℕ → Drawn (List ℕ)
message_of_kind kind p prefix x = if kind == 0 then drawn (withdrawal prefix) x else drawn_announcement p prefix x

unfoldable pub drawn_message : ℕ → Prefix → ℕ → Drawn (List ℕ)
drawn_message p prefix = do
  kind ← draw 4
  message_of_kind kind p prefix

-- an update of one of the peers
unfoldable pub update : ℕ → Drawn Event
update = do
  p ← draw 4
  prefix ← drawn_network
  message ← drawn_message (1 + p) prefix
  drawn (octets (1 + p) message)

-- as many updates as a count, after `done` earlier ones; after every hundredth the peers are drained
abbrev pub updates : ℕ → ℕ → ℕ → List Event
updates x done zero = []
updates x done (suc count) =
    (update x).value ∷ (if (done + 1) % 100 == 0 then drains else []) ++ updates (update x).x (done + 1) count

-- all events: the sessions come up, the updates, and the peers are drained
abbrev pub work_events : ℕ → ℕ → List Event
work_events number count = flat_map session_events work_peers ++ (updates number 0 count ++ drains)

-- Where routes come from: the speaker itself, which is number 0, and its configured peers, numbered from 1.
use Rattle.std.specs.Prelude.{ℕ, ◌-◌, Bool, true, false, List, [], ◌∷◌, length, find, unwrap_or}
use Rattle.std.specs.Prelude.{◌==◌, if◌then◌else◌}
use Rattle.std.specs.Option.{option_map}
use Rattle.std.specs.List.{slice_index_or, list_any, range_with_len}
use Rattle.xb_words.specs.Octets.{four_octets}
use Rattle.xb_domain.specs.declared.side.Side.{Side}
use Rattle.xb_values.specs.Prefixes.{Prefix}
use Rattle.bgp_attr.specs.declared.codes.TheConstants.{ORIGIN, AS_PATH, NEXT_HOP}
use Rattle.bgp_attr.specs.declared.flags.TheConstants.{WELL_KNOWN}
use Rattle.bgp_attr.specs.Routes.{Route}
use Rattle.bgp_fsm.specs.declared.State.{State}
use Rattle.bgp_fsm.specs.declared.State.TheVariants.{Established, Idle, Connect, OpenSent, OpenConfirm}
use Rattle.bgp_fsm.specs.Sessions.{Owned, start_session}
use Rattle.spk_native.specs.declared.filters.TheConstants.{EXTERNAL, INTERNAL}
use Rattle.xbgp_config.specs.Configs.{Config, same_prefix}
use Rattle.xbgp_config.specs.declared.lists.PeerEntry.{PeerEntry}

-- what is read of a peer that is not configured
abbrev pub no_entry : PeerEntry
no_entry = record { asn = 0; address = 0 }

-- a peer as it is configured
abbrev pub entry_of : Config → ℕ → PeerEntry
entry_of config p = slice_index_or config.peers (p - 1) no_entry

-- a peer of the local AS is internal, another is external (RFC 4271, section 1.1)
abbrev pub kind_of_peer : ℕ → ℕ → ℕ
kind_of_peer local_as peer_as = if local_as == peer_as then INTERNAL else EXTERNAL

-- the session of a peer, of the sessions of all peers
abbrev pub session_of : List Owned → ℕ → Owned
session_of sessions p = slice_index_or sessions (p - 1) (record { own = 0; session = start_session })

-- a session in which routes are exchanged (RFC 4271, section 8.2.2)
abbrev pub is_established : State → Bool
is_established Established = true
is_established Idle = false
is_established Connect = false
is_established OpenSent = false
is_established OpenConfirm = false

-- a peer's session is Established
abbrev pub is_up : List Owned → ℕ → Bool
is_up sessions p = is_established ((session_of sessions p).session).state

-- AS numbers have four octets in a peer's session (RFC 6793, section 3)
abbrev pub is_wide : List Owned → ℕ → Bool
is_wide sessions p = ((session_of sessions p).session).wide

-- the numbers of the peers
abbrev pub peer_numbers : List Owned → List ℕ
peer_numbers sessions = range_with_len 1 (length sessions)

-- a party of a route: the speaker, or a peer with the identifier that its OPEN said
abbrev pub side_of : Config → List Owned → ℕ → Side
side_of config sessions p =
    if p == 0 then config.local
    else record {
      number = p;
      asn = (entry_of config p).asn;
      address = (entry_of config p).address;
      id = ((session_of sessions p).session).id;
      kind = kind_of_peer (config.local).asn (entry_of config p).asn;
    }

-- the route of a local network: ORIGIN 0, an empty path, and the local address as next hop (this project's own)
abbrev pub local_route : Config → Route
local_route config =
    (ORIGIN, record { flags = WELL_KNOWN; value = 0 ∷ [] })
    ∷ (AS_PATH, record { flags = WELL_KNOWN; value = [] })
    ∷ (NEXT_HOP, record { flags = WELL_KNOWN; value = four_octets (config.local).address }) ∷ []

-- a prefix is a local network
abbrev pub is_network : Config → Prefix → Bool
is_network config p = list_any (same_prefix p) config.networks

-- the interior cost of a next hop, 0 if none is configured (RFC 4271, section 9.1.2.2, e)
abbrev pub cost_of : Config → ℕ → ℕ
cost_of config hop = unwrap_or (option_map (λ c. c.cost) (find (λ c. c.next_hop == hop) config.costs)) 0

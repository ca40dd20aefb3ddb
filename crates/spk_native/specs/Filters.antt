-- What the native filters accept (RFC 4271, section 9.1.2 for loops and 9.2.1 for internal peers; the rest is this
-- project's own).
use Rattle.std.specs.Prelude.{ℕ, Bool, false, Some, None, ◌==◌, ◌&&◌, ◌||◌, not, if◌then◌else◌}
use Rattle.xb_domain.specs.declared.side.Side.{Side}
use Rattle.bgp_attr.specs.declared.codes.TheConstants.{AS_PATH, NEXT_HOP, LOCAL_PREF}
use Rattle.bgp_attr.specs.Routes.{Route, as_width, without_attribute}
use Rattle.bgp_attr.specs.Paths.{contains, path_ok}
use Rattle.spk_native.specs.declared.filters.TheConstants.{EXTERNAL, INTERNAL}
use Rattle.spk_native.specs.Values.{value_or_none, path_of, number_at}

abbrev pub is_external : Side → Bool
is_external side = side.kind == EXTERNAL

abbrev pub is_internal : Side → Bool
is_internal side = side.kind == INTERNAL

-- the LOCAL_PREF of an external peer is removed before any program runs (RFC 4271, section 5.1.5)
abbrev pub as_received : Side → Route → Route
as_received peer route = if is_external peer then without_attribute route LOCAL_PREF else route

-- an AS is in the AS_PATH; a value that segments do not fill is not a path
abbrev pub has_as : ℕ → Route → Bool
has_as asn route = path_ok as_width (value_or_none route AS_PATH) && contains asn (path_of route)

-- the NEXT_HOP is there and is an address
abbrev pub is_next_hop : ℕ → Route → Bool
is_next_hop address route = elim (number_at route NEXT_HOP) [ None ↦ false | Some hop ↦ hop == address ]

-- rejected if the local AS is in the path, or if the next hop is the local address
abbrev pub accepts_inbound : Route → Side → Bool
accepts_inbound route local = not (has_as local.asn route || is_next_hop local.address route)

-- rejected if the peer is the source, or if both are internal
abbrev pub accepts_outbound : Side → Side → Bool
accepts_outbound source peer = not (source.number == peer.number || is_internal source && is_internal peer)

-- What a peer is sent of a route (RFC 4271, sections 5 and 9.1.3; RFC 6793, section 4.1).
use Rattle.std.specs.Prelude.{ℕ, Bool, List, map, filter, is_some, bit_and, bit_or}
use Rattle.std.specs.Prelude.{◌==◌, ◌&&◌, ◌||◌, not, if◌then◌else◌}
use Rattle.xb_words.specs.Octets.{four_octets}
use Rattle.xb_domain.specs.declared.side.Side.{Side}
use Rattle.bgp_attr.specs.declared.codes.TheConstants.{AS_PATH, NEXT_HOP, MULTI_EXIT_DISC, LOCAL_PREF}
use Rattle.bgp_attr.specs.declared.codes.TheConstants.{AS4_PATH, AS4_AGGREGATOR}
use Rattle.bgp_attr.specs.declared.flags.TheConstants.{TRANSITIVE, PARTIAL, WELL_KNOWN}
use Rattle.bgp_attr.specs.Paths.{path_octets, prepend}
use Rattle.bgp_attr.specs.Routes.{Route, Attribute, attribute_at, with_attribute, without_attribute, canon, as_width}
use Rattle.bgp_attr.specs.Rules.{is_known}
use Rattle.spk_native.specs.Values.{path_of}
use Rattle.spk_native.specs.Filters.{is_external}

-- an attribute with these flags is passed on also by a speaker that does not recognize it (RFC 4271, section 4.3)
abbrev pub is_transitive : ℕ → Bool
is_transitive flags = not (bit_and flags TRANSITIVE == 0)

-- the codes of AS4_PATH and AS4_AGGREGATOR, which only sessions with AS numbers of two octets have (RFC 6793, section
-- 3)
abbrev pub is_of_narrow : ℕ → Bool
is_of_narrow code = code == AS4_PATH || code == AS4_AGGREGATOR

-- a peer is sent the attribute: its code is one of 1 to 7, or it is transitive and not of a session of two octets
abbrev pub is_passed_on : ℕ × Attribute → Bool
is_passed_on e = is_known e.0 || is_transitive e.1.flags && not (is_of_narrow e.0)

-- the canonical section of the attributes that a peer is sent
abbrev pub native_section : Route → List ℕ
native_section route = canon (filter is_passed_on route)

-- an attribute that is passed on although it is not recognized is partial (RFC 4271, section 5)
abbrev pub marked_partial : ℕ × Attribute → ℕ × Attribute
marked_partial e =
    if not (is_known e.0) && is_transitive e.1.flags
    then (e.0, record { flags = bit_or e.1.flags PARTIAL; value = e.1.value })
    else e

-- the path begins with the local AS, and the next hop is the local address (RFC 4271, sections 5.1.2 and 5.1.3);
-- LOCAL_PREF and MULTI_EXIT_DISC are removed (RFC 4271, sections 5.1.4 and 5.1.5)
abbrev pub to_external : Route → Side → Route
to_external route local =
    let path = path_octets as_width (prepend local.asn (path_of route)) in
    let prepended = with_attribute route AS_PATH WELL_KNOWN path in
    let sent = with_attribute prepended NEXT_HOP WELL_KNOWN (four_octets local.address) in
    without_attribute (without_attribute sent LOCAL_PREF) MULTI_EXIT_DISC

-- an absent LOCAL_PREF is the default (RFC 4271, section 5.1.5)
abbrev pub to_internal : Route → ℕ → Route
to_internal route default =
    if is_some (attribute_at route LOCAL_PREF) then route
    else with_attribute route LOCAL_PREF WELL_KNOWN (four_octets default)

-- what a route is for a peer, given the default degree of preference (RFC 4271, sections 5 and 9.2)
abbrev pub carry : Route → Side → Side → Side → ℕ → Route
carry route source peer local default =
    if is_external peer then to_external (map marked_partial route) local
    else to_internal (map marked_partial route) default

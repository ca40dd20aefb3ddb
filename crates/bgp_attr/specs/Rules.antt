-- What an attribute must be (RFC 4271, sections 5 and 6.3), with AS numbers of w octets.
use Rattle.std.specs.Prelude.{ℕ, ◌+◌, Bool, true, List, length, slice_index, Option, Some, None, nat_lt, nat_le, ◌==◌}
use Rattle.std.specs.Prelude.{◌&&◌, ◌||◌, not, bit_and, if◌then◌else◌}
use Rattle.bgp_attr.specs.declared.codes.TheConstants.{ORIGIN, AS_PATH, NEXT_HOP, MULTI_EXIT_DISC, LOCAL_PREF}
use Rattle.bgp_attr.specs.declared.codes.TheConstants.{ATOMIC_AGGREGATE, AGGREGATOR}
use Rattle.bgp_attr.specs.declared.flags.TheConstants.{OPTIONAL, WELL_KNOWN, OPTIONAL_TRANSITIVE, PARTIAL_TRANSITIVE}
use Rattle.bgp_attr.specs.declared.path.TheConstants.{FOUR_OCTETS}
use Rattle.bgp_attr.specs.declared.rule.TheConstants.{INCOMPLETE, THIS_NETWORK, LOOPBACK, MULTICAST}
use Rattle.bgp_attr.specs.declared.rule.AttrFault.{AttrFault}
use Rattle.bgp_attr.specs.declared.rule.AttrFault.TheVariants.{Unrecognized, Flags, Length, Origin, NextHop, Path}
use Rattle.bgp_attr.specs.Routes.{kept_flags}
use Rattle.bgp_attr.specs.Paths.{path_ok}

-- the codes that have a row below: 1 to 7
abbrev pub is_known : ℕ → Bool
is_known code = nat_le ORIGIN code && nat_le code AGGREGATOR

-- an address may be a next hop: its first octet is not 0, 127, or 224 to 255
abbrev pub is_host : ℕ → Bool
is_host first = not (first == THIS_NETWORK) && not (first == LOOPBACK) && nat_lt first MULTICAST

-- a fault if a test holds
abbrev pub fault_if : Bool → AttrFault → Option AttrFault
fault_if bad fault = if bad then Some fault else None

-- the first fault by a row: of the flags, else of the length, else of the value
abbrev pub row_fault : Bool → Bool → Option AttrFault → Option AttrFault
row_fault flags_fit length_fits value =
    if not flags_fit then Some Flags else if not length_fits then Some Length else value

-- The first fault of one attribute, a row for each known code with its flags, its length and what its value must be.
-- AGGREGATOR alone may be partial. An attribute of another code must be optional.
unfoldable pub attr_fault : ℕ → ℕ → ℕ → List ℕ → Option AttrFault
attr_fault w code flags value =
    let kept = kept_flags flags in
    let partial = kept == PARTIAL_TRANSITIVE in
    let well_known = kept == WELL_KNOWN in
    let len = length value in
    let first = slice_index value 0 in
    if code == ORIGIN then row_fault well_known (len == 1) (fault_if (nat_lt INCOMPLETE first) Origin)
    else if code == AS_PATH then row_fault well_known true (fault_if (not (path_ok w value)) Path)
    else if code == NEXT_HOP then row_fault well_known (len == FOUR_OCTETS) (fault_if (not (is_host first)) NextHop)
    else if code == MULTI_EXIT_DISC then row_fault (kept == OPTIONAL) (len == FOUR_OCTETS) None
    else if code == LOCAL_PREF then row_fault well_known (len == FOUR_OCTETS) None
    else if code == ATOMIC_AGGREGATE then row_fault well_known (len == 0) None
    else if code == AGGREGATOR then row_fault (kept == OPTIONAL_TRANSITIVE || partial) (len == w + FOUR_OCTETS) None
    else fault_if (bit_and flags OPTIONAL == 0) Unrecognized

-- Routes on their way from a session with AS numbers of two octets, and to one (RFC 6793, sections 4.2.2 and 4.2.3).
-- The routes that the speaker keeps have four octets for an AS number.
use Rattle.std.specs.Prelude.{ℕ, Bool, true, false, List, ◌++◌, length, drop, Option, Some, None}
use Rattle.std.specs.Prelude.{◌==◌, ◌&&◌, ◌||◌, not, if◌then◌else◌}
use Rattle.std.specs.List.{list_any}
use Rattle.xb_words.specs.Octets.{two_at, four_at, two_octets, four_octets}
use Rattle.bgp_attr.specs.declared.codes.TheConstants.{AS_PATH, AGGREGATOR, AS4_PATH, AS4_AGGREGATOR}
use Rattle.bgp_attr.specs.declared.flags.TheConstants.{OPTIONAL_TRANSITIVE, PARTIAL_TRANSITIVE}
use Rattle.bgp_attr.specs.declared.segments.TheConstants.{AS_TRANS}
use Rattle.bgp_attr.specs.Routes.{Route, Attribute, attribute_at, with_attribute, without_attribute, canon, route_of}
use Rattle.bgp_attr.specs.Paths.{path, path_ok}
use Rattle.spk_native.specs.declared.wide.TheConstants.{WIDE_AGGREGATOR}
use Rattle.bgp_path.specs.Widths.{wide_path, narrow_path, is_narrow, narrow_number, merge}

-- an AGGREGATOR with its AS number in the other width
abbrev pub wide_aggregator : List ℕ → List ℕ
wide_aggregator value = four_octets (two_at value 0) ++ drop 2 value

abbrev pub narrow_aggregator : List ℕ → List ℕ
narrow_aggregator value = two_octets (narrow_number (four_at value 0)) ++ drop 4 value

-- optional and transitive, partial or not
abbrev pub is_optional_transitive : ℕ → Bool
is_optional_transitive flags = flags == OPTIONAL_TRANSITIVE || flags == PARTIAL_TRANSITIVE

-- an AS4_PATH that can be used, and an AS4_AGGREGATOR (RFC 6793, section 6)
abbrev pub is_good_path : Attribute → Bool
is_good_path a = is_optional_transitive a.flags && path_ok 4 a.value

abbrev pub is_good_aggregator : Attribute → Bool
is_good_aggregator a = is_optional_transitive a.flags && length a.value == WIDE_AGGREGATOR

-- the value of an attribute that passes a test
abbrev pub good : (Attribute → Bool) → Option Attribute → Option (List ℕ)
good test None = None
good test (Some a) = if test a then Some a.value else None

abbrev pub good_path : Route → Option (List ℕ)
good_path r = good is_good_path (attribute_at r AS4_PATH)

abbrev pub good_aggregator : Route → Option (List ℕ)
good_aggregator r = good is_good_aggregator (attribute_at r AS4_AGGREGATOR)

-- the route with another value for an attribute, if it has the attribute, whose flags stay
abbrev pub changed : (List ℕ → List ℕ) → Route → ℕ → Option Attribute → Route
changed to r code None = r
changed to r code (Some a) = with_attribute r code a.flags (to a.value)

abbrev pub with_value_by : (List ℕ → List ℕ) → ℕ → Route → Route
with_value_by to code r = changed to r code (attribute_at r code)

-- AGGREGATOR was set by a speaker of two octets after the last one of four, which then changed AS_PATH as well: a good
-- AS4_AGGREGATOR is there, and AGGREGATOR has another AS number than AS_TRANS
abbrev pub aggregated_since : Option Attribute → Option (List ℕ) → Bool
aggregated_since (Some a) (Some wide) = not (two_at a.value 0 == AS_TRANS)
aggregated_since (Some a) None = false
aggregated_since None wide = false

-- an AS_PATH with a good AS4_PATH, or alone
abbrev pub path_with : Option (List ℕ) → List ℕ → List ℕ
path_with None p = wide_path p
path_with (Some q) p = merge p q

-- an AGGREGATOR with a good AS4_AGGREGATOR, or alone
abbrev pub aggregator_with : Option (List ℕ) → List ℕ → List ℕ
aggregator_with None value = wide_aggregator value
aggregator_with (Some wide) value = wide

abbrev pub widened_by : Option (List ℕ) → Option (List ℕ) → Route → Route
widened_by p a r = with_value_by (aggregator_with a) AGGREGATOR (with_value_by (path_with p) AS_PATH r)

-- AS_PATH and AGGREGATOR in four octets, with what AS4_PATH and AS4_AGGREGATOR say of them
abbrev pub widened : Route → Route
widened r =
    if aggregated_since (attribute_at r AGGREGATOR) (good_aggregator r) then widened_by None None r
    else widened_by (good_path r) (good_aggregator r) r

abbrev pub without_narrow : Route → Route
without_narrow r = without_attribute (without_attribute r AS4_PATH) AS4_AGGREGATOR

-- what a received route becomes, by the form of its session: wide if AS numbers have four octets there
unfoldable pub inflow : Route → Bool → Route
inflow r true = without_narrow r
inflow r false = without_narrow (widened r)

-- two octets cannot hold some number of a path, or the number of an AGGREGATOR
abbrev pub is_wide_path : List ℕ → Bool
is_wide_path value = list_any (λ s. list_any (λ n. not (is_narrow n)) s.numbers) (path 4 value)

abbrev pub is_wide_aggregator : List ℕ → Bool
is_wide_aggregator value = not (is_narrow (four_at value 0))

-- a value that passes a test is also the value of another code, optional and transitive
abbrev pub kept_beside : (List ℕ → Bool) → ℕ → Option Attribute → Route → Route
kept_beside test code None r = r
kept_beside test code (Some a) r = if test a.value then with_attribute r code OPTIONAL_TRANSITIVE a.value else r

-- what a route becomes for a session with AS numbers of two octets
unfoldable pub narrow : Route → Route
narrow r =
    kept_beside is_wide_aggregator AS4_AGGREGATOR (attribute_at r AGGREGATOR)
    (kept_beside is_wide_path AS4_PATH (attribute_at r AS_PATH)
    (with_value_by narrow_aggregator AGGREGATOR (with_value_by narrow_path AS_PATH r)))

-- a section in its session's form: wide if AS numbers have four octets there
abbrev pub wire : List ℕ → Bool → List ℕ
wire section true = section
wire section false = canon (narrow (route_of section))

-- A route with other attributes for the four codes that depend on the width of AS numbers (for the private functions of
-- four.rt, narrow.rt and wide.rt).
use Rattle.std.specs.Prelude.{ℕ, ◌+◌, Bool, List, length, Option, Some, None, is_some, nat_lt, unwrap_or}
use Rattle.std.specs.Prelude.{if◌then◌else◌}
use Rattle.std.specs.Option.{option_map}
use Rattle.bgp_attr.specs.declared.codes.TheConstants.{AS_PATH, AGGREGATOR, AS4_PATH, AS4_AGGREGATOR}
use Rattle.bgp_attr.specs.declared.flags.TheConstants.{OPTIONAL_TRANSITIVE}
use Rattle.bgp_attr.specs.Routes.{Route, Attribute, attribute_at, with_attribute, without_attribute}
use Rattle.bgp_path.specs.Widths.{narrow_path}
use Rattle.spk_native.specs.declared.four.Four.{Four}
use Rattle.spk_native.specs.declared.four.Had.{Had}
use Rattle.spk_native.specs.Receipt.{narrow_aggregator, is_wide_path, is_wide_aggregator}
use Rattle.spk_native.specs.Receipt.{aggregated_since, good, is_good_path, is_good_aggregator, path_with}
use Rattle.spk_native.specs.Receipt.{aggregator_with}

-- the octets of an attribute in a canonical section, header included
abbrev pub size_of : Attribute → ℕ
size_of a = (if nat_lt 255 (length a.value) then 4 else 3) + length a.value

-- the same, if there is an attribute
abbrev pub size_if : Option Attribute → ℕ
size_if o = unwrap_or (option_map size_of o) 0

-- the route with an attribute set, if there is one to set
abbrev pub set_if : ℕ → Option Attribute → Route → Route
set_if code None r = r
set_if code (Some a) r = with_attribute r code a.flags a.value

-- the route with this for a code: an attribute, or nothing
abbrev pub replaced : ℕ → Option Attribute → Route → Route
replaced code None r = without_attribute r code
replaced code (Some a) r = with_attribute r code a.flags a.value

-- the route without the four codes
abbrev pub bare : Route → Route
bare r =
    without_attribute (without_attribute (without_attribute (without_attribute r AS_PATH) AGGREGATOR) AS4_PATH)
    AS4_AGGREGATOR

-- the octets of the attributes
abbrev pub four_size : Four → ℕ
four_size f = size_if f.path + (size_if f.aggregator + (size_if f.path4 + size_if f.aggregator4))

-- the attributes of a route
abbrev pub four_of : Route → Four
four_of r = record {
  path = attribute_at r AS_PATH;
  aggregator = attribute_at r AGGREGATOR;
  path4 = attribute_at r AS4_PATH;
  aggregator4 = attribute_at r AS4_AGGREGATOR;
}

-- which of the attributes are there, and how many octets they have
abbrev pub had_of : Four → Had
had_of f = record {
  octets = four_size f;
  path = is_some f.path;
  aggregator = is_some f.aggregator;
  path4 = is_some f.path4;
  aggregator4 = is_some f.aggregator4;
}

-- the route with these attributes for the four codes
abbrev pub rebuilt : Four → Route → Route
rebuilt f r =
    set_if AS4_AGGREGATOR f.aggregator4
    (set_if AS4_PATH f.path4 (set_if AGGREGATOR f.aggregator (set_if AS_PATH f.path (bare r))))

-- the attribute with another value
abbrev pub valued : (List ℕ → List ℕ) → Option Attribute → Option Attribute
valued to o = option_map (λ a. record { flags = a.flags; value = to a.value }) o

-- one attribute, or else another
abbrev pub or_other : Option Attribute → Option Attribute → Option Attribute
or_other None o = o
or_other (Some a) o = Some a

-- an optional transitive attribute with the value, if it passes a test
abbrev pub beside : (List ℕ → Bool) → Option Attribute → Option Attribute
beside test None = None
beside test (Some a) = if test a.value then Some (record { flags = OPTIONAL_TRANSITIVE; value = a.value }) else None

-- what becomes of the four attributes in a session with AS numbers of two octets
abbrev pub narrow_four : Four → Four
narrow_four f = record {
  path = valued narrow_path f.path;
  aggregator = valued narrow_aggregator f.aggregator;
  path4 = or_other (beside is_wide_path f.path) f.path4;
  aggregator4 = or_other (beside is_wide_aggregator f.aggregator) f.aggregator4;
}

-- the AS4_PATH and the AS4_AGGREGATOR that count (RFC 6793, section 4.2.3)
abbrev pub used_path : Four → Option (List ℕ)
used_path f =
    if aggregated_since f.aggregator (good is_good_aggregator f.aggregator4) then None else good is_good_path f.path4

abbrev pub used_aggregator : Four → Option (List ℕ)
used_aggregator f =
    if aggregated_since f.aggregator (good is_good_aggregator f.aggregator4) then None
    else good is_good_aggregator f.aggregator4

-- what becomes of the four attributes of a route that was received in two octets
abbrev pub wide_four : Four → Four
wide_four f = record {
  path = valued (path_with (used_path f)) f.path;
  aggregator = valued (aggregator_with (used_aggregator f)) f.aggregator;
  path4 = None;
  aggregator4 = None;
}

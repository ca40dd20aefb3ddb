-- The first fault of an UPDATE (RFC 4271, section 6.3; the order of the checks and the check of withdrawn prefixes are
-- this project's own), with AS numbers of w octets.
use Rattle.std.specs.Prelude.{ℕ, Bool, true, false, List, [], ◌∷◌, length, map, find, Option, Some, None, option_map}
use Rattle.std.specs.Prelude.{is_none, ◌==◌, ◌&&◌, ◌||◌, not, if◌then◌else◌}
use Rattle.std.specs.List.{list_any}
use Rattle.xb_words.specs.Optional.{or_else}
use Rattle.xb_wire.specs.declared.numbers.TheConstants.{UPDATE_MESSAGE_ERROR, MALFORMED_ATTRIBUTE_LIST}
use Rattle.xb_wire.specs.declared.numbers.TheConstants.{UNRECOGNIZED_WELL_KNOWN_ATTRIBUTE, MISSING_WELL_KNOWN_ATTRIBUTE}
use Rattle.xb_wire.specs.declared.numbers.TheConstants.{ATTRIBUTE_FLAGS_ERROR, ATTRIBUTE_LENGTH_ERROR, INVALID_ORIGIN}
use Rattle.xb_wire.specs.declared.numbers.TheConstants.{INVALID_NEXT_HOP, INVALID_NETWORK_FIELD, MALFORMED_AS_PATH}
use Rattle.xb_wire.specs.Messages.{Notification, notification, Update, lengths_fit, update_parts}
use Rattle.xb_values.specs.Prefixes.{are_prefixes}
use Rattle.bgp_attr.specs.declared.codes.TheConstants.{ORIGIN, AS_PATH, NEXT_HOP, AS4_PATH, AS4_AGGREGATOR}
use Rattle.bgp_attr.specs.declared.rule.AttrFault.{AttrFault}
use Rattle.bgp_attr.specs.declared.rule.AttrFault.TheVariants.{Unrecognized, Flags, Length, Origin, NextHop, Path}
use Rattle.bgp_attr.specs.Attributes.{attributes, is_whole, attr_flags, attr_code, codes_of, attr_value}
use Rattle.bgp_attr.specs.Rules.{attr_fault}

-- a check: a notification if the test refuses
abbrev pub refuse_if : Bool → Notification → Option Notification
refuse_if refused n = if refused then Some n else None

-- an error of an UPDATE with its data
abbrev pub update_error : ℕ → List ℕ → Notification
update_error subcode octets = notification UPDATE_MESSAGE_ERROR subcode octets

-- the notification of an attribute's fault: its data is the whole attribute, and nothing for a malformed path
abbrev pub attr_notice : List ℕ → AttrFault → Notification
attr_notice attribute Unrecognized = update_error UNRECOGNIZED_WELL_KNOWN_ATTRIBUTE attribute
attr_notice attribute Flags = update_error ATTRIBUTE_FLAGS_ERROR attribute
attr_notice attribute Length = update_error ATTRIBUTE_LENGTH_ERROR attribute
attr_notice attribute Origin = update_error INVALID_ORIGIN attribute
attr_notice attribute NextHop = update_error INVALID_NEXT_HOP attribute
attr_notice attribute Path = update_error MALFORMED_AS_PATH []

-- the check of one attribute alone
abbrev pub attribute_check : ℕ → List ℕ → Option Notification
attribute_check w attribute =
    option_map (attr_notice attribute)
    (attr_fault w (attr_code attribute) (attr_flags attribute) (attr_value attribute))

-- the fault of the first check that has one
abbrev pub first_check : List (Option Notification) → Option Notification
first_check [] = None
first_check (check ∷ checks) = or_else check (first_check checks)

-- a code is among codes
abbrev pub has_code : List ℕ → ℕ → Bool
has_code codes code = list_any (λ c. c == code) codes

-- a code is there twice
abbrev pub repeats : List ℕ → Bool
repeats [] = false
repeats (code ∷ codes) = has_code codes code || repeats codes

-- an attribute runs past the section, or its code came before
abbrev pub is_malformed : List ℕ → Bool
is_malformed section = not (is_whole section) || repeats (codes_of section)

-- the codes that an announcement must have (RFC 4271, section 5)
abbrev pub mandatory : List ℕ
mandatory = ORIGIN ∷ AS_PATH ∷ NEXT_HOP ∷ []

-- the first mandatory code that is missing
abbrev pub missing : List ℕ → Option ℕ
missing codes = find (λ code. not (has_code codes code)) mandatory

-- the notification of a missing attribute: its data is the code
abbrev pub missing_notice : ℕ → Notification
missing_notice code = update_error MISSING_WELL_KNOWN_ATTRIBUTE (code ∷ [])

-- the first fault of a section: of the section as a whole, of its attributes in order, and, if prefixes are announced,
-- of what is missing
unfoldable pub judge_section : ℕ → List ℕ → Bool → Option Notification
judge_section w section announces =
    first_check (
    refuse_if (is_malformed section) (update_error MALFORMED_ATTRIBUTE_LIST [])
    ∷ first_check (map (attribute_check w) (attributes section))
    ∷ (if announces then option_map missing_notice (missing (codes_of section)) else None)
    ∷ [])

-- the first fault of an UPDATE's parts
abbrev pub judge_parts : ℕ → Update → Option Notification
judge_parts w u =
    first_check (
    refuse_if (not (are_prefixes u.withdrawn)) (update_error INVALID_NETWORK_FIELD [])
    ∷ judge_section w u.section (not (length u.nlri == 0))
    ∷ refuse_if (not (are_prefixes u.nlri)) (update_error INVALID_NETWORK_FIELD [])
    ∷ [])

-- the first fault of an UPDATE's body
unfoldable pub judge : ℕ → List ℕ → Option Notification
judge w body =
    if lengths_fit body then judge_parts w (update_parts body) else Some (update_error MALFORMED_ATTRIBUTE_LIST [])

-- a section that passes all checks with AS numbers of four octets, those for missing attributes included, and has
-- neither AS4_PATH nor AS4_AGGREGATOR, which are not sent in a session with such numbers (RFC 6793, section 4.1)
abbrev pub is_clean : List ℕ → Bool
is_clean section =
    let codes = codes_of section in
    is_none (judge_section 4 section true) && not (has_code codes AS4_PATH) && not (has_code codes AS4_AGGREGATOR)
